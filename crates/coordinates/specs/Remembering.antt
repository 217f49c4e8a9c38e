-- What is remembered, as other languages hand it in: three numbers, the point's x and y and the DEL mode, numbered as KI sets it.
use Rattle.std.specs.Prelude.{ℕ, List, [], ◌∷◌, eqb, get_or}
use Rattle.memory.specs.declared.DelMode.{DelMode}
use Rattle.memory.specs.declared.DelMode.TheVariants.{Data, Filler}
use Rattle.memory.specs.declared.Remembered.{Remembered}
use Rattle.refusals.specs.Answers.{pick}
use Rattle.coordinates.specs.Coordinates.{outside}

unfoldable pub mode_number : DelMode → ℕ
mode_number Data = 0
mode_number Filler = 1

unfoldable pub slots_of : Remembered → List ℕ
slots_of kept = kept.point.x ∷ kept.point.y ∷ mode_number kept.mode ∷ []

-- the point of the first two slots, in this mode
abbrev pub point_in : List ℕ → DelMode → Remembered
point_in l mode = record { point = record { x = get_or l 0 0; y = get_or l 1 0 }; mode = mode }

-- stands for every mode that is neither 0 nor 1, "value out of range": each call gives 8, as for "a remembered point outside 0..4095"
abbrev pub no_mode : Remembered
no_mode = record { point = record { x = outside; y = outside }; mode = Data }

unfoldable pub kept_in : List ℕ → Remembered
kept_in l = pick (eqb (get_or l 2 0) 0) (point_in l Data) (pick (eqb (get_or l 2 0) 1) (point_in l Filler) no_mode)
