-- What is remembered between commands.
use Rattle.std.specs.Prelude.{ℕ, Bool, ◌&&◌, leb}
use Rattle.memory.specs.declared.Point.{Point}
use Rattle.memory.specs.declared.DelMode.{DelMode}
use Rattle.memory.specs.declared.DelMode.TheVariants.{Data}
use Rattle.memory.specs.declared.Remembered.{Remembered}

-- "A fresh remembered point is (0,0)." "The mode goes with the remembered point, fresh 0"
abbrev pub fresh_memory : Remembered
fresh_memory = record { point = record { x = 0; y = 0 }; mode = Data }

-- the largest coordinate of a point
abbrev pub most_coordinate : ℕ
most_coordinate = 4095

-- "x and y 0..4095"
abbrev pub inside : Point → Bool
inside p = leb p.x most_coordinate && leb p.y most_coordinate

-- what is remembered once this point has been read or written
abbrev pub remember : Remembered → Point → Remembered
remember kept p = record { point = p; mode = kept.mode }

-- and once KI has set this mode
abbrev pub in_mode : Remembered → DelMode → Remembered
in_mode kept m = record { point = kept.point; mode = m }
