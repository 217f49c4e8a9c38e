-- What is remembered behind the values of a command: "those of the last point".
use Rattle.std.specs.Prelude.{List, [], ◌∷◌}
use Rattle.memory.specs.declared.Remembered.{Remembered}
use Rattle.memory.specs.Memory.{remember}
use Rattle.parameters.specs.Shapes.{Value, number, scaled, place}

abbrev pub after_value : Remembered → Value → Remembered
after_value kept (number e v) = kept
after_value kept (scaled m x) = kept
after_value kept (place p) = remember kept p

unfoldable pub after_values : Remembered → List Value → Remembered
after_values kept [] = kept
after_values kept (v ∷ vs) = after_values (after_value kept v) vs
