-- The beam record as seven numbers, in the header's order: bits, left, bottom, right, top, x, y.
use Rattle.std.specs.Prelude.{ℕ, List, [], ◌∷◌, get_or}
use Rattle.beam.specs.declared.Beam.{Beam}

unfoldable pub beam_in : List ℕ → Beam
beam_in l = record {
  bits = get_or l 0 0;
  left = get_or l 1 0;
  bottom = get_or l 2 0;
  right = get_or l 3 0;
  top = get_or l 4 0;
  x = get_or l 5 0;
  y = get_or l 6 0;
}

unfoldable pub fields_of : Beam → List ℕ
fields_of b = b.bits ∷ b.left ∷ b.bottom ∷ b.right ∷ b.top ∷ b.x ∷ b.y ∷ []
