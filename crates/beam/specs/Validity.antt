-- "The record holds bits (0 when fresh, else 1, 2, 3 or 6), a viewport inside the surface and a beam inside the viewport."
-- "(0,0) is the lower left"
use Rattle.std.specs.Prelude.{ℕ, Bool, ◌&&◌, ◌||◌, leb, ltb, eqb}
use Rattle.beam.specs.declared.Beam.{Beam}

-- "W and H are each 1..512"
unfoldable pub is_size : ℕ → ℕ → Bool
is_size w h = leb 1 w && (leb w 512 && (leb 1 h && leb h 512))

unfoldable pub is_bits : ℕ → Bool
is_bits b = eqb b 1 || (eqb b 2 || (eqb b 3 || eqb b 6))

unfoldable pub on_surface : (w h x y : ℕ) → Bool
on_surface w h x y = ltb x w && ltb y h

-- the edges belong to the viewport
unfoldable pub in_viewport : Beam → (x y : ℕ) → Bool
in_viewport r x y = leb r.left x && (leb x r.right && (leb r.bottom y && leb y r.top))

-- the viewport lies inside the surface where its upper right corner does
unfoldable pub is_valid : (w h : ℕ) → Beam → Bool
is_valid w h r = on_surface w h r.right r.top && (in_viewport r r.x r.y && (eqb r.bits 0 || is_bits r.bits))
