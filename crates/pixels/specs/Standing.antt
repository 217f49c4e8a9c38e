-- What the functions behind the two writes may count on, once the tests have passed, and what they leave.
use Rattle.std.specs.Prelude.{ℕ, ◌*◌, ◌≤◌, ◌<◌, ◌≡◌, List}
use Rattle.beam.specs.declared.Beam.{Beam}
use Rattle.pixels.specs.Marks.{Mark, laid, moved}

-- "a viewport inside the surface and a beam inside the viewport"
pub record BeamInside (w h : ℕ) (beam : Beam) : Type 0 where
  pub from-left : beam.left ≤ beam.x
  pub to_right : beam.x ≤ beam.right
  pub wide : beam.right < w
  pub from-bottom : beam.bottom ≤ beam.y
  pub to_top : beam.y ≤ beam.top
  pub tall : beam.top < h

-- a surface of n bytes that the record may be used on
pub record Ready (w h : ℕ) (beam : Beam) (n : ℕ) : Type 0 where
  pub inside : BeamInside w h beam
  pub whole : n ≡ h * w
  pub narrow : w ≤ 512
  pub short : h ≤ 512

-- the record next and the bytes t are what the marks leave of the record beam and the bytes s
pub record MarksLaid (w h : ℕ) (ms : List Mark) (beam : Beam) (s : List ℕ) (next : Beam) (t : List ℕ) : Type 0 where
  pub behind : next ≡ moved ms beam
  pub surface : t ≡ laid w h ms beam s
