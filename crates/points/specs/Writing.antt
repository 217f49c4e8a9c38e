-- "The writer leaves out all that it may."
use Rattle.std.specs.Prelude.{ℕ, Bool, ◌&&◌, List, [], ◌∷◌, ◌++◌, eqb}
use Rattle.memory.specs.declared.Point.{Point}
use Rattle.memory.specs.declared.Remembered.{Remembered}
use Rattle.memory.specs.Memory.{inside}
use Rattle.refusals.specs.Answers.{Answer, pick}
use Rattle.wire.specs.Sending.{sent, write_if}
use Rattle.points.specs.declared.PointBytes.{PointBytes}
use Rattle.points.specs.Layout.{bytes_of}

abbrev pub part : Bool → ℕ → List ℕ
part leftOut b = pick leftOut [] (b ∷ [])

-- HiY, Extra and LoY, where it is settled whether LoY is left out
abbrev pub upper_bytes : (last this : PointBytes) → (leftOut : Bool) → List ℕ
upper_bytes a b leftOut = part (eqb a.hiy b.hiy) b.hiy ++ part (eqb a.extra b.extra) b.extra ++ part leftOut b.loy

-- LoY may be left out only with Extra and HiX: "Extra needs LoY after it, and HiX needs LoY before it"
abbrev pub omits_lo_y : (last this : PointBytes) → Bool
omits_lo_y a b = eqb a.loy b.loy && (eqb a.extra b.extra && eqb a.hix b.hix)

unfoldable pub spell_bytes : (last this : PointBytes) → List ℕ
spell_bytes a b =
    part (eqb a.hiy b.hiy) b.hiy
    ++ part (eqb a.extra b.extra) b.extra
    ++ part (omits_lo_y a b) b.loy
    ++ part (eqb a.hix b.hix) b.hix
    ++ (b.lox ∷ [])

abbrev pub spell_point : (last this : Point) → List ℕ
spell_point last this = spell_bytes (bytes_of last) (bytes_of this)

-- "a value or remembered point outside its range"
abbrev pub write_point : Remembered → Point → ℕ → ℕ → Answer ℕ
write_point kept p room at = write_if (inside kept.point && inside p) (sent kept (spell_point kept.point p)) room at
