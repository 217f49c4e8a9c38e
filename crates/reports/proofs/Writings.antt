-- Writing a report, by what its parts gave.
use Prim.Native.Nat.{ℕ, ◌+◌, ◌≤◌, ◌<◌}
use mathlib.Core.Path.{◌≡◌, sym, ◌∙◌}
use mathlib.Core.Bool.{Bool, true, false}
use mathlib.Core.List.{List}
use native.Mathlib.Omega.{arith}
use borrow.Author.Tests.{le-leb, lt-leb}
use lib.ListN.{length, length-append, length-map}
use lib.Seq.{sets}
use lib.IntN.{ℤ, pos, nat_abs}
use mir.Syntax.{w32}
use mir.Val.{SFits, to_z, of_z}
use mir.Facts.{to_z-of_z}
use Rattle.refusals.proofs.Many.{sets_append}
use Rattle.wire.proofs.Writings.{written-so, none_changed, all_changed, before_end, outside, accepted, standing}
use Rattle.signs.specs.Signs.{is_negative}
use Rattle.characters.specs.Characters.{are_characters, as_bytes, low_bytes}
use Rattle.characters.proofs.Entries.{all_bytes}
use Rattle.reports.specs.Writing.{spell_report_of, spell_report, is_report, spell_string, is_string}

module _ (v : ℤ) (f : SFits w32 v) {m : ℕ} (em : m ≡ nat_abs (to_z w32 (of_z w32 v))) where
  size : m ≡ nat_abs v
  size = rw (to_z-of_z f) at em

  pub not_report : 65535 < m → is_report v ≡ false
  not_report h = rw (← size, lt-leb m 65535 h)

  pub a_report : m ≤ 65535 → is_report v ≡ true
  a_report h = rw (← size, le-leb m 65535 h)

  pub report_spelled : {t : Bool} {w : List ℕ} → t ≡ is_negative (to_z w32 (of_z w32 v)) → w ≡ spell_report_of m t → w ≡ spell_report v
  report_spelled {t} et e = let q : t ≡ is_negative v = rw (to_z-of_z f) at et in e ∙ rw (size, q)

-- ---- a string

module _ (vs : List ℤ) where
  pub too_long : 256 < length vs → is_string vs ≡ false
  unfolding is_string
  too_long h = rw (lt-leb (length vs) 256 h)

  module _ {t : Bool} (et : t ≡ are_characters vs) (h : length vs ≤ 256) where
    pub no_characters : t ≡ false → is_string vs ≡ false
    unfolding is_string
    no_characters e = rw (le-leb (length vs) 256 h, ← et, e)

    pub a-string : t ≡ true → is_string vs ≡ true
    unfolding is_string
    a-string e = rw (le-leb (length vs) 256 h, ← et, e)

    pub all_characters : t ≡ true → are_characters vs ≡ true
    all_characters e = sym et ∙ e

-- ---- the length is laid, and then the characters

module _ (vs : List ℤ) where
  pub string_long : 3 + length vs ≡ length (spell_string vs)
  unfolding spell_string
  string_long = let a = length-map vs nat_abs in omega (arith, length-append (spell_report (pos (length vs))) (as_bytes vs))

  pub string_laid : (l : List ℕ) (at : ℕ) {w m o : List ℕ} → are_characters vs ≡ true → w ≡ spell_report_of (length vs) false → m ≡ sets l at w → o ≡ sets m (at + 3) (low_bytes vs) → o ≡ sets l at (spell_string vs)
  unfolding spell_string
  string_laid l at {w} {m} {o} h ew em eo =
      eo ∙ rw (em, ew, all_bytes 32 vs h) (sets_append (spell_report_of (length vs) false) (as_bytes vs) l at)

pub ruleset sendings = (written-so, none_changed, all_changed, before_end, string_long, string_laid)

pub ruleset strings = (outside, none_changed, accepted, too_long, no_characters, a-string, all_characters)
