-- A parameter's bytes as they are sent: what is sent of bytes one behind the other, how many they are, and one byte stored where there is room.
use Prim.Native.Nat.{ℕ, ◌+◌, ◌-◌, ◌*◌, ◌≤◌, ◌<◌}
use mathlib.Core.Path.{◌≡◌, refl, sym, ◌∙◌, ap}
use mathlib.Core.Bool.{true}
use mathlib.Core.List.{List, [], ◌∷◌, ◌++◌, append_assoc}
use native.Mathlib.Omega.{arith}
use borrow.Author.Tests.{ne_eqb}
use lib.Dec.{eqb}
use lib.ListN.{length, set, length-append}
use lib.Seq.{sets}
use Rattle.memory.specs.declared.DelMode.{DelMode}
use Rattle.memory.specs.declared.DelMode.TheVariants.{Data, Filler}
use Rattle.memory.specs.declared.Remembered.{Remembered}
use Rattle.refusals.proofs.Cases.{by_pick, bool_apart}
use Rattle.refusals.proofs.Many.{past_end, sets_append}
use Rattle.wire.specs.Sending.{paired, sent_in, sent, plain_in, is_plain}

-- bytes one behind the other are sent one behind the other
append_in : (m : DelMode) (v w : List ℕ) → sent_in m (v ++ w) ≡ sent_in m v ++ sent_in m w
unfolding sent_in
append_in Data v w = refl
append_in Filler [] w = refl
append_in Filler (b ∷ v) w =
    ap (λ (l : List ℕ). paired b ++ l) (append_in Filler v w) ∙ sym (append_assoc (paired b) (sent_in Filler v) (sent_in Filler w))

pub sent-append : (kept : Remembered) (v w : List ℕ) → sent kept (v ++ w) ≡ sent kept v ++ sent kept w
unfolding sent
sent-append kept v w = append_in kept.mode v w

plain_in_lem : (m : DelMode) (w : List ℕ) → plain_in m ≡ true → sent_in m w ≡ w
unfolding sent_in plain_in
plain_in_lem Data w e = refl
plain_in_lem Filler w e = absurd (bool_apart e)

pub sent-plain : (kept : Remembered) (w : List ℕ) → is_plain kept ≡ true → sent kept w ≡ w
unfolding sent is_plain
sent-plain kept w e = plain_in_lem kept.mode w e

none_in : (m : DelMode) → sent_in m [] ≡ []
unfolding sent_in
none_in Data = refl
none_in Filler = refl

pub sent-none : (kept : Remembered) → sent kept [] ≡ []
unfolding sent
sent-none kept = none_in kept.mode

-- no byte becomes more than two
paired_long : (b : ℕ) → length (paired b) ≤ 2
paired_long b = by_pick (λ (l : List ℕ). length l ≤ 2) (eqb b 127) _ _ (λ t. omega arith) (λ t. omega arith)

pub sent-long_in : (m : DelMode) (w : List ℕ) → length (sent_in m w) ≤ 2 * length w
unfolding sent_in
sent-long_in Data w = omega arith
sent-long_in Filler [] = omega arith
sent-long_in Filler (b ∷ w) =
    omega (arith, paired_long b, sent-long_in Filler w, length-append (paired b) (sent_in Filler w))

pub sent-long : (kept : Remembered) (w : List ℕ) → length (sent kept w) ≤ 2 * length w
unfolding sent
sent-long kept w = sent-long_in kept.mode w

pub sent_same : (kept : Remembered) (w : List ℕ) {v : List ℕ} → v ≡ w → sent kept v ≡ sent kept w
sent_same kept w e = ap (sent kept) e

-- ---- one byte

-- each but 127 as itself
itself_in : (m : DelMode) (b : ℕ) → (b ≡ 127 → ⊥) → sent_in m (b ∷ []) ≡ b ∷ []
unfolding sent_in
itself_in Data b e = refl
itself_in Filler b e = rw (ne_eqb b 127 e)

pub sent-itself : (kept : Remembered) (b : ℕ) → (b ≡ 127 → ⊥) → sent kept (b ∷ []) ≡ b ∷ []
unfolding sent
sent-itself kept b e = itself_in kept.mode b e

module _ (kept : Remembered) (b : ℕ) (e : b ≡ 127 → ⊥) where
  pub one_size : 1 ≡ length (sent kept (b ∷ []))
  one_size = sym (ap length (sent-itself kept b e))

  pub one-stands : (l : List ℕ) (at : ℕ) {o : List ℕ} → o ≡ sets l at (b ∷ []) → o ≡ sets l at (sent kept (b ∷ []))
  one-stands l at j = rw (sent-itself kept b e) j

-- a 127 that was found to be one
pub del-size : (kept : Remembered) (b : ℕ) {n : ℕ} → b ≡ 127 → n ≡ length (sent kept (127 ∷ [])) → n ≡ length (sent kept (b ∷ []))
del-size kept b e j = rw e j

pub del-stands : (kept : Remembered) (b : ℕ) (l : List ℕ) (at : ℕ) {o : List ℕ} → b ≡ 127 → o ≡ sets l at (sent kept (127 ∷ [])) → o ≡ sets l at (sent kept (b ∷ []))
del-stands kept b l at e j = rw e j

-- as data, and as the pair
module _ (kept : Remembered) {m : DelMode} (em : m ≡ kept.mode) where
  sent-in : (w : List ℕ) → sent_in m w ≡ sent kept w
  unfolding sent
  sent-in w = rw em

  module _ (g : m ≡ Data) where
    as_data : (w : List ℕ) → w ≡ sent kept w
    unfolding sent_in
    as_data w = rw g at (sent-in w)

    pub data_size : 1 ≡ length (sent kept (127 ∷ []))
    data_size = ap length (as_data (127 ∷ []))

    pub data_stands : (l : List ℕ) (at : ℕ) {o : List ℕ} → o ≡ sets l at (127 ∷ []) → o ≡ sets l at (sent kept (127 ∷ []))
    data_stands l at j = j ∙ ap (λ (w : List ℕ). sets l at w) (as_data (127 ∷ []))

  module _ (g : m ≡ Filler) where
    as_pair : 27 ∷ 63 ∷ [] ≡ sent kept (127 ∷ [])
    unfolding sent_in
    as_pair = rw g at (sent-in (127 ∷ []))

    pub pair_size : 2 ≡ length (sent kept (127 ∷ []))
    pair_size = ap length as_pair

    pub pair-stands : (l : List ℕ) (at : ℕ) {o : List ℕ} → o ≡ sets l at (27 ∷ 63 ∷ []) → o ≡ sets l at (sent kept (127 ∷ []))
    pair-stands l at j = j ∙ ap (λ (w : List ℕ). sets l at w) as_pair

-- ---- stored where there is room

module _ (l : List ℕ) (at n : ℕ) (w : List ℕ) where
  pub none_behind : length l ≤ n → l ≡ sets l (at + n) w
  none_behind h = sym (past_end l (at + n) w (omega arith))

  pub none_past : length l ≤ at → l ≡ sets l (at + n) w
  none_past h = sym (past_end l (at + n) w (omega arith))

  pub none_full : at < length l → length l - at ≤ n → l ≡ sets l (at + n) w
  none_full h k = sym (past_end l (at + n) w (omega arith))

pub one-stored : (l : List ℕ) (at n b : ℕ) → set l (at + n) b ≡ sets l (at + n) (b ∷ [])
one-stored l at n b = refl

-- two bytes, one behind the other
pub two_stored : (l : List ℕ) (at n a b : ℕ) {m o : List ℕ} → m ≡ sets l (at + n) (a ∷ []) → o ≡ sets m (at + (n + 1)) (b ∷ []) → o ≡ sets l (at + n) (a ∷ b ∷ [])
two_stored l at n a b e j =
    let z : at + (n + 1) ≡ at + n + 1 = omega arith in
    j ∙ rw (e, z) (sets_append (a ∷ []) (b ∷ []) l (at + n))

pub one_first : (kept : Remembered) (b : ℕ) (l : List ℕ) (at : ℕ) {o : List ℕ} → o ≡ sets l (at + 0) (sent kept (b ∷ [])) → o ≡ sets l at (sent kept (b ∷ []))
one_first kept b l at j = let z : at + 0 ≡ at = omega arith in rw z at j

pub ruleset storings = (none_past, none_full, one-stored)

pub ruleset dels = (data_size, data_stands, pair_size, pair-stands)

pub ruleset ones = (del-size, del-stands, one_size, one-stands)

pub ruleset pairs = (none_behind, two_stored)
