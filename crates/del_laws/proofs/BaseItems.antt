-- Where 127 is data an item is document 01's; only behind KI 1 another mode is remembered.
use Prim.Native.Nat.{ℕ, zero, suc, ◌+◌}
use mathlib.Core.Path.{◌≡◌, refl, sym, ◌∙◌, ap}
use mathlib.Core.Bool.{Bool, true, false, not, ◌&&◌}
use mathlib.Core.List.{List, ◌∷◌}
use native.Mathlib.Omega.{arith}
use borrow.Author.Tests.{ne_eqb}
use lib.Dec.{ltb, leb, eqb}
use lib.ListN.{length, get_or}
use lib.IntN.{ℤ, pos, negsuc}
use Rattle.memory.specs.declared.DelMode.{DelMode}
use Rattle.memory.specs.declared.DelMode.TheVariants.{Data, Filler}
use Rattle.memory.specs.declared.Remembered.{Remembered}
use Rattle.memory.specs.Memory.{inside, in_mode}
use Rattle.refusals.specs.Answers.{Answer, done, refused, then, pick, every}
use Rattle.refusals.proofs.Cases.{by_pick, by_then, Done, is-done, not_done, and_left, and_right, bool_apart}
use Rattle.wire.specs.Taking.{past_dels}
use Rattle.parameters.specs.Shapes.{shape_of}
use Rattle.parameters.specs.Behind.{after_values}
use Rattle.parameters.specs.Looking.{Parsed, parameters_at}
use Rattle.parameters.proofs.Kept.{parsed_kept}
use Rattle.commands.specs.Behind.{leading, is_ignore_deletes, mode_by, after_letters}
use Rattle.commands.specs.Reading.{second_at, head_at, Letters, Meaning, meaning, body_at, command_at}
use Rattle.stream.specs.Items.{Itemed, nothing, text, del, command, refused_command, refused_call, passed_from, is_filler, byte_item, as_item, command_item, item_at, told_item, next_start, next_kept}
use Rattle.del_laws.specs.Padding.{anew}
use Rattle.del_laws.specs.Base.{point_alone, base_parameters}
use Rattle.del_laws.specs.BaseItems.{base_head, base_meaning, base_body, base_command, base_item, is_one, is_ignore_deletes_one, since_k2, item_since_k2, items_by, items_of, base_at, base_items, no_ignore_deletes_one}
use Rattle.del_laws.proofs.Moving.{kept-mode}
use Rattle.del_laws.proofs.Base.{then_same, then-then, alone, parameters_so, entries-so}

-- ---- behind a KI: "KI 0 returns to the old reading; other numbers leave the mode"

mode-by : (v : ℤ) → mode_by Data v ≡ pick (is_one v) Filler Data
unfolding mode_by
mode-by (pos zero) = refl
mode-by (pos (suc n)) = rw (ne_eqb (suc n) 0 (λ q. omega (arith, q)))
mode-by (negsuc n) = refl

pub data_behind : (kept : Remembered) (a b : ℕ) (v : ℤ) → kept.mode ≡ Data → after_letters kept a b v ≡ pick (is_ignore_deletes a b && is_one v) (in_mode kept Filler) kept
unfolding after_letters
data_behind kept a b v e =
    ap (λ (m : DelMode). pick (is_ignore_deletes a b) (in_mode kept m) kept) (ap (λ (m : DelMode). mode_by m v) e ∙ mode-by v) ∙ by (is_ignore_deletes a b) (is_one v)
  where
    by : (t o : Bool) → pick t (in_mode kept (pick o Filler Data)) kept ≡ pick (t && o) (in_mode kept Filler) kept
    by true true = refl
    by true false = sym (alone e)
    by false o = refl

abbrev answer_since : Answer Meaning → Answer Meaning
answer_since a = then a (λ c. done (since_k2 c))

pick-by : {A B : Type 0} (f : A → B) (t : Bool) (x y : B) (x' y' : A) → x ≡ f x' → y ≡ f y' → pick t x y ≡ f (pick t x' y')
pick-by f true x y x' y' h k = h
pick-by f false x y x' y' h k = k

module _ (kept : Remembered) (e : kept.mode ≡ Data) (s : List ℕ) where
  -- ---- a whole command

  head_so : (at : ℕ) → head_at kept.mode s at ≡ base_head s at
  unfolding head_at second_at past_dels base_head
  head_so at = rw e

  parsed_mode : (p : Parsed) → p.kept ≡ after_values kept p.values → p.kept.mode ≡ Data
  parsed_mode p q = kept-mode kept p.values q ∙ e

  meaning-so : (h : Letters) (p : Parsed) → p.kept ≡ after_values kept p.values → meaning kept h s p ≡ since_k2 (base_meaning h s p)
  meaning-so h p q =
      let d = parsed_mode p q in
      rw (← q, entries-so s p d, data_behind p.kept h.first h.second (leading p.values) d)
      (sym (pick-by (anew (base_meaning h s p) p.next) (is_ignore_deletes_one (base_meaning h s p)) _ _ _ _ refl refl))

  body-so : (h : Letters) (start room : ℕ) → body_at kept h s start room ≡ answer_since (base_body kept.point h s start room)
  unfolding body_at base_body
  body-so h start room =
      let shape = shape_of h.kind in
      then_same (parameters_at kept shape s h.next) (parameters_so s kept shape h.next e)
      (λ p q. pick-by answer_since (leb p.count room) _ _ _ _ (ap done (meaning-so h p (parsed_kept kept shape s h.next q))) refl)
      ∙ sym (then-then (base_parameters s kept.point shape h.next) _ _)

  command-so : (start room : ℕ) → command_at kept s start room ≡ answer_since (base_command kept.point s start room)
  unfolding command_at base_command
  command-so start room =
      pick-by answer_since (ltb start (length s)) _ _ _ _
      (then_same (head_at kept.mode s (start + 1)) (head_so (start + 1)) (λ h q. body-so h start room) ∙ sym (then-then (base_head s (start + 1)) _ _))
      refl

  -- ---- an item

  as-item : (a : Answer Meaning) → as_item kept s (answer_since a) ≡ item_since_k2 (as_item (point_alone kept.point) s a)
  as-item (done c) = refl
  as-item (refused x p) = pick-by item_since_k2 (eqb x 7) _ _ _ _ refl (ap (refused_command x p (passed_from s p)) (alone e))

  byte_so : (b n : ℕ) → byte_item kept.mode b n ≡ text b n
  unfolding is_filler
  byte_so b n = rw e

  pub data_item : (start room : ℕ) → item_at kept s start room ≡ item_since_k2 (base_item kept.point s start room)
  unfolding item_at base_item command_item
  data_item start room =
      let base = base_command kept.point s start room in
      pick-by item_since_k2 (ltb (length s) start) _ _ _ _ refl
      (pick-by item_since_k2 (inside kept.point) _ _ _ _
      (pick-by item_since_k2 (ltb start (length s)) _ _ _ _
      (pick-by item_since_k2 (eqb (get_or s start 0) 27) _ _ _ _
      (ap (as_item kept s) (command-so start room) ∙ as-item base)
      (byte_so (get_or s start 0) (start + 1)))
      refl)
      refl)

  -- ---- what document 01 remembers has no mode: where it goes on, 127 is data

  InData : Meaning → Type 0
  InData c = c.kept.mode ≡ Data

  base_mode : (start room : ℕ) → Done InData (base_command kept.point s start room)
  unfolding InData base_command base_body
  base_mode start room =
      by_pick (Done InData) (ltb start (length s)) _ _
      (λ t. by_then (Done InData) (base_head s (start + 1)) _
      (λ h q. let shape = shape_of h.kind in
      by_then (Done InData) (base_parameters s kept.point shape h.next) _
      (λ p z. by_pick (Done InData) (leb p.count room) _ _
      (λ u. is-done InData (parsed_mode p (parsed_kept kept shape s h.next (parameters_so s kept shape h.next e ∙ z))))
      (λ u. not_done InData 7 start))
      (λ x y z. not_done InData x y))
      (λ x y q. not_done InData x y))
      (λ t. not_done InData 1 (length s))

  abbrev Stays : Itemed Meaning → Type 0
  Stays i = (next_kept kept (told_item i)).mode ≡ Data

  answer_stays : (a : Answer Meaning) → Done InData a → Stays (as_item (point_alone kept.point) s a)
  unfolding Done InData told_item next_kept
  answer_stays (done c) d = d
  answer_stays (refused x p) d = by_pick Stays (eqb x 7) _ _ (λ t. e) (λ t. refl)

  base_stays : (start room : ℕ) → Stays (base_item kept.point s start room)
  unfolding base_item told_item next_kept
  base_stays start room =
      by_pick Stays (ltb (length s) start) _ _
      (λ t. e)
      (λ t. by_pick Stays (inside kept.point) _ _
      (λ i. by_pick Stays (ltb start (length s)) _ _
      (λ h. by_pick Stays (eqb (get_or s start 0) 27) _ _ (λ u. answer_stays (base_command kept.point s start room) (base_mode start room)) (λ u. e))
      (λ h. e))
      (λ i. e))

-- ---- a stream

not_picked : {A : Type 0} (t : Bool) (x y : A) → not t ≡ true → pick t x y ≡ y
not_picked true x y h = absurd (bool_apart h)
not_picked false x y h = refl

since_same : (i : Itemed Meaning) → no_ignore_deletes_one i ≡ true → item_since_k2 i ≡ i
since_same nothing h = refl
since_same (text b n) h = refl
since_same (del n) h = refl
since_same (command c) h = ap command (not_picked (is_ignore_deletes_one c) _ c h)
since_same (refused_command x p n k) h = refl
since_same (refused_call x p) h = refl

stream_so : (s : List ℕ) (room k : ℕ) (kept : Remembered) (start : ℕ) → kept.mode ≡ Data → every no_ignore_deletes_one (items_by (base_at s room) k kept start) ≡ true → items_of s room k kept start ≡ items_by (base_at s room) k kept start
unfolding items_by every
stream_so s room zero kept start e h = refl
stream_so s room (suc k) kept start e h =
    let i = base_item kept.point s start room in
    let same : item_at kept s start room ≡ i = data_item kept e s start room ∙ since_same i (and_left (no_ignore_deletes_one i) _ h) in
    rw same
    (ap (λ (l : List (Itemed Meaning)). i ∷ l) (stream_so s room k (next_kept kept (told_item i)) (next_start start (told_item i)) (base_stays kept e s start room) (and_right (no_ignore_deletes_one i) _ h)))

-- as long as no KI 1 is among them, the items of a stream are those of document 01
pub data_stream : (s : List ℕ) (room k : ℕ) (kept : Remembered) (start : ℕ) → kept.mode ≡ Data → every no_ignore_deletes_one (base_items s room k kept.point start) ≡ true → items_of s room k kept start ≡ base_items s room k kept.point start
data_stream s room k kept start e h =
    ap (λ (now : Remembered). items_of s room k now start) (alone e) ∙ stream_so s room k (point_alone kept.point) start refl h
