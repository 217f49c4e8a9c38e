-- "After KI 1 each plain 127 .. is passed over": a stream reads as it does without its DELs, item for item, up to the next KI.
use Prim.Native.Nat.{ℕ, zero, suc, ◌+◌, ◌≤◌, ◌<◌}
use mathlib.Core.Path.{◌≡◌, refl, sym, ◌∙◌, ap, subst}
use mathlib.Core.Bool.{Bool, true, false}
use mathlib.Core.List.{List, [], ◌∷◌}
use native.Mathlib.Omega.{arith}
use borrow.Author.Tests.{lt-ltb, le-ltb, ltb-true, ltb-false, eqb-true, ne_eqb}
use lib.Dec.{ltb, leb, eqb}
use lib.ListN.{length, get_or}
use Rattle.memory.specs.declared.DelMode.{DelMode}
use Rattle.memory.specs.declared.DelMode.TheVariants.{Data, Filler}
use Rattle.memory.specs.declared.Remembered.{Remembered}
use Rattle.memory.specs.Memory.{inside, in_mode}
use Rattle.refusals.specs.declared.Taken.{Taken}
use Rattle.refusals.specs.Answers.{Answer, done, refused, then, pick, past_front}
use Rattle.refusals.proofs.Cases.{by_pick, done-of, bool_apart}
use Rattle.refusals.proofs.Passing.{past_one, past_here, past_none}
use Rattle.wire.specs.Taking.{is_del, past_dels}
use Rattle.wire.proofs.Feeds.{dels_within}
use Rattle.table.specs.Table.{Tabled, in_table, not_in_table, kind_of, begins}
use Rattle.parameters.specs.Shapes.{Value, number, scaled, place, shape_of}
use Rattle.parameters.specs.Behind.{after_value, after_values}
use Rattle.parameters.specs.Looking.{Parsed, parameters_at}
use Rattle.commands.specs.Behind.{is_ignore_deletes, after_letters, after_command}
use Rattle.commands.specs.Reading.{letter_here, letter_at, Letters, completed, second_at, head_at, Meaning, meaning, body_at, command_at}
use Rattle.writing.proofs.Sizes.{values-mode}
use Rattle.stream.specs.Items.{Itemed, nothing, text, del, refused_command, refused_call, no_escape, passed_from, is_filler, byte_item, as_item, command_item, item_at}
use Rattle.laws.proofs.Shortest.{letter_shown, HeadShown, head_good, command-shown}
use Rattle.laws.proofs.Partition.{Ends, item-ends, none_left}
use Rattle.del_laws.specs.Padding.{without_dels, place_without, command_without, unless, item_without, SameItem, SameItems}
use Rattle.del_laws.proofs.Moving.{moved, moved_then, moved-pick, read_moved, parsed_moved, parameters_moved, entries-moved}
use Rattle.del_laws.proofs.Places.{place_end, NoDel, next_place, del-place, past_place, past_clear, end_same, byte_same, still, without_reads}

-- ---- the item at a place within the bytes, by its byte

module _ (kept : Remembered) (s : List ℕ) (start room : ℕ) (j : inside kept.point ≡ true) (h : start < length s) where
  escape_read : eqb (get_or s start 0) 27 ≡ true → item_at kept s start room ≡ as_item kept s (command_at kept s start room)
  unfolding item_at command_item
  escape_read t = rw (le-ltb (length s) start (omega (arith, h)), j, lt-ltb start (length s) h, t)

  byte_read : eqb (get_or s start 0) 27 ≡ false → item_at kept s start room ≡ byte_item kept.mode (get_or s start 0) (start + 1)
  unfolding item_at
  byte_read t = rw (le-ltb (length s) start (omega (arith, h)), j, lt-ltb start (length s) h, t)

module _ (m : DelMode) (s : List ℕ) where
  abbrev f : ℕ → ℕ
  f at = place_without s at

  abbrev r : List ℕ
  r = without_dels s

  -- ---- the letters

  here-moved : (q : ℕ) → q ≤ length s → NoDel s q → letter_here r (f q) ≡ moved f (read_moved f) (letter_here s q)
  unfolding letter_here moved
  here-moved q h clear =
      rw (end_same s q h clear)
      (moved-pick f (read_moved f) (ltb q (length s)) _ _ _ _
      (λ t. let l = ltb-true q (length s) t in
      rw (byte_same s q h clear l)
      (moved-pick f (read_moved f) (eqb (get_or s q 0) 27) _ _ _ _
      (λ u. refl)
      (λ u. ap (λ (k : ℕ). done (record { value = get_or s q 0; place = f q; next = k })) (sym (next_place s q l (clear l))))))
      (λ t. ap (refused 1) (sym (place_end s))))

  letter_moved : (at : ℕ) → at ≤ length s → letter_at m r (f at) ≡ moved f (read_moved f) (letter_at Filler s at)
  letter_moved at h =
      let q = past_dels Filler s at in
      let w = dels_within Filler s at h in
      ap (letter_here r) (ap (past_dels m r) (sym (past_place s at)) ∙ still s q w (past_clear s at) m) ∙ here-moved q w (past_clear s at)

  abbrev letters_moved : Letters → Letters
  letters_moved l = record { first = l.first; second = l.second; kind = l.kind; next = f l.next }

  completed-moved : (a : ℕ) (b : Taken ℕ) (t : Tabled) → completed a (read_moved f b) t ≡ moved f letters_moved (completed a b t)
  unfolding moved
  completed-moved a b (in_table k) = refl
  completed-moved a b not_in_table = refl

  head_moved : (at : ℕ) → at ≤ length s → head_at m r (f at) ≡ moved f letters_moved (head_at Filler s at)
  unfolding head_at second_at moved
  head_moved at h =
      moved_then f (read_moved f) letters_moved (letter_at Filler s at) _ _ _ (letter_moved at h)
      (λ a q. moved-pick f letters_moved (begins a.value) _ _ _ _
      (λ t. moved_then f (read_moved f) letters_moved (letter_at Filler s a.next) _ _ _ (letter_moved a.next (letter_shown Filler s at q).within) (λ b z. completed-moved a.value b (kind_of a.value b.value)))
      (λ t. refl))

  -- ---- what is remembered behind a command that is no KI

  value_in : (kept : Remembered) (v : Value) → after_value (in_mode kept m) v ≡ in_mode (after_value kept v) m
  value_in kept (number n v) = refl
  value_in kept (scaled a x) = refl
  value_in kept (place p) = refl

  values-in : (kept : Remembered) (vs : List Value) → after_values (in_mode kept m) vs ≡ in_mode (after_values kept vs) m
  unfolding after_values
  values-in kept [] = refl
  values-in kept (v ∷ vs) = ap (λ (k : Remembered). after_values k vs) (value_in kept v) ∙ values-in (after_value kept v) vs

  kept-moved : (kept : Remembered) (a b : ℕ) (vs : List Value) → is_ignore_deletes a b ≡ false → after_command (in_mode kept m) a b vs ≡ in_mode (after_command kept a b vs) m
  unfolding after_letters
  kept-moved kept a b vs t = rw t (values-in kept vs)

  -- ---- a whole command

  unless-so : (t : Bool) {P : Type 0} → (t ≡ false → P) → unless t P
  unless-so true h = tt
  unless-so false h = h refl

  unless-of : (t : Bool) {P : Type 0} → t ≡ false → unless t P → P
  unless-of true e h = absurd (bool_apart (sym e))
  unless-of false e h = h

  module _ (kept : Remembered) (e : kept.mode ≡ Filler) (start room : ℕ) (h : start < length s) (clear : is_del (get_or s start 0) ≡ false) where
    abbrev other : Answer Meaning
    other = command_at (in_mode kept m) r (f start) room

    unfoldable SameCommand : Answer Meaning → Type 0
    SameCommand (done c) = unless (is_ignore_deletes c.first c.second) (other ≡ done (command_without m s c))
    SameCommand (refused x p) = other ≡ refused x (f p)

    body-moved : (l : Letters) (w : l.next ≤ length s) → other ≡ body_at (in_mode kept m) (letters_moved l) r (f start) room → (b : Answer Parsed) → parameters_at kept (shape_of l.kind) s l.next ≡ b → SameCommand (then b (λ p. pick (leb p.count room) (done (meaning kept l s p)) (refused 7 start)))
    unfolding SameCommand body_at moved
    body-moved l w q (refused x p) z =
        q ∙ rw (parameters_moved f m s r (without_reads s m) kept e (shape_of l.kind) l.next w, z)
    body-moved l w q (done p) z =
        let o : other ≡ pick (leb p.count room) (done (meaning (in_mode kept m) (letters_moved l) r (parsed_moved f m p))) (refused 7 (f start)) = q ∙ rw (parameters_moved f m s r (without_reads s m) kept e (shape_of l.kind) l.next w, z) in
        by_pick SameCommand (leb p.count room) _ _
        (λ t. unless-so (is_ignore_deletes l.first l.second)
        (λ u. o ∙ rw (t, kept-moved kept l.first l.second p.values u, entries-moved f m s r (without_reads s m) kept e (shape_of l.kind) l.next w z)))
        (λ t. o ∙ rw t)

    whole-body : (l : Letters) → l.next ≤ length s → other ≡ body_at (in_mode kept m) (letters_moved l) r (f start) room → SameCommand (body_at kept l s start room)
    unfolding body_at
    whole-body l w q = body-moved l w q (parameters_at kept (shape_of l.kind) s l.next) refl

    letters-moved : other ≡ then (moved f letters_moved (head_at kept.mode s (start + 1))) (λ l. body_at (in_mode kept m) l r (f start) room)
    unfolding command_at
    letters-moved =
        let i = end_same s start (omega (arith, h)) (λ g. clear) ∙ lt-ltb start (length s) h in
        let z : head_at m r (f start + 1) ≡ moved f letters_moved (head_at kept.mode s (start + 1)) = ap (head_at m r) (sym (next_place s start h clear)) ∙ head_moved (start + 1) (omega (arith, h)) ∙ ap (λ (d : DelMode). moved f letters_moved (head_at d s (start + 1))) (sym e) in
        rw (i, z)

    head_by : (a : Answer Letters) → head_at kept.mode s (start + 1) ≡ a → SameCommand (then a (λ l. body_at kept l s start room))
    unfolding SameCommand moved
    head_by (refused x p) q = letters-moved ∙ rw q
    head_by (done l) q =
        whole-body l (done-of (HeadShown s (start + 1)) (head_good kept.mode s (start + 1)) q).room (letters-moved ∙ rw q)

    command-moved : SameCommand (command_at kept s start room)
    unfolding command_at
    command-moved = rw (lt-ltb start (length s) h) (head_by (head_at kept.mode s (start + 1)) refl)

  -- ---- passing bytes over behind a refused command

  passed_by : (p : ℕ) → p < length s → passed_from r (f (p + 1)) ≡ f (passed_from s (p + 1)) → (t : Bool) → is_del (get_or s p 0) ≡ t → (u : Bool) → no_escape (get_or s p 0) ≡ u → passed_from r (f p) ≡ f (passed_from s p)
  unfolding passed_from
  passed_by p h rest true d true o =
      ap (past_front no_escape r) (sym (del-place s p h d)) ∙ rest ∙ ap f (sym (past_one no_escape s p h o))
  passed_by p h rest false d true o =
      let l : f p < length r = ltb-true (f p) (length r) (end_same s p (omega (arith, h)) (λ g. d) ∙ lt-ltb p (length s) h) in
      let b : no_escape (get_or r (f p) 0) ≡ true = ap no_escape (byte_same s p (omega (arith, h)) (λ g. d) h) ∙ o in
      past_one no_escape r (f p) l b ∙ ap (past_front no_escape r) (sym (next_place s p h d)) ∙ rest ∙ ap f (sym (past_one no_escape s p h o))
  passed_by p h rest true d false o = absurd (apart (get_or s p 0) d o)
    where
      apart : (b : ℕ) → is_del b ≡ true → no_escape b ≡ false → ⊥
      apart b x y = let z : b ≡ 127 = eqb-true b 127 x in bool_apart (sym y ∙ ap no_escape z)
  passed_by p h rest false d false o =
      let l : f p < length r = ltb-true (f p) (length r) (end_same s p (omega (arith, h)) (λ g. d) ∙ lt-ltb p (length s) h) in
      let b : no_escape (get_or r (f p) 0) ≡ false = ap no_escape (byte_same s p (omega (arith, h)) (λ g. d) h) ∙ o in
      past_here no_escape r (f p) l b ∙ ap f (sym (past_here no_escape s p h o))

  passed_end : (p : ℕ) → length s ≤ p → p ≤ length s → passed_from r (f p) ≡ f (passed_from s p)
  unfolding passed_from
  passed_end p h w =
      let z : p ≡ length s = omega arith in
      let q : length r ≤ f p = omega (arith, ap f z ∙ place_end s) in
      past_none no_escape r (f p) q ∙ ap f (sym (past_none no_escape s p h))

  passed_moved : (k p : ℕ) → length s ≤ p + k → p ≤ length s → passed_from r (f p) ≡ f (passed_from s p)
  passed_moved zero p h w = passed_end p (omega arith) w
  passed_moved (suc k) p h w =
      by_pick (λ (b : Bool). passed_from r (f p) ≡ f (passed_from s p)) (ltb p (length s)) true false
      (λ t. let l = ltb-true p (length s) t in passed_by p l (passed_moved k (p + 1) (omega arith) (omega (arith, l))) (is_del (get_or s p 0)) refl (no_escape (get_or s p 0)) refl)
      (λ t. passed_end p (ltb-false p (length s) t) w)

  -- ---- an item, and what comes behind it

  module _ (room : ℕ) (rest : Remembered → ℕ → Type 0) (holds : (k : Remembered) (n : ℕ) → k.mode ≡ Filler → inside k.point ≡ true → n ≤ length s → rest k n) (kept : Remembered) (e : kept.mode ≡ Filler) (j : inside kept.point ≡ true) (start : ℕ) where
    abbrev P : Itemed Meaning → Type 0
    P = SameItem m s room rest kept start

    abbrev there : Itemed Meaning
    there = item_without m s room kept start

    ended : start ≡ length s → there ≡ nothing
    unfolding item_at
    ended z =
        let q : f start ≡ length r = ap f z ∙ place_end s in
        rw (le-ltb (length r) (f start) (omega (arith, q)), j, le-ltb (f start) (length r) (omega (arith, q)))

    module _ (h : start < length s) where
      module _ (clear : is_del (get_or s start 0) ≡ false) where
        inside-there : f start < length r
        inside-there = ltb-true (f start) (length r) (end_same s start (omega (arith, h)) (λ g. clear) ∙ lt-ltb start (length s) h)

        byte_there : get_or r (f start) 0 ≡ get_or s start 0
        byte_there = byte_same s start (omega (arith, h)) (λ g. clear) h

        no_filler : (d : DelMode) → is_filler d (get_or s start 0) ≡ false
        unfolding is_filler
        no_filler Data = refl
        no_filler Filler = clear

        a_text : eqb (get_or s start 0) 27 ≡ false → there ≡ text (get_or s start 0) (f (start + 1))
        unfolding item_at
        a_text t =
            rw (le-ltb (length r) (f start) (omega (arith, inside-there)), j, lt-ltb (f start) (length r) inside-there, byte_there, t, no_filler m, next_place s start h clear)

        a_command : eqb (get_or s start 0) 27 ≡ true → there ≡ as_item (in_mode kept m) r (command_at (in_mode kept m) r (f start) room)
        unfolding item_at command_item
        a_command t =
            rw (le-ltb (length r) (f start) (omega (arith, inside-there)), j, lt-ltb (f start) (length r) inside-there, byte_there, t)

        text_same : eqb (get_or s start 0) 27 ≡ false → P (text (get_or s start 0) (start + 1))
        unfolding SameItem
        text_same t = (a_text t, holds kept (start + 1) e j (omega (arith, h)))

        -- no KI leaves the mode
        still_filler : {c : Meaning} → command_at kept s start room ≡ done c → is_ignore_deletes c.first c.second ≡ false → c.kept.mode ≡ Filler
        unfolding after_letters
        still_filler {c} q t =
            let k = (command-shown kept s start room q).kept-is in
            let w : after_command kept c.first c.second c.values ≡ after_values kept c.values = rw t in
            ap (λ (x : Remembered). x.mode) (k ∙ w) ∙ values-mode kept c.values ∙ e

        answer_same : eqb (get_or s start 0) 27 ≡ true → (a : Answer Meaning) → command_at kept s start room ≡ a → SameCommand kept e start room h clear a → Ends s room kept start (as_item kept s a) → P (as_item kept s a)
        unfolding SameItem SameCommand Ends
        answer_same t (done c) q same ends =
            unless-so (is_ignore_deletes c.first c.second)
            (λ u. (a_command t ∙ ap (as_item (in_mode kept m) r) (unless-of (is_ignore_deletes c.first c.second) u same), holds c.kept c.next (still_filler q u) ends.1 ends.0.1))
        answer_same t (refused x p) q same ends =
            by_pick_with (eqb x 7) refl
          where
            by_pick_with : (b : Bool) → eqb x 7 ≡ b → P (pick (eqb x 7) (refused_call x p) (refused_command x p (passed_from s p) kept))
            by_pick_with true b = rw b (a_command t ∙ rw (same, b))
            by_pick_with false b =
                let g : (((1 ≤ x) × (x ≤ 6)) × ((start < p) × ((p ≤ passed_from s p) × (passed_from s p ≤ length s)))) × (kept ≡ kept) = rw b at ends in
                let l = g.0.1.1 in
                rw b (a_command t ∙ rw (same, b, passed_moved (length s) p (omega arith) (omega (arith, l.0, l.1))), holds kept (passed_from s p) e j l.1)

        command-same : eqb (get_or s start 0) 27 ≡ true → P (item_at kept s start room)
        command-same t =
            let i : item_at kept s start room ≡ as_item kept s (command_at kept s start room) = here t in
            let ends : Ends s room kept start (as_item kept s (command_at kept s start room)) = subst (Ends s room kept start) i (item-ends kept s start room j h) in
            subst P (sym i) (answer_same t (command_at kept s start room) refl (command-moved kept e start room h clear) ends)
          where
            here : eqb (get_or s start 0) 27 ≡ true → item_at kept s start room ≡ as_item kept s (command_at kept s start room)
            here u = escape_read kept s start room j h u

        byte_same_item : P (item_at kept s start room)
        byte_same_item =
            by_pick (λ (b : Bool). P (item_at kept s start room)) (eqb (get_or s start 0) 27) true false
            (λ t. command-same t)
            (λ t. subst P (sym (byte_read kept s start room j h t ∙ rw (e, no_filler Filler))) (text_same t))

      del-same : is_del (get_or s start 0) ≡ true → P (item_at kept s start room)
      unfolding SameItem is_filler
      del-same d =
          let n : eqb (get_or s start 0) 27 ≡ false = ne_eqb (get_or s start 0) 27 (λ q. let z : ◌≡◌ {A = ℕ} 27 127 = sym q ∙ eqb-true (get_or s start 0) 127 d in omega (arith, z)) in
          let i : item_at kept s start room ≡ del (start + 1) = byte_read kept s start room j h n ∙ rw (e, d) in
          subst P (sym i) (del-place s start h d, holds kept (start + 1) e j (omega (arith, h)))

    pub item-same : start ≤ length s → P (item_at kept s start room)
    unfolding SameItem
    item-same w =
        by_pick (λ (b : Bool). P (item_at kept s start room)) (ltb start (length s)) true false
        (λ t. let h = ltb-true start (length s) t in
        by_pick (λ (b : Bool). P (item_at kept s start room)) (is_del (get_or s start 0)) true false (λ d. del-same h d) (λ d. byte_same_item h d))
        (λ t. let z : start ≡ length s = omega (arith, ltb-false start (length s) t) in subst P (sym (none_left kept s start room j z)) (ended z))

  -- so a stream that is read after KI 1 is, up to the next KI, the stream without its DELs, read in either mode
  pub padding_passed_over : (room k : ℕ) (kept : Remembered) (start : ℕ) → kept.mode ≡ Filler → inside kept.point ≡ true → start ≤ length s → SameItems m s room k kept start
  unfolding SameItems
  padding_passed_over room zero kept start e j w = tt
  padding_passed_over room (suc k) kept start e j w =
      item-same room (SameItems m s room k) (λ x n g i l. padding_passed_over room k x n g i l) kept e j start w
