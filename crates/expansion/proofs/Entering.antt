-- Entering a macro, by the tests in the paper's order.
use Prim.Native.Nat.{ℕ, zero, suc, ◌+◌, ◌-◌, ◌≤◌, ◌<◌}
use mathlib.Core.Path.{◌≡◌, refl, sym, ◌∙◌, ap, subst}
use mathlib.Core.Bool.{Bool, true, false}
use mathlib.Core.List.{List, []}
use native.Mathlib.Numerals.{sub-one}
use native.Mathlib.Omega.{arith}
use borrow.Author.Tests.{eq-eqb, ne_eqb, lt-ltb, le-ltb}
use lib.ListN.{length}
use lib.IntN.{ℤ}
use mir.Syntax.{w32}
use mir.Val.{SFits, to_z, of_z}
use mir.Facts.{to_z-of_z}
use Rattle.memory.specs.declared.Remembered.{Remembered}
use Rattle.refusals.specs.declared.Refusal.TheVariants.{NotValid, TooDeep, TooManyMacros}
use Rattle.signs.specs.Signs.{is_negative}
use Rattle.macros.specs.Store.{three_bytes, well_formed, looked_up, looked_by_headers}
use Rattle.macros.proofs.Layouts.{three-lawful}
use Rattle.macros.proofs.Headers.{headers_look}
use Rattle.expansion.proofs.Bodies.{looked_up-short}
use Rattle.std.specs.Prelude.{Result, Ok, Err}
use Rattle.refusals.specs.declared.Refusal.{Refusal}
use Rattle.expansion.specs.declared.Expanded.{Expanded}
use Rattle.expansion.specs.Expansion.{Stretch, gives, stops, opened, entering, call_stretch, body_stretch}
use Rattle.expansion.specs.Running.{Roomy, Ran}
use Rattle.expansion.proofs.Walking.{ran-none, ran-stops}

is_negative_lem : (find : ℤ → List ℕ) (d : ℕ) (number : ℤ) (kept : Remembered) (n : ℕ) → is_negative number ≡ true → entering find d number kept n ≡ stops 8 n kept
unfolding entering
is_negative_lem find zero number kept n h = rw h
is_negative_lem find (suc d) number kept n h = rw h

is-deep : (find : ℤ → List ℕ) (d : ℕ) (number : ℤ) (kept : Remembered) (n : ℕ) → is_negative number ≡ false → d ≡ 0 → entering find d number kept n ≡ stops 15 n kept
unfolding entering
is-deep find zero number kept n h z = rw h
is-deep find (suc d) number kept n h z = absurd (omega arith)

is-opened : (find : ℤ → List ℕ) (d : ℕ) (number : ℤ) (kept : Remembered) (n : ℕ) → is_negative number ≡ false → (d ≡ 0 → ⊥) → entering find d number kept n ≡ opened (entering find (d - 1)) (find number) kept n
unfolding entering
is-opened find zero number kept n h z = absurd (z refl)
is-opened find (suc d) number kept n h z = rw (h, sub-one)

-- the stores are well formed, so the headers give the body that is looked up
body_is : (volatile saved : List ℕ) (number : ℤ) → SFits w32 number → well_formed three_bytes volatile ≡ true → well_formed three_bytes saved ≡ true → {body : List ℕ} → body ≡ looked_by_headers three_bytes volatile saved (to_z w32 (of_z w32 number)) → body ≡ looked_up three_bytes volatile saved number
body_is volatile saved number f fv fs el = (rw (to_z-of_z f) at el) ∙ headers_look three_bytes three-lawful volatile saved number fv fs

-- the number comes back from the callees' contracts as the machine reads it
module _ (volatile saved : List ℕ) (d : ℕ) (number : ℤ) (from : Expanded) (out : List ℕ) (f : SFits w32 number) {b : Bool} (eb : b ≡ is_negative (to_z w32 (of_z w32 number))) where
  test : b ≡ is_negative number
  test = rw (to_z-of_z f) at eb

  pub enter_negative : b ≡ true → Ran (call_stretch volatile saved d number from.kept from.entered) from.written out out (Err NotValid)
  unfolding call_stretch
  enter_negative t =
      subst (λ (x : Stretch). Ran x from.written out out (Err NotValid)) (sym (is_negative_lem (looked_up three_bytes volatile saved) d number from.kept from.entered (sym test ∙ t)))
      (ran-stops NotValid from.written from.entered from.kept out)

  module _ (t : b ≡ false) where
    pub enter_deep : d ≡ 0 → Ran (call_stretch volatile saved d number from.kept from.entered) from.written out out (Err TooDeep)
    unfolding call_stretch
    enter_deep z =
        subst (λ (x : Stretch). Ran x from.written out out (Err TooDeep)) (sym (is-deep (looked_up three_bytes volatile saved) d number from.kept from.entered (sym test ∙ t) z))
        (ran-stops TooDeep from.written from.entered from.kept out)

    module _ (fv : well_formed three_bytes volatile ≡ true) (fs : well_formed three_bytes saved ≡ true) (z : d ≡ 0 → ⊥) {body : List ℕ} (el : body ≡ looked_by_headers three_bytes volatile saved (to_z w32 (of_z w32 number))) where
      found : call_stretch volatile saved d number from.kept from.entered ≡ opened (call_stretch volatile saved (d - 1)) body from.kept from.entered
      unfolding call_stretch
      found =
          is-opened (looked_up three_bytes volatile saved) d number from.kept from.entered (sym test ∙ t) z
          ∙ ap (λ (l : List ℕ). opened (entering (looked_up three_bytes volatile saved) (d - 1)) l from.kept from.entered) (sym (body_is volatile saved number f fv fs el))

      pub enter_absent : length body ≡ 0 → Ran (call_stretch volatile saved d number from.kept from.entered) from.written out out (Ok from)
      enter_absent e =
          let q : opened (call_stretch volatile saved (d - 1)) body from.kept from.entered ≡ gives [] from.entered from.kept = rw (eq-eqb (length body) 0 e) in
          subst (λ (x : Stretch). Ran x from.written out out (Ok from)) (sym (found ∙ q)) (ran-none from out)

      module _ (e : length body ≡ 0 → ⊥) where
        pub enter_full : 1024 ≤ from.entered → Ran (call_stretch volatile saved d number from.kept from.entered) from.written out out (Err TooManyMacros)
        enter_full m =
            let q : opened (call_stretch volatile saved (d - 1)) body from.kept from.entered ≡ stops 16 from.entered from.kept = rw (ne_eqb (length body) 0 e, le-ltb from.entered 1024 m) in
            subst (λ (x : Stretch). Ran x from.written out out (Err TooManyMacros)) (sym (found ∙ q)) (ran-stops TooManyMacros from.written from.entered from.kept out)

        pub enter_in : from.entered < 1024 → {out' : List ℕ} {r : Result Expanded Refusal} → Ran (body_stretch volatile saved (d - 1) body from.kept (from.entered + 1)) from.written out out' r → Ran (call_stretch volatile saved d number from.kept from.entered) from.written out out' r
        unfolding body_stretch
        enter_in m {out' = out'} {r = r} ran =
            let q : opened (call_stretch volatile saved (d - 1)) body from.kept from.entered ≡ body_stretch volatile saved (d - 1) body from.kept (from.entered + 1) = rw (ne_eqb (length body) 0 e, lt-ltb from.entered 1024 m) in
            subst (λ (x : Stretch). Ran x from.written out out' r) (sym (found ∙ q)) ran

-- a macro's own place among the 1,024 pays for its body
pub enter_roomy : (volatile saved : List ℕ) (number : ℤ) (from : Expanded) → SFits w32 number → well_formed three_bytes volatile ≡ true → well_formed three_bytes saved ≡ true → {body : List ℕ} → body ≡ looked_by_headers three_bytes volatile saved (to_z w32 (of_z w32 number)) → from.entered < 1024 → Roomy from 0
    → Roomy (record { written = from.written; entered = from.entered + 1; kept = from.kept }) (length body)
enter_roomy volatile saved number from f fv fs el m r =
    let s : length (looked_up three_bytes volatile saved number) ≤ 256 = looked_up-short volatile saved number in
    let l = ap length (body_is volatile saved number f fv fs el) in
    record { few = omega (arith, m); fits = omega (arith, s, l, m, r.fits) }
