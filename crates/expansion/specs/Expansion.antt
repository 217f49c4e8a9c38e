-- "Expanding copies a body's items, with each KX replaced by the expansion of the macro that it names."
use Rattle.std.specs.Prelude.{ℕ, zero, suc, ◌+◌, ◌-◌, ◌&&◌, List, [], ◌++◌, length, take, drop, eqb, leb, ltb, ℤ}
use Rattle.memory.specs.declared.Remembered.{Remembered}
use Rattle.memory.specs.Memory.{inside}
use Rattle.signs.specs.Signs.{is_negative}
use Rattle.refusals.specs.Answers.{Answer, done, pick, demand}
use Rattle.refusals.specs.Answers as Answers
use Rattle.macros.specs.Store.{three_bytes, well_formed, looked_up, find_refusal}
use Rattle.pieces.specs.Pieces.{Pieced, end, copied, called, trouble, piece_at}
use Rattle.expansion.specs.declared.Expanded.{Expanded}

-- ---- a stretch of an expansion: its bytes, the macros entered in all, what is then remembered, and the first trouble's number, or 0

pub record Stretch : Type 0 where
  pub bytes : List ℕ
  pub entered : ℕ
  pub kept : Remembered
  pub number : ℕ

abbrev pub gives : List ℕ → ℕ → Remembered → Stretch
gives bs n kept = record { bytes = bs; entered = n; kept = kept; number = 0 }

abbrev pub stops : ℕ → ℕ → Remembered → Stretch
stops e n kept = record { bytes = []; entered = n; kept = kept; number = e }

-- bytes, and a stretch behind them
abbrev pub front : List ℕ → Stretch → Stretch
front bs c = record { bytes = bs ++ c.bytes; entered = c.entered; kept = c.kept; number = c.number }

-- "the first trouble decides": a stretch, and where it is free of trouble, what comes behind it
abbrev pub and_then : Stretch → (Remembered → ℕ → Stretch) → Stretch
and_then c rest = pick (eqb c.number 0) (front c.bytes (rest c.kept c.entered)) c

-- ---- the body of a macro

-- the bytes of an item
abbrev pub item_bytes : (i next : ℕ) → List ℕ → List ℕ
item_bytes i next body = take (next - i) (drop i body)

-- an item is copied, a KX is replaced; trouble ends it
abbrev pub on_piece : (ℤ → Remembered → ℕ → Stretch) → (ℕ → Remembered → ℕ → Stretch) → List ℕ → ℕ → Remembered → ℕ → Pieced → Stretch
on_piece call rest body i kept n end = gives [] n kept
on_piece call rest body i kept n (copied next after) = front (item_bytes i next body) (rest next after n)
on_piece call rest body i kept n (called number next after) = and_then (call number after n) (rest next)
on_piece call rest body i kept n (trouble e) = stops e n kept

-- "Items are taken in byte order": those of a body from i on, with n macros entered before; call says what a KX gives. There are fewer
-- than k pieces left.
unfoldable pub walked : (ℤ → Remembered → ℕ → Stretch) → (k : ℕ) → List ℕ → ℕ → Remembered → ℕ → Stretch
walked call zero body i kept n = gives [] n kept
walked call (suc k) body i kept n = on_piece call (walked call k body) body i kept n (piece_at kept body i)

-- a piece takes at least one byte
abbrev pub whole_body : (ℤ → Remembered → ℕ → Stretch) → List ℕ → Remembered → ℕ → Stretch
whole_body call body kept n = walked call (length body + 1) body 0 kept n

-- ---- entering a macro

-- "An absent nested macro gives nothing and isn't entered"; then 16, "a 1,025th macro would be entered"
abbrev pub opened : (ℤ → Remembered → ℕ → Stretch) → List ℕ → Remembered → ℕ → Stretch
opened call body kept n =
    pick (eqb (length body) 0) (gives [] n kept) (pick (ltb n 1024) (whole_body call body kept (n + 1)) (stops 16 n kept))

-- "At a KX: a negative number is 8, then 15, look up, then 16." The macro number is entered, where d more depths are left
unfoldable pub entering : (ℤ → List ℕ) → (d : ℕ) → ℤ → Remembered → ℕ → Stretch
entering find zero number kept n = pick (is_negative number) (stops 8 n kept) (stops 15 n kept)
entering find (suc d) number kept n = pick (is_negative number) (stops 8 n kept) (opened (entering find d) (find number) kept n)

-- the same of two stores: a call, and a macro's body
unfoldable pub call_stretch : (volatile saved : List ℕ) → (d : ℕ) → ℤ → Remembered → ℕ → Stretch
call_stretch volatile saved d number kept n = entering (looked_up three_bytes volatile saved) d number kept n

unfoldable pub body_stretch : (volatile saved : List ℕ) → (d : ℕ) → List ℕ → Remembered → ℕ → Stretch
body_stretch volatile saved d body kept n = whole_body (call_stretch volatile saved d) body kept n

-- "the starting macro has depth 1 and counts as the first entered": eight depths are left, and none has been entered. "Macro bodies are read in the
-- caller's mode, and a KI in a body holds from there on": what is remembered is the caller's
unfoldable pub started : (volatile saved : List ℕ) → ℤ → Remembered → Stretch
started volatile saved number kept = call_stretch volatile saved 8 number kept 0

-- ---- what is said of a stretch that begins at a place of the output

-- what the answer says: how far it has come, or the number of the first trouble
unfoldable pub reached_by : ℕ → Stretch → Answer Expanded
reached_by at c = pick (eqb c.number 0) (done (record { written = at + length c.bytes; entered = c.entered; kept = c.kept })) (Answers.refused c.number 0)

-- ---- the whole call

-- "The answer gives bytes written and macros entered", and what is then remembered. "Counts with a refusal are 0"
abbrev pub told_of : (f : ℕ) → Stretch → Answer Expanded
told_of f c = pick (eqb f 0) (done (record { written = length c.bytes; entered = c.entered; kept = c.kept })) (Answers.refused f 0)

-- "Beyond the result a lent list or output is unchanged"
abbrev pub out_of : (f : ℕ) → Stretch → List ℕ → List ℕ
out_of f c out = pick (eqb f 0) (c.bytes ++ drop (length c.bytes) out) out

-- a refusal, or what comes next in the paper's order
abbrev pub or_next : ℕ → ℕ → ℕ
or_next f next = pick (eqb f 0) next f

-- "Refusal 7 comes last, only when nothing else is wrong."
abbrev pub room_refusal : Stretch → (room : ℕ) → ℕ
room_refusal c room = or_next c.number (demand (leb (length c.bytes) room) 7 0)

unfoldable pub room_told : Stretch → (room : ℕ) → Answer Expanded
room_told c room = told_of (room_refusal c room) c

unfoldable pub room_out : Stretch → List ℕ → List ℕ
room_out c out = out_of (room_refusal c (length out)) c out

-- "the start first gives 12 (volatile store first), 8, 14"; a remembered point outside is a value out of its range too
unfoldable pub start_refusal : (volatile saved : List ℕ) → ℤ → Remembered → ℕ
start_refusal volatile saved number kept =
    demand (well_formed three_bytes volatile && well_formed three_bytes saved) 12
    (demand (inside kept.point) 8 (find_refusal three_bytes volatile saved number))

module _ (volatile saved : List ℕ) (number : ℤ) (kept : Remembered) where
  unfoldable pub expand_refusal : (room : ℕ) → ℕ
  expand_refusal room = or_next (start_refusal volatile saved number kept) (room_refusal (started volatile saved number kept) room)

  unfoldable pub expand_told : (room : ℕ) → Answer Expanded
  expand_told room = told_of (expand_refusal room) (started volatile saved number kept)

  unfoldable pub expand_out : List ℕ → List ℕ
  expand_out out = out_of (expand_refusal (length out)) (started volatile saved number kept) out
