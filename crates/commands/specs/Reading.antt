-- "A command is ESC (27), two capital letters, then its parameters."
use Rattle.std.specs.Prelude.{Result, Ok, Err, ℕ, ◌+◌, List, length, get_or, ltb, leb, eqb, ℤ}
use Rattle.std.proofs.lemmas.List.Edits.{sets}
use Rattle.memory.specs.declared.DelMode.{DelMode}
use Rattle.memory.specs.declared.Remembered.{Remembered}
use Rattle.refusals.specs.declared.RefusedAt.{RefusedAt}
use Rattle.refusals.specs.Refusals.{number_of}
use Rattle.refusals.specs.declared.Taken.{Taken}
use Rattle.refusals.specs.Answers.{Answer, done, refused, then, pick}
use Rattle.wire.specs.Taking.{past_dels}
use Rattle.table.specs.Table.{ParameterKind, Tabled, in_table, not_in_table, kind_meant, begins, kind_of}
use Rattle.parameters.specs.declared.TakenParameters.{TakenParameters}
use Rattle.parameters.specs.Shapes.{Tailed, Value, shape_of, values_of, tail_of}
use Rattle.parameters.specs.Looking.{Parsed, parameters_at, parsed_entries}
use Rattle.commands.specs.declared.TakenCommand.{TakenCommand}
use Rattle.commands.specs.declared.TakenLetters.{TakenLetters}
use Rattle.commands.specs.Behind.{leading, after_letters, after_command}

-- ---- the letters

-- the letter at at: "An op letter of 27 is refusal 6 there."
unfoldable pub letter_here : List ℕ → ℕ → Answer (Taken ℕ)
letter_here s at =
    pick (ltb at (length s))
    (pick (eqb (get_or s at 0) 27) (refused 6 at) (done (record { value = get_or s at 0; place = at; next = at + 1 })))
    (refused 1 (length s))

-- "each plain 127, in text, between letters or in a parameter, is passed over"
abbrev pub letter_at : DelMode → List ℕ → ℕ → Answer (Taken ℕ)
letter_at mode s at = letter_here s (past_dels mode s at)

-- the letters, their kind, and where the parameters start
pub record Letters : Type 0 where
  pub first : ℕ
  pub second : ℕ
  pub kind : ParameterKind
  pub next : ℕ

abbrev pub letters_of : TakenLetters → Letters
letters_of h = record { first = h.first; second = h.second; kind = kind_meant h.kind; next = h.next }

unfoldable pub head_of : Result TakenLetters RefusedAt → Answer Letters
head_of (Ok h) = done (letters_of h)
head_of (Err e) = refused (number_of e.refusal) e.place

abbrev pub completed : ℕ → Taken ℕ → Tabled → Answer Letters
completed a b (in_table k) = done (record { first = a; second = b.value; kind = k; next = b.next })
completed a b not_in_table = refused 2 b.place

-- "A first letter that begins no command, or a second that completes none, is refusal 2 there."
unfoldable pub second_at : DelMode → ℕ → List ℕ → ℕ → Answer Letters
second_at mode a s at = then (letter_at mode s at) (λ b. completed a b (kind_of a b.value))

unfoldable pub head_at : DelMode → List ℕ → ℕ → Answer Letters
head_at mode s at =
    then (letter_at mode s at) (λ a. pick (begins a.value) (second_at mode a.value s a.next) (refused 2 a.place))

-- ---- the whole command

-- a command that was read: its letters, its values, its entries and their number, where reading goes on, and what is then remembered
pub record Meaning : Type 0 where
  pub first : ℕ
  pub second : ℕ
  pub values : List Value
  pub tail : Tailed
  pub count : ℕ
  pub entries : List ℤ
  pub next : ℕ
  pub kept : Remembered

abbrev pub meaning : Remembered → Letters → List ℕ → Parsed → Meaning
meaning kept h s p = record {
  first = h.first;
  second = h.second;
  values = p.values;
  tail = p.tail;
  count = p.count;
  entries = parsed_entries s p;
  next = p.next;
  kept = after_command kept h.first h.second p.values;
}

-- "Refusal 7 comes only for a whole command; its place is the command's start"
unfoldable pub body_at : Remembered → Letters → List ℕ → ℕ → ℕ → Answer Meaning
body_at kept h s start room =
    then (parameters_at kept (shape_of h.kind) s h.next) (λ p. pick (leb p.count room) (done (meaning kept h s p)) (refused 7 start))

-- the command whose ESC is at start, with so much room for its entries
unfoldable pub command_at : Remembered → List ℕ → ℕ → ℕ → Answer Meaning
command_at kept s start room =
    pick (ltb start (length s)) (then (head_at kept.mode s (start + 1)) (λ h. body_at kept h s start room)) (refused 1 (length s))

-- ---- what the answer says, and the lent list behind it

pub record ToldCommand : Type 0 where
  pub first : ℕ
  pub second : ℕ
  pub values : List Value
  pub tail : Tailed
  pub count : ℕ
  pub next : ℕ
  pub kept : Remembered

-- what is told of a command beside the entries in the list
abbrev pub tell : Meaning → ToldCommand
tell m = record { first = m.first; second = m.second; values = m.values; tail = m.tail; count = m.count; next = m.next; kept = m.kept }

unfoldable pub told : Answer Meaning → Answer ToldCommand
told a = then a (λ m. done (tell m))

abbrev pub tell_taken : TakenCommand → ToldCommand
tell_taken t = record {
  first = t.command.first;
  second = t.command.second;
  values = values_of t.command.parameters;
  tail = tail_of t.command.parameters;
  count = t.count;
  next = t.next;
  kept = t.kept;
}

-- the code's command of two letters and of the parameters that were read behind them
unfoldable pub command_of_letters : (first second : ℕ) → TakenParameters → TakenCommand
command_of_letters first second t = record {
  command = record { first = first; second = second; parameters = t.parameters };
  count = t.run.count;
  next = t.run.next;
  kept = after_letters t.kept first second (leading (values_of t.parameters));
}

unfoldable pub command_of : Result TakenCommand RefusedAt → Answer ToldCommand
command_of (Ok t) = done (tell_taken t)
command_of (Err e) = refused (number_of e.refusal) e.place

-- "Beyond the result a lent list .. is unchanged"
unfoldable pub after_entries : Answer Meaning → List ℤ → List ℤ
after_entries (done m) l = sets l 0 m.entries
after_entries (refused e p) l = l
