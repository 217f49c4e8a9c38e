use mathlib.Core.Path.{refl}
use Rattle.refusals.proofs.Rules.{tests}
use Rattle.commands.specs.Reading.{command_at, told, command_of, head_of, after_entries}
use Rattle.commands.proofs.Heads.{command_is, entries_are}
use Rattle.commands.proofs.read_command.Goals as goal

pub returns-then-start-s : goal.returns-then-start-s
unfolding command_at told command_of after_entries
returns-then-start-s c = search tests

pub returns-in_err-letters : goal.returns-in_err-letters
unfolding command_at told command_of head_of after_entries
returns-in_err-letters c = search tests

pub returns : goal.returns
returns c = (
  command_is _ _ _ _ _ c.if-start-s.false refl c.head.ensures c.in_ok-letters.was c.body.ensures.0,
  entries_are _ _ _ _ _ c.if-start-s.false refl c.head.ensures c.in_ok-letters.was _ c.body.ensures.1,
)
