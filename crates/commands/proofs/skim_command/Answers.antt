use Rattle.refusals.proofs.Rules.{tests}
use Rattle.commands.specs.Reading.{command_at, told, command_of, head_of}
use borrow.Author.Rules.{rules}
use Rattle.commands.proofs.Heads.{skim_is}
use Rattle.commands.proofs.skim_command.Goals as goal

pub returns-then-start-s : goal.returns-then-start-s
unfolding command_at told command_of
returns-then-start-s c = search tests

pub returns-in_err-letters : goal.returns-in_err-letters
unfolding command_at told command_of head_of
returns-in_err-letters c = search tests

pub returns : goal.returns
returns c = search (rules, skim_is)
