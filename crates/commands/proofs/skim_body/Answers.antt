use Rattle.parameters.specs.Looking.{look_of}
use Rattle.commands.specs.Reading.{body_at, told, command_of}
use borrow.Author.Rules.{rules}
use Rattle.commands.proofs.Heads.{skim_whole}
use Rattle.commands.proofs.skim_body.Goals as goal

pub returns-in_err-taken : goal.returns-in_err-taken
unfolding body_at told command_of look_of
returns-in_err-taken c = search rules

pub returns : goal.returns
returns c = skim_whole _ _ _ c.look_at.ensures.0 c.in_ok-taken.was c.with_letters.ensures
