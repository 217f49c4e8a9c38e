use Rattle.parameters.specs.Looking.{look_of}
use Rattle.commands.specs.Reading.{body_at, told, command_of}
use borrow.Author.Rules.{rules}
use Rattle.commands.proofs.Heads.{body_short, body_whole, body_entries}
use Rattle.commands.proofs.body.Goals as goal

pub returns-in_err-taken : goal.returns-in_err-taken
unfolding body_at told command_of look_of
returns-in_err-taken c = (search rules, search (rules, body_entries))

pub returns-then-taken-room : goal.returns-then-taken-room
returns-then-taken-room c =
    (body_short _ _ _ _ _ c.look_at.ensures.0 c.in_ok-taken.was c.if-taken-room.true c.at.ensures, body_entries _ _ _ _ _ c.look_at.ensures.1)

pub returns : goal.returns
returns c =
    (body_whole _ _ _ _ _ c.look_at.ensures.0 c.in_ok-taken.was c.if-taken-room.false c.with_letters.ensures, body_entries _ _ _ _ _ c.look_at.ensures.1)
