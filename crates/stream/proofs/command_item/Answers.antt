-- By the one law of each way out, and not by a search: another guard, or another point that goes on, is then refused at the equation that fails.
use denote.Enum.Bare.{sameb, same_true, same_false}
use Rattle.std.proofs.Common.{◌≡◌, ◌∙◌, sym, rules}
use Rattle.refusals.specs.contracts.Refusal.{the_type}
use Rattle.refusals.specs.declared.Refusal.TheVariants.{TooShort}
use Rattle.stream.proofs.Reading.{list_kept, item_refused_call, item_refused_command}
use Rattle.stream.proofs.command_item.Goals as goal

pub returns-in-Err : goal.returns-in-Err
returns-in-Err c =
    let is_seven : sameb the_type c.in-Err.e.refusal TooShort ≡ c.eq.result = sym c.eq.ensures in (
      item_refused_call _ _ _ _ c.read_command.ensures.0 c.in-Err.is (same_true the_type (search rules) _ _ (is_seven ∙ c.if-eq.true)),
      list_kept _ _ _ _ _ c.read_command.ensures.1,
    )

pub returns-in-Err-2 : goal.returns-in-Err-2
returns-in-Err-2 c =
    let is_seven : sameb the_type c.in-Err.e.refusal TooShort ≡ c.eq.result = sym c.eq.ensures in (
      item_refused_command _ _ _ _ c.read_command.ensures.0 c.in-Err.is (same_false the_type _ _ (is_seven ∙ c.if-eq.false)) c.next_escape.ensures,
      list_kept _ _ _ _ _ c.read_command.ensures.1,
    )
