use Rattle.writing.proofs.Lists.{characters_laid}
use borrow.Author.Rules.{rules}
use Rattle.writing.proofs.pour_characters.Goals as goal

pub returns-then-is_plain : goal.returns-then-is_plain
returns-then-is_plain c = search (rules, characters_laid)
