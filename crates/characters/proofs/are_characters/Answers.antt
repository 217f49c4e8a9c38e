use Rattle.characters.proofs.are_characters.Goals as goal

pub returns : goal.returns
returns c = c.are_within.ensures
