use Rattle.pixel_refusals.proofs.Looking.{characters_tested}
use Rattle.pixel_refusals.proofs.are_raster_characters.Goals as goal

pub returns-then-pixel_characters-div_ceil : goal.returns-then-pixel_characters-div_ceil
returns-then-pixel_characters-div_ceil c =
    characters_tested _ c.ranges.n _ _ c.requires.0 c.requires.1 c.magnitude-count.ensures c.pixel_characters.ensures c.div_ceil.ensures c.if-pixel_characters-div_ceil.true c.are_within.ensures
