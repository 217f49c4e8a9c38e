use Rattle.refusals.proofs.Shut.{opened, closed}
use Rattle.pixel_calls.proofs.Answers.{raster_laid}
use Rattle.pixel_calls.proofs.ardh_draw_raster.Goals as goal

pub returns-clause-raster_leaves : goal.returns-clause-raster_leaves
returns-clause-raster_leaves c =
    let a = c.args in
    raster_laid a.w a.h a.fields.now c.beam_in-came.ensures a.n c.ranges.n a.characters.now a.surface.now {o = c.draw_raster-drawing.new.surface} (opened (search closed))
