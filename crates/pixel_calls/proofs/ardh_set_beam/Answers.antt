use Rattle.pixel_calls.proofs.Answers.{settled_so, beam_given}
use Rattle.pixel_calls.proofs.ardh_set_beam.Goals as goal

pub returns : goal.returns
returns c =
    let a = c.args in
    settled_so (beam_given a.w a.h a.fields.now c.beam_in-came.ensures a.x a.y c.ranges.x c.ranges.y c.point_given-to.ensures c.set_beam-setting.ensures) c.hand.ensures
