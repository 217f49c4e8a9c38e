use Rattle.pixel_calls.proofs.Answers.{settled_so, viewport_given}
use Rattle.pixel_calls.proofs.ardh_set_viewport.Goals as goal

pub returns : goal.returns
returns c =
    let a = c.args in
    let r = c.ranges in
    settled_so (viewport_given a.w a.h a.fields.now c.beam_in-came.ensures a.x a.y a.x2 a.y2 r.x r.y r.x2 r.y2 c.point_given-from.ensures c.point_given-to.ensures c.set_viewport-setting.ensures) c.hand.ensures
