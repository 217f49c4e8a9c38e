use Rattle.pixel_calls.proofs.Answers.{settled_so, bits_given}
use Rattle.pixel_calls.proofs.ardh_set_bits.Goals as goal

pub returns : goal.returns
returns c =
    let a = c.args in
    settled_so (bits_given a.w a.h a.fields.now c.beam_in-came.ensures a.first a.second a.third c.ranges.first c.ranges.second c.ranges.third c.set_bits-setting.ensures) c.hand.ensures
