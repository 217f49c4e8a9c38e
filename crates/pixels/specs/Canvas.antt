-- What marks make of a canvas. That it may be drawn on is a ghost field of the struct.
use Rattle.std.specs.Prelude.{◌≡◌, List}
use Rattle.pixels.specs.declared.Canvas.{Canvas}
use Rattle.pixels.specs.Marks.{Mark}
use Rattle.pixels.specs.Standing.{MarksLaid}

pub record Lays (ms : List Mark) (old new : Canvas) : Type 0 where
  pub laid : MarksLaid old.size.w old.size.h ms old.beam old.surface.now new.beam new.surface.now
  pub size : new.size ≡ old.size
  pub same : new.surface.ghost_name ≡ old.surface.ghost_name
