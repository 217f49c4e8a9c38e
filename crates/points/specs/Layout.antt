-- "Point. x and y 0..4095. Bytes in order: HiY = 32 + y/128; Extra = 96 + 4(y mod 4) + (x mod 4); LoY = 96 + (y/4 mod 32);
-- HiX = 32 + x/128; LoX = 64 + (x/4 mod 32); divisions drop the remainder."
use Rattle.std.specs.Prelude.{◌+◌, ◌*◌, ◌/◌, ◌%◌, ◌≤◌}
use Rattle.memory.specs.declared.Point.{Point}
use Rattle.points.specs.declared.PointBytes.{PointBytes}

pub record Inside (p : Point) : Type 0 where
  pub x-inside : p.x ≤ 4095
  pub y-inside : p.y ≤ 4095

abbrev pub bytes_of : Point → PointBytes
bytes_of p = record {
  hiy = 32 + p.y / 128;
  extra = 96 + p.y % 4 * 4 + p.x % 4;
  loy = 96 + p.y / 4 % 32;
  hix = 32 + p.x / 128;
  lox = 64 + p.x / 4 % 32;
}

-- the point that five bytes make; "the 16 bit of Extra is ignored when read"
abbrev pub coordinates : PointBytes → Point
coordinates b = record {
  x = b.hix % 32 * 128 + b.lox % 32 * 4 + b.extra % 4;
  y = b.hiy % 32 * 128 + b.loy % 32 * 4 + b.extra / 4 % 4;
}
