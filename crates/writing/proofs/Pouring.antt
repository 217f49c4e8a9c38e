-- What the search is given for the bytes of a command, poured part by part.
use mathlib.Core.List.{append-nil, append_assoc}
use lib.ListN.{length-append}
use mir.Facts.{to_z-of_z}
use Rattle.refusals.proofs.Cases.{and_left, and_right}
use Rattle.refusals.proofs.Many.{sets_append}
use Rattle.wire.proofs.Feeds.{one-most}
use Rattle.numbers.proofs.Shortest.{integer-few}
use Rattle.points.proofs.Shortest.{point-few}
use Rattle.characters.proofs.Entries.{a_byte}

-- ---- what bytes are, and how many: an entry, a point

pub ruleset few = (integer-few, one-most, a_byte, point-few)

-- ---- one piece behind another; a signed value comes back as the machine reads it

pub ruleset joined = (sets_append, length-append)

pub ruleset read_back = (to_z-of_z)

-- ---- the values of each kind

pub ruleset valued = (append-nil, append_assoc, to_z-of_z, and_left, and_right)
