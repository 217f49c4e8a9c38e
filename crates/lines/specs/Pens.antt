-- What a pen wrote: the lines' bytes are poured by one pen, which holds the lent bytes and the place of the next.
use Rattle.std.specs.Prelude.{ℕ, List, ◌≡◌}
use Rattle.lines.specs.declared.Pen.{Pen}
use Rattle.lines.specs.Pouring.{Put}

-- w was poured with the pen p, which then is q, on the same lent bytes
abbrev pub Puts : Pen → List ℕ → Pen → Type 0
Puts p w q = (q.out.ghost_name ≡ p.out.ghost_name) × Put p.out.now p.at w q.at q.out.now
