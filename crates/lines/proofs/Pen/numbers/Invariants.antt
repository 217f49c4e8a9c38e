use Rattle.std.specs.Prelude.{◌≡◌}
use Rattle.lines.proofs.Digits.{Pouring}
use Rattle.lines.proofs.Pen.numbers.Given as goal

abbrev pub invariant-loop-v : goal.invariant-loop-v
invariant-loop-v l =
    (l.self.out.ghost_name ≡ l.initial.self.out.ghost_name)
    × Pouring l.list l.initial.self.out.now l.initial.self.at l.self.out.now l.self.at l.v-index
