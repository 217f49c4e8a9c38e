use borrow.Author.Rules.{rules}
use Rattle.std.proofs.lemmas.Result.{err_from_is_err_and}
use Rattle.expansion.proofs.Walking.{walking_none, walked_end, piece-refused, walked-refused, copied-from, copied-to, copied-less, copied-counts, walking_copied, called-less, called-roomy, walking_called}
use Rattle.expansion.proofs.Entering.{enter_negative, enter_deep, enter_absent, enter_full, enter_roomy, enter_in}
use Rattle.expansion.proofs.Formed.+enter_walk.Goals as goal

-- ---- a call of a macro

pub enter-returns-then-is_negative : goal.enter-returns-then-is_negative
enter-returns-then-is_negative t c = search (rules, enter_negative)

pub enter-returns-then-depth-eq0 : goal.enter-returns-then-depth-eq0
enter-returns-then-depth-eq0 t c = search (rules, enter_deep)

pub enter-returns-then-body-eq0 : goal.enter-returns-then-body-eq0
enter-returns-then-body-eq0 t c = search (rules, enter_absent)

pub enter-returns-then-from-ge-MOST_ENTERED : goal.enter-returns-then-from-ge-MOST_ENTERED
enter-returns-then-from-ge-MOST_ENTERED t c = search (rules, enter_full)

pub enter-walk-requires : goal.enter-walk-requires
enter-walk-requires t c = (
  search rules,
  enter_roomy _ _ c.args.number c.args.from c.ranges.number c.args.self.first c.args.self.second c.look_by_headers-body.ensures.result_value c.if-from-ge-MOST_ENTERED.false c.requires,
)

pub enter-returns : goal.enter-returns
enter-returns t c = search (rules, enter_in)

-- ---- a body, piece by piece

pub walk-loop-next-init : goal.walk-loop-next-init
walk-loop-next-init t c = search (rules, walking_none)

pub walk-returns-in_err-piece_at : goal.walk-returns-in_err-piece_at
walk-returns-in_err-piece_at t c =
    let p = err_from_is_err_and c.from_residual.result c.from_residual.ensures.1 in
    rw (p.1, p.2) (piece-refused _ _ _ _ _ _ c.loop-next.invariant c.in_err-piece_at.ensures)

pub walk-returns-in-End : goal.walk-returns-in-End
walk-returns-in-End t c = let piece = c.in_ok-piece_at.ensures in search (rules, walked_end)

pub walk-slice_bounds-copy-count : goal.walk-slice_bounds-copy-count
walk-slice_bounds-copy-count t c = let piece = c.in_ok-piece_at.ensures in search (rules, copied-from)

pub walk-slice_bounds-copy-start : goal.walk-slice_bounds-copy-start
walk-slice_bounds-copy-start t c = let piece = c.in_ok-piece_at.ensures in search (rules, copied-from)

pub walk-slice_bounds-copy-end : goal.walk-slice_bounds-copy-end
walk-slice_bounds-copy-end t c = let piece = c.in_ok-piece_at.ensures in search (rules, copied-to)

pub walk-overflow_sub-going : goal.walk-overflow_sub-going
walk-overflow_sub-going t c = let piece = c.in_ok-piece_at.ensures in search (rules, copied-from)

pub walk-overflow_add-going : goal.walk-overflow_add-going
walk-overflow_add-going t c = let piece = c.in_ok-piece_at.ensures in search (rules, copied-counts)

pub walk-loop-next-smaller-in-Copied : goal.walk-loop-next-smaller-in-Copied
walk-loop-next-smaller-in-Copied t c = let piece = c.in_ok-piece_at.ensures in search (rules, copied-less)

pub walk-loop-next-preserved-in-Copied : goal.walk-loop-next-preserved-in-Copied
walk-loop-next-preserved-in-Copied t c = search (rules, walking_copied)

pub walk-enter-requires : goal.walk-enter-requires
walk-enter-requires t c = search (rules, called-roomy)

pub walk-loop-next-smaller : goal.walk-loop-next-smaller
walk-loop-next-smaller t c = let piece = c.in_ok-piece_at.ensures in search (rules, called-less)

pub walk-loop-next-preserved : goal.walk-loop-next-preserved
walk-loop-next-preserved t c = search (rules, walking_called)

pub walk-returns-in_err-going-in-Called : goal.walk-returns-in_err-going-in-Called
walk-returns-in_err-going-in-Called t c =
    let p = err_from_is_err_and c.from_residual-in_err-going-in-Called.result c.from_residual-in_err-going-in-Called.ensures.1 in
    let piece = c.in_ok-piece_at.ensures in
    let answer = c.in_err-going-in-Called.was in
    rw (p.1, p.2) (search (rules, walked-refused))
