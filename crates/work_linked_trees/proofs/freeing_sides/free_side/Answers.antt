-- `free_side`: what the two sides leave in the arrays that they were lent.
use Rattle.std.proofs.Common.{rules}
use Rattle.work_linked_trees.proofs.SideFreed.{lent-back}
use Rattle.work_linked_trees.proofs.freeing_sides.free_side.Goals as goal

pub returns : goal.returns
returns c =
    let l = c.counted-left.ensures.value in
    let r = c.counted-right.ensures.value in
    lent-back (rw (l.0, l.1, r.0, r.1) at c.first_turn.ensures.side_freed) (search rules) (search rules) (search rules) (search rules)
