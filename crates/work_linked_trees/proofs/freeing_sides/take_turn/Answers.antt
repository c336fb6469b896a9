-- `take_turn`: the side is freed by what it sees.
use Rattle.work_linked_trees.proofs.SideFreed.{left_freed, right-freed}
use Rattle.work_linked_trees.proofs.freeing_sides.take_turn.Goals as goal

pub returns-in-Left-clause-side_freed : goal.returns-in-Left-clause-side_freed
returns-in-Left-clause-side_freed c =
    let k = c.free_one.ensures.kept.1 in
    rw (c.in-Left.is, k.rows, k.lay) (left_freed c.requires.in_memory (rw c.in-Left.is at c.free_one.ensures.rows_freed))

pub returns-in-Right-clause-side_freed : goal.returns-in-Right-clause-side_freed
returns-in-Right-clause-side_freed c =
    let m = c.requires.in_memory in
    let k = c.free_one-in-Right.ensures.kept.1 in
    rw (c.in-Right.is, k.rows, k.lay) (right-freed m (rw (c.in-Right.is, m.right_side.sized) at c.free_one-in-Right.ensures.rows_freed))
