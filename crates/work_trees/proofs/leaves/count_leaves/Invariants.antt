-- `count_leaves` meets its contract. The loop's invariant: the rows before row i have their counts.
use Rattle.work_trees.proofs.LeafCounts.{CountedTo}
use Rattle.work_trees.proofs.leaves.count_leaves.Given as goal

abbrev pub invariant-loop-i : goal.invariant-loop-i
invariant-loop-i l = CountedTo l.rows l.many l.i
