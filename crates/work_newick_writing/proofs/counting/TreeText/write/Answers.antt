-- `write` meets its contract: the tree is the last object, which is walked, and the semicolon is written at the last place that the
-- text takes.
use Rattle.std.proofs.Common.{ap, arith, length}
use lib.Seq.{length-sets}
use Rattle.work_newick_writing.proofs.Written.{length-tree, tree_stored}
use Rattle.work_newick_writing.proofs.counting.TreeText.write.Goals as goal

pub walk-requires : goal.walk-requires
walk-requires c =
    let good = c.args.self.now.good_rows in
    let some = good.some in
    record { top_bound = omega arith; top_in_bounds = omega (arith, length-tree good, c.requires) }

pub overflow_sub-out : goal.overflow_sub-out
overflow_sub-out c = omega (arith, c.length.ensures, length-tree c.args.self.now.good_rows)

pub bounds-out-length : goal.bounds-out-length
bounds-out-length c =
    let same = simp length-sets at (ap length c.walk.ensures) in
    omega (arith, same, c.length.ensures, length-tree c.args.self.now.good_rows, c.requires)

pub returns : goal.returns
returns c =
    rw c.walk.ensures (tree_stored c.args.self.now.good_rows c.args.out.now c.length.result c.length.ensures)
