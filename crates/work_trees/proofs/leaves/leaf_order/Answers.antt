-- `leaf_order` meets its contract: the last object is walked, and its leaves are n.
use Rattle.std.proofs.Common.{arith, ◌∙◌}
use Rattle.work_trees.proofs.Walked.{length-leaves, last-object, sets-leaves}
use Rattle.work_trees.proofs.leaves.leaf_order.Goals as goal

pub walk-requires-clause-obj_bound : goal.walk-requires-clause-obj_bound
walk-requires-clause-obj_bound c =
    let g = c.requires.good_rows.0 in
    let n = length-leaves c.args.rows.now g in
    rw (last-object c.args.rows.now g) (omega arith)

pub returns : goal.returns
returns c =
    let T = c.args.rows.now in
    c.walk.ensures ∙ rw (last-object T c.requires.good_rows.0) (sets-leaves T c.requires.good_rows.0 c.args.out.now c.requires.out_len)
