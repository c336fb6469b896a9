use Rattle.std.proofs.Common.{arith, ◌+◌, ◌<◌}
use Rattle.work_trees.specs.Rows.{size}
use Rattle.work_newick_writing.proofs.Counted.{both_most, counted-all, counted-more, entries_below}
use Rattle.work_newick_writing.proofs.counting.count_text.Goals.{In-loop-k}
use Rattle.work_newick_writing.proofs.counting.count_text.Goals as goal

row_below : (c : In-loop-k) → c.loop-k.k + 1 < size c.args.rows.now
row_below c = omega arith

pub bytes_under-a-requires : goal.bytes_under-a-requires
bytes_under-a-requires c =
    let g = c.requires.0 in
    (g.some, g.most, (entries_below _ g (row_below (goal.at.bytes_under-a-requires c).In-loop-k)).0)

pub bytes_under-b-requires : goal.bytes_under-b-requires
bytes_under-b-requires c =
    let g = c.requires.0 in
    (g.some, g.most, (entries_below _ g (row_below (goal.at.bytes_under-b-requires c).In-loop-k)).1)

pub overflow_add-bytes-in-loop-k : goal.overflow_add-bytes-in-loop-k
overflow_add-bytes-in-loop-k c =
    let below = row_below (goal.at.overflow_add-bytes-in-loop-k c).In-loop-k in
    let most = both_most _ c.requires.0 c.loop-k.invariant below c.bytes_under-a.ensures c.bytes_under-b.ensures in
    record { fits = omega arith }

pub overflow_add-bytes : goal.overflow_add-bytes
overflow_add-bytes c =
    let below = row_below (goal.at.overflow_add-bytes c).In-loop-k in
    let most = both_most _ c.requires.0 c.loop-k.invariant below c.bytes_under-a.ensures c.bytes_under-b.ensures in
    record { fits = omega arith }

pub loop-k-preserved : goal.loop-k-preserved
loop-k-preserved c =
    let below = row_below (goal.at.loop-k-preserved c).In-loop-k in
    counted-more _ c.requires.0 c.loop-k.invariant below c.bytes_under-a.ensures c.bytes_under-b.ensures

pub returns : goal.returns
returns c = counted-all c.loop-k.invariant (omega arith)
