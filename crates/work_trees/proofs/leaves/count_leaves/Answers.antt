use Rattle.std.proofs.Common.{arith, get_or, ◌*◌, ◌-◌, ◌<◌, ◌≡◌}
use Rattle.work_trees.specs.Rows.{size, count_of}
use Rattle.work_trees.proofs.LeafCounts.{counted-more, both-within, first_below, second_below}
use Rattle.work_trees.proofs.leaves.count_leaves.Goals.{After-leaves_under-b, In-loop-i}
use Rattle.work_trees.proofs.leaves.count_leaves.Goals as goal

row_below : (c : In-loop-i) → c.loop-i.i < size c.args.rows.now
row_below c = omega (arith, c.from-n.ensures, c.loop-i-test.true)

counted : (c : After-leaves_under-b) →
    let T = c.args.rows.now in
    let i = c.loop-i.i in
    let m = c.loop-i.many in
    (c.leaves_under-a.result ≡ count_of m (size T) (get_or T (2 * i - 2) 0))
    × (c.leaves_under-b.result ≡ count_of m (size T) (get_or T (2 * i - 1) 0))
counted c = (
  rw (← c.from.ensures, ← c.from-n.ensures) c.leaves_under-a.ensures,
  rw (← c.from-in-loop-i.ensures, ← c.from-n.ensures) c.leaves_under-b.ensures,
)

pub leaves_under-a-requires : goal.leaves_under-a-requires
leaves_under-a-requires c =
    let g = c.requires.0 in
    let h = first_below c.args.rows.now g c.loop-i.i c.loop-i.invariant.from (row_below (goal.at.leaves_under-a-requires c).In-loop-i) in
    rw (c.from-n.ensures, c.from.ensures) (g.some, g.most, omega arith)

pub leaves_under-b-requires : goal.leaves_under-b-requires
leaves_under-b-requires c =
    let g = c.requires.0 in
    let h = second_below c.args.rows.now g c.loop-i.i c.loop-i.invariant.from (row_below (goal.at.leaves_under-b-requires c).In-loop-i) in
    rw (c.from-n.ensures, c.from-in-loop-i.ensures) (g.some, g.most, omega arith)

pub overflow_add-many : goal.overflow_add-many
overflow_add-many c =
    let g = c.requires.0 in
    let most = g.most in
    let l = c.loop-i in
    let both = counted (goal.at.overflow_add-many c).After-leaves_under-b in
    let here = row_below (goal.at.overflow_add-many c).In-loop-i in
    omega (arith, both-within c.args.rows.now g l.i l.invariant.from here l.many l.invariant _ _ both.0 both.1)

pub loop-i-preserved : goal.loop-i-preserved
loop-i-preserved c =
    let l = c.loop-i in
    let both = counted (goal.at.loop-i-preserved c).After-leaves_under-b in
    let here = row_below (goal.at.loop-i-preserved c).In-loop-i in
    counted-more c.args.rows.now c.requires.0 l.i l.invariant.from here l.many l.invariant _ _ both.0 both.1
