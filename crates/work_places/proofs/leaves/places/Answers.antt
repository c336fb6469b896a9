use Rattle.std.proofs.Common.{arith, get_or, get_or-take, length-take, ◌<◌, ◌∙◌, ◌≡◌}
use Rattle.work_places.specs.Arrays.{Leaf}
use Rattle.work_places.proofs.Arrays.{one_leaf, written-more, written_all}
use Rattle.work_places.proofs.leaves.places.Goals.{After-from}
use Rattle.work_places.proofs.leaves.places.Goals as goal

inside : (c : After-from) → c.loop-i.i < c.args.n
inside c = omega (arith, c.loop-i-test.true, length-take c.args.n c.args.order.now)

is : (c : After-from) → c.from.result ≡ get_or c.args.order.now c.loop-i.i 0
is c = c.from.ensures ∙ get_or-take c.args.n c.args.order.now c.loop-i.i 0 (inside c)

leaf : (c : After-from) → Leaf c.args.n c.from.result
leaf c = rw (is c) (one_leaf _ _ c.requires.2 c.loop-i.i (inside c))

pub overflow_sub-out : goal.overflow_sub-out
overflow_sub-out c = (leaf c).0

pub bounds-out-from : goal.bounds-out-from
bounds-out-from c = omega (arith, (leaf (goal.at.bounds-out-from c).After-from).1)

pub loop-i-preserved : goal.loop-i-preserved
loop-i-preserved c =
    let p = c.requires in
    let here = (goal.at.loop-i-preserved c).After-from in
    rw (is here) (written-more _ _ _ _ _ _ p.2 p.1 c.loop-i.invariant (inside here))

pub returns : goal.returns
returns c =
    let p = c.requires in
    written_all _ _ _ _ _ _ p.2 p.1 c.loop-i.invariant (omega (arith, c.loop-i-test.false, length-take c.args.n c.args.order.now))
