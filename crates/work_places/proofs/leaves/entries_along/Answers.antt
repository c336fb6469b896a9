use Rattle.std.proofs.Common.{ap, arith, get_or, get_or-take, length-take, set, sub-one, take, ℕ, ◌<◌, ◌∙◌, ◌≡◌}
use Rattle.work_places.specs.Arrays.{Leaf, at}
use Rattle.work_places.proofs.Arrays.{each_entry, along-all, along-next, along-more}
use Rattle.work_places.proofs.leaves.entries_along.Goals.{After-from}
use Rattle.work_places.proofs.leaves.entries_along.Goals as goal

-- the next entry is still as it was
is : (c : After-from) → c.from.result ≡ get_or (take c.args.n c.args.list.now) c.loop-a.a-index 0
is c =
    let a = c.args in
    let i = c.loop-a.a-index in
    c.from.ensures ∙ ap (λ l. get_or l i 0) c.loop-a.invariant
    ∙ along-next (at a.xs.now) (take a.n a.list.now) i c.loop-a-test.true

leaf : (c : After-from) → Leaf 512 c.from.result
leaf c =
    let a = c.args in
    let i = c.loop-a.a-index in
    let inside : i < a.n = omega (arith, c.loop-a-test.true, length-take a.n a.list.now) in
    rw (is c, get_or-take a.n a.list.now i 0 inside) (each_entry (Leaf 512) a.list.now a.n i c.requires.1 c.requires.2 inside)

pub overflow_sub-a : goal.overflow_sub-a
overflow_sub-a c = (leaf c).0

pub bounds-xs-from : goal.bounds-xs-from
bounds-xs-from c = omega (arith, (leaf (goal.at.bounds-xs-from c).After-from).1)

pub loop-a-preserved : goal.loop-a-preserved
loop-a-preserved c =
    let a = c.args in
    let i = c.loop-a.a-index in
    let list = take a.n a.list.now in
    ap (λ (k : ℕ). set c.loop-a.a-items i (get_or a.xs.now k 0)) (sub-one c.from.result)
    ∙ ap (λ x. set c.loop-a.a-items i (at a.xs.now x)) (is (goal.at.loop-a-preserved c).After-from)
    ∙ ap (λ l. set l i (at a.xs.now (get_or list i 0))) c.loop-a.invariant
    ∙ along-more (at a.xs.now) list i c.loop-a-test.true

pub returns : goal.returns
returns c =
    let a = c.args in
    rw c.loop-a.invariant (along-all (at a.xs.now) a.n c.loop-a.a-index a.list.now c.loop-a-test.false)
