use Rattle.std.proofs.Common.{arith, get_or, take, ◌+◌, ◌<◌, ◌≡◌, ◌≤◌}
use Rattle.std.proofs.lemmas.List.{get_or-take}
use lib.ListN.{length-take}
use Rattle.work_places.specs.Arrays.{Linked}
use Rattle.work_crossings.proofs.Runs.{run_none, run-linked, run_more, run_small}
use Rattle.work_crossings.proofs.counting.count_seen.Goals.{In-loop-a, After-entry_of-p}
use Rattle.work_crossings.proofs.counting.count_seen.Goals as goal

inside : (c : In-loop-a) → c.loop-a.a-index < c.args.n
inside c = omega (arith, length-take c.args.n c.args.order.now)

leaf : (c : In-loop-a) →
    let a = c.args in get_or (take a.n a.order.now) c.loop-a.a-index 0 ≡ get_or a.order.now c.loop-a.a-index 0
leaf c = get_or-take c.args.n c.args.order.now c.loop-a.a-index 0 (inside c)

linked : (c : In-loop-a) →
    let a = c.args in Linked a.far.now (get_or a.order.now c.loop-a.a-index 0)
linked c =
    let p = c.requires in
    run-linked _ _ _ _ _ _ p.n_bound.0 p.n_bound.1 p.each.0 p.each.1 c.loop-a.invariant (inside c)

pub loop-a-init : goal.loop-a-init
loop-a-init c = rw c.new-seen.ensures (run_none _ _ _)

pub entry_of-p-requires : goal.entry_of-p-requires
entry_of-p-requires c =
    let i = (goal.at.entry_of-p-requires c).In-loop-a in
    let l = linked i in
    rw (leaf i) (l.0, l.1)

pub ones_past-count-requires : goal.ones_past-count-requires
ones_past-count-requires c =
    let i = (goal.at.ones_past-count-requires c).In-loop-a in
    rw (c.entry_of-p.ensures, leaf i) (linked i).2

pub overflow_add-count : goal.overflow_add-count
overflow_add-count c =
    let p = c.requires in
    let i = (goal.at.overflow_add-count c).In-loop-a in
    let small : c.loop-a.count + c.ones_past-count.result ≤ 131072 =
    rw (c.ones_past-count.ensures, c.entry_of-p.ensures, leaf i)
    (run_small _ _ _ _ _ _ p.n_bound.0 p.n_bound.1 p.each.0 p.each.1 c.loop-a.invariant (inside i)) in
    omega arith

pub mark-requires : goal.mark-requires
mark-requires c =
    let i = (goal.at.mark-requires c).In-loop-a in
    rw (c.entry_of-p.ensures, leaf i) (linked i).2

pub loop-a-preserved : goal.loop-a-preserved
loop-a-preserved c =
    let p = c.requires in
    let i = (goal.at.loop-a-preserved c).In-loop-a in
    rw (c.mark.ensures, c.ones_past-count.ensures, c.entry_of-p.ensures, leaf i)
    (run_more _ _ _ _ _ _ p.n_bound.0 p.n_bound.1 p.each.0 p.each.1 c.loop-a.invariant (inside i))
