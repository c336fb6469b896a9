use Rattle.std.proofs.Common.{arith, get_or, get_or-take, length, length-take, take, ◌<◌, ◌≡◌, ◌∙◌}
use Rattle.std.proofs.lemmas.List.{length_push}
use Rattle.std.proofs.lemmas.Slice.Zip.{zip_turn, zip_end}
use Rattle.work_places.specs.Arrays.{Leaf}
use Rattle.work_places.proofs.Arrays.{one_leaf, written-more, written_all}
use Rattle.work_places.proofs.leaves.near_ends.Goals.{After-from}
use Rattle.work_places.proofs.leaves.near_ends.Goals as goal

-- this turn's link, and the place of its left end
turn : (c : After-from) →
    let a = c.args in
    let i = length c.loop-c.yielded in
    (i < a.n) × (c.from.result ≡ get_or a.links.now i 0) × (c.in-Some.p.now ≡ get_or a.places.now i 0)
turn c =
    let a = c.args in
    let i = length c.loop-c.yielded in
    let links = take a.n a.links.now in
    let t =
    zip_turn links a.places.now c.loop-c.yielded _ _ c.next.new.self _ (cc) (cc) c.loop-c.yielded_by _ c.in-Some.is c.next.ensures.steps in
    let inside : i < a.n = omega (arith, t.0, length-take a.n a.links.now) in
    (inside, c.from.ensures ∙ t.2 0 ∙ get_or-take a.n a.links.now i 0 inside, t.3 0)

leaf : (c : After-from) → Leaf c.args.n c.from.result
leaf c = rw (turn c).1 (one_leaf _ _ c.requires.2 (length c.loop-c.yielded) (turn c).0)

pub overflow_sub-out : goal.overflow_sub-out
overflow_sub-out c = (leaf c).0

pub bounds-out-from : goal.bounds-out-from
bounds-out-from c = omega (arith, (leaf (goal.at.bounds-out-from c).After-from).1)

pub loop-c-preserved : goal.loop-c-preserved
loop-c-preserved c =
    let p = c.requires in
    let t = turn (goal.at.loop-c-preserved c).After-from in
    rw (t.1, t.2, length_push c.loop-c.yielded _) (written-more _ _ _ _ _ _ p.2 p.1 c.loop-c.invariant t.0)

pub returns : goal.returns
returns c =
    let p = c.requires in
    let a = c.args in
    let links = take a.n a.links.now in
    let e =
    zip_end links a.places.now c.loop-c.yielded _ _ c.next.new.self _ (cc) (cc) c.loop-c.yielded_by c.in-None.is c.next.ensures.steps in
    written_all _ _ _ _ _ _ p.2 p.1 c.loop-c.invariant (omega (arith, e, length-take a.n a.links.now))
