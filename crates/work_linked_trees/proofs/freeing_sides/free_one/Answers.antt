-- `free_one`: the other side's order is walked, the links end there, and the side's rows are freed by it.
use Rattle.std.proofs.Common.{ap, sym, take, ◌∙◌}
use Rattle.work_trees.specs.Rows.{size}
use Rattle.work_places.specs.Arrays.{OneToN}
use Rattle.work_linked_trees.proofs.OrdersAtHand.{in_order_one, a_side}
use Rattle.work_linked_trees.proofs.SideFreed.{side_once, far-apart, freed-seen}
use Rattle.work_linked_trees.proofs.freeing_sides.free_one.Goals.{After-walk}
use Rattle.work_linked_trees.proofs.freeing_sides.free_one.Goals as goal

-- the other side's order
one-here : (c : After-walk) → OneToN (size c.args.freed.now.rows.now) c.walk.new.self.order.now
one-here c = rw c.requires.linked.0 at (in_order_one _ c.args.standing.now.good _ c.walk.ensures.in_order)

pub far_of-requires : goal.far_of-requires
far_of-requires c =
    rw c.from-n.ensures
    (c.args.freed.now.good.most, c.requires.linked.1, one-here (goal.at.far_of-requires c).After-walk)

pub free_rows-requires-clause-leaf_counts : goal.free_rows-requires-clause-leaf_counts
free_rows-requires-clause-leaf_counts c =
    let h = rw c.from-n.ensures at c.far_of.ensures in
    let one = one-here (goal.at.free_rows-requires-clause-leaf_counts c).After-walk in
    let apart = far-apart _ _ c.args.side c.requires.linked.1 one c.args.freed.now.good.most h in
    (c.args.freed.now.counts, c.requires.in_order, apart)

pub returns-clause-rows_freed : goal.returns-clause-rows_freed
returns-clause-rows_freed c =
    let h = rw c.from-n.ensures at c.far_of.ensures in
    let same = ap (λ m. take m c.walk.new.self.order.now) (sym c.requires.linked.0) ∙ c.walk.ensures.in_order.first in
    let once = side_once (a_side _ _ c.args.freed.now.good c.args.freed.now.long) in
    freed-seen _ _ _ same once c.free_rows.ensures c.args.side h
