-- `walk`: the leaves stand in the order's first places.
use Rattle.work_linked_trees.proofs.OrdersAtHand.{walked}
use Rattle.work_linked_trees.proofs.sides.OneSide.walk.Goals as goal

pub returns-clause-in_order : goal.returns-clause-in_order
returns-clause-in_order c = walked _ c.args.self.now.good _ c.args.self.now.room c.leaf_order.ensures

pub invariant_of-self : goal.invariant_of-self
invariant_of-self c =
    let s = c.args.self.now in
    record { good = s.good; long = s.long; counts = s.counts; room = (walked _ s.good _ s.room c.leaf_order.ensures).long }
