-- `displacement_of`: the places of both ends of each link are those of the two orders.
use Rattle.std.proofs.Common.{◌∙◌}
use Rattle.work_crossings.proofs.Count.{displaced-is, ends-below}
use Rattle.work_orders.proofs.between.displacement_of.Goals as goal

pub displaced-requires : goal.displaced-requires
displaced-requires c =
    let b = c.requires in
    let f = c.fill.ensures in
    (b.most, ends-below _ _ _ _ _ _ f.0 f.1 b.linked b.left_order b.right_order b.most)

pub returns : goal.returns
returns c =
    let f = c.fill.ensures in
    c.displaced.ensures ∙ displaced-is _ _ _ _ _ _ f.0 f.1
