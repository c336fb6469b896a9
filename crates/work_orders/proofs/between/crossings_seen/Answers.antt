-- `crossings_seen`: the seen places along the left order count the definition's crossings.
use Rattle.std.proofs.Common.{◌∙◌}
use Rattle.work_crossings.proofs.Count.{far_apart, count-seen-left}
use Rattle.work_orders.proofs.between.crossings_seen.Goals as goal

pub count_seen-requires : goal.count_seen-requires
count_seen-requires c =
    let b = c.requires in
    record {
      n_bound = (b.most, b.left_order);
      each = far_apart _ _ _ _ c.far_of.ensures b.linked b.right_order b.most;
    }

pub returns : goal.returns
returns c =
    let b = c.requires in
    c.count_seen.ensures ∙ count-seen-left _ _ _ _ c.far_of.ensures _ b.left_order
