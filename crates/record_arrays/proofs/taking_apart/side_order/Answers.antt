-- `side_order`: the leaves of the side's row array stand in the order that its layout gives.
use Rattle.std.proofs.Common.{refl, ◌∙◌}
use Rattle.record_arrays.proofs.Apart.{order-shown}
use Rattle.record_arrays.proofs.taking_apart.side_order.Goals as goal

pub count_leaves-requires : goal.count_leaves-requires
count_leaves-requires g c = (c.fill_side.ensures.good, refl)

pub leaf_order-requires : goal.leaf_order-requires
leaf_order-requires g c = record {
  good_rows = (c.fill_side.ensures.good, c.count_leaves.ensures);
  out_len = c.requires.1;
}

pub returns : goal.returns
returns g c =
    c.leaf_order.ensures ∙ order-shown _ _ c.requires.0 (g.S.SaysSide.said c.args.side) _ _ c.fill_side.ensures
