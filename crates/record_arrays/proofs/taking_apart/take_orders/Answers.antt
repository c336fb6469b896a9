-- `take_orders`: both orders and the links are those of the record.
use Rattle.std.proofs.Common.{arith}
use Rattle.tanglegram.specs.declared.side.Side.TheVariants.{Left as left, Right as right}
use Rattle.record_arrays.proofs.Apart.{order-taken, order_one, links-taken, links_one}
use Rattle.record_arrays.proofs.taking_apart.take_orders.Goals as goal

pub fill_links-requires : goal.fill_links-requires
fill_links-requires c =
    let g = c.requires.record_over in
    let whole = g.sized.whole in
    let some = g.sized.some in
    (g.sized.most, omega (arith, c.links_at.ensures), c.requires.left_len.2)

pub returns : goal.returns
returns c =
    let at = c.links_at.ensures in
    let g = c.requires.record_over in
    let most = g.sized.most in
    let long = c.requires.left_len.2 in
    let a = c.side_order.ensures in
    let b = c.side_order-2.ensures in
    let e = c.fill_links.ensures in
    record {
      left_order = order-taken _ _ g left _ _ a;
      right_order = order-taken _ _ g right _ _ b;
      its_links = links-taken _ _ g _ _ (omega arith) _ at e;
      between = record {
        most = most;
        linked = links_one _ _ g _ _ (omega arith) _ at e;
        left_order = order_one _ _ g left _ _ a;
        right_order = order_one _ _ g right _ _ b;
      };
    }
