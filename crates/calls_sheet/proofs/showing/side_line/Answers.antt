-- `side_line`: the order that the record shows, n entries, and its line fits.
use Rattle.std.proofs.Common.{arith, length-take-le, refl, sym}
use Rattle.record_arrays.proofs.Apart.{order-long, order-taken}
use Rattle.record_arrays.proofs.AsItStands.{over_n}
use Rattle.calls_sheet.proofs.Shown.{order_fits}
use Rattle.calls_sheet.proofs.showing.side_line.Goals as goal

pub side_order-requires : goal.side_order-requires
side_order-requires c = (over_n _ c.requires.0 c.requires.1, refl)

pub slice_bounds-order-end : goal.slice_bounds-order-end
slice_bounds-order-end c = order-long _ _ (over_n _ c.requires.0 c.requires.1) c.args.side _ _ c.side_order.ensures

pub slice_bounds-order_line-end : goal.slice_bounds-order_line-end
slice_bounds-order_line-end c =
    sym (length-take-le _ _ (order-long _ _ (over_n _ c.requires.0 c.requires.1) c.args.side _ _ c.side_order.ensures))

pub order_line-requires : goal.order_line-requires
order_line-requires c =
    let shown = order-taken _ _ (over_n _ c.requires.0 c.requires.1) c.args.side _ _ c.side_order.ensures in
    rw shown (omega (arith, order_fits c.args.s.now c.requires.0 c.args.side c.args.letter))

pub returns : goal.returns
returns c =
    let shown = order-taken _ _ (over_n _ c.requires.0 c.requires.1) c.args.side _ _ c.side_order.ensures in
    rw shown at c.order_line.ensures
