-- `is_order`: what `read_order` tells, with a byte for each row lent to it.
use Rattle.std.proofs.Common.{arith, sym}
use Rattle.record_arrays.proofs.Apart.{layout-room}
use Rattle.record_orders.proofs.proposed.is_order.Goals as goal

pub slice_bounds-read_order-end : goal.slice_bounds-read_order-end
slice_bounds-read_order-end g c = sym (layout-room c.args.n c.requires.sized.most)

pub read_order-requires : goal.read_order-requires
read_order-requires g c =
    let some = c.requires.sized.some in
    let e = layout-room c.args.n c.requires.sized.most in
    (c.requires, omega arith)

pub returns : goal.returns
returns g c = c.read_order.ensures.tells
