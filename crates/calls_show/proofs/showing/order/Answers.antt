-- `order`: a refused call writes nothing; otherwise the order stands in its first places.
use Rattle.std.proofs.lemmas.Result.{err_from_is_err_and}
use Rattle.record.proofs.Outcomes.{read-told, read-refuses}
use Rattle.calls_show.proofs.Outcomes.{order-no-side, order-record, order-no-room, order-made}
use Rattle.calls_show.proofs.showing.order.Goals as goal

pub returns-in_err-side : goal.returns-in_err-side
returns-in_err-side c =
    let p = err_from_is_err_and c.from_residual.result c.from_residual.ensures.1 in
    rw (p.1, p.2) (order-no-side _ _ _ c.in_err-side.ensures)

pub returns-in_err-header : goal.returns-in_err-header
returns-in_err-header c =
    let p = err_from_is_err_and c.from_residual-in_err-header.result c.from_residual-in_err-header.ensures.1 in
    let e = c.in_err-header.ensures.reads in
    rw (p.1, p.2) (order-record _ _ _ c.in_ok-side.ensures.0 (read-refuses _ _ e) (read-told _ _ e))

pub returns-then-out-n : goal.returns-then-out-n
returns-then-out-n c = order-no-room _ _ _ c.in_ok-side.ensures.0 _ c.in_ok-header.ensures.over.0 c.if-out-n.true

pub returns : goal.returns
returns c =
    let side = c.in_ok-side.ensures in
    order-made _ _ _ side.0 _ c.in_ok-header.ensures.over.0 _ _ _ c.if-out-n.false side.1 c.side_order.ensures
    c.copy_from_slice.ensures.after
