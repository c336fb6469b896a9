-- `pin`: the side is tested, then the record, then the row, and a refused call keeps every byte; otherwise the row's byte with the pin
-- asked for is put in its place.
use Rattle.std.proofs.lemmas.Result.{err_from_is_err_and}
use Rattle.calls_pins.proofs.Pinned.{pin-no_side, pin-no_record, pin-no_row, row-found, pin-put}
use Rattle.calls_pins.proofs.pinning.pin.Goals as goal

pub returns-in_err-side : goal.returns-in_err-side
returns-in_err-side c =
    let p = err_from_is_err_and c.from_residual.result c.from_residual.ensures.1 in
    rw (p.1, p.2) (pin-no_side _ _ _ _ c.in_err-side.ensures)

pub returns-in_err-n : goal.returns-in_err-n
returns-in_err-n c =
    let p = err_from_is_err_and c.from_residual-in_err-n.result c.from_residual-in_err-n.ensures.1 in
    rw (p.1, p.2) (pin-no_record _ _ _ _ c.in_ok-side.ensures.0 _ c.in_err-n.ensures.reads)

pub returns-then-not-is_row : goal.returns-then-not-is_row
returns-then-not-is_row c =
    pin-no_row _ _ _ _ c.in_ok-side.ensures.0 c.in_ok-n.ensures.over.0 c.is_row.ensures c.if-not-is_row.true

pub row_byte-x-requires-clause-le_row : goal.row_byte-x-requires-clause-le_row
row_byte-x-requires-clause-le_row c = row-found _ _ c.is_row.ensures c.if-not-is_row.false

pub put_row_byte-requires-clause-le_row : goal.put_row_byte-requires-clause-le_row
put_row_byte-requires-clause-le_row c = row-found _ _ c.is_row.ensures c.if-not-is_row.false

pub returns : goal.returns
returns c =
    pin-put _ _ _ _ c.in_ok-side.ensures.0 c.in_ok-n.ensures.over.0 c.is_row.ensures c.if-not-is_row.false
    (rw (c.with_pin.ensures, c.row_byte-x.ensures, ← c.in_ok-side.ensures.1) at c.put_row_byte.ensures)
