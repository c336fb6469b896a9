-- `hand`: by the colon and the two numbers.
use Rattle.desk_words.proofs.Handing.{no_colon, bad_side, bad_row, both-said}
use Rattle.desk_words.proofs.lists.hand.Goals as goal

pub returns-in_err-side : goal.returns-in_err-side
returns-in_err-side c = rw c.from_residual.ensures (bad_side _ _ _ c.cut.ensures c.in_err-side.ensures)

pub returns-in_err-behind : goal.returns-in_err-behind
returns-in_err-behind c = rw c.from_residual-in_err-behind.ensures (no_colon _ _ _ c.cut.ensures c.in_err-behind.was)

pub returns-in_err-row : goal.returns-in_err-row
returns-in_err-row c =
    rw c.from_residual-in_err-row.ensures (bad_row _ _ _ c.cut.ensures _ c.in_ok-behind.was c.in_err-row.ensures)

pub returns : goal.returns
returns c =
    rw (c.from.ensures, c.from-2.ensures)
    (both-said _ _ _ c.cut.ensures _ c.in_ok-behind.was _ _ c.in_ok-side.ensures c.in_ok-row.ensures)
