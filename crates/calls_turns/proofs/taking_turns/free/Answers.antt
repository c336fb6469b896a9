-- `free`: the side's refusal, the record's or the held side's, and every byte as found; or the side freed, and both counts.
use Rattle.std.proofs.Common.{sym, ◌∙◌}
use Rattle.std.proofs.lemmas.Result.{err_from_is_err_and}
use Rattle.calls_turns.proofs.Turns.{free-no-side, free-record, free-held, free-done}
use Rattle.calls_turns.proofs.taking_turns.free.Goals as goal

pub returns-in_err-side : goal.returns-in_err-side
returns-in_err-side c =
    let p = err_from_is_err_and c.from_residual.result c.from_residual.ensures.1 in
    rw (p.1, p.2) (free-no-side _ _ c.in_err-side.ensures)

pub returns-in_err-header : goal.returns-in_err-header
returns-in_err-header c =
    let p = err_from_is_err_and c.from_residual-in_err-header.result c.from_residual-in_err-header.ensures.1 in
    rw (p.1, p.2) (free-record _ _ c.in_ok-side.ensures.0 _ c.in_err-header.ensures.reads)

pub returns-then-holds : goal.returns-then-holds
returns-then-holds c =
    let side = c.in_ok-side.ensures in
    let over = c.in_ok-header.ensures.over in
    free-held _ _ side.0 over.0.accepted over.1 side.1 (sym c.holds.ensures ∙ c.if-holds.true)

pub returns : goal.returns
returns c =
    let side = c.in_ok-side.ensures in
    let over = c.in_ok-header.ensures.over in
    free-done _ _ side.0 over.0.accepted over.1 side.1 (sym c.holds.ensures ∙ c.if-holds.false) c.free_record.ensures
