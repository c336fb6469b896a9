-- `displaced`: a refusal is the record's.
use Rattle.std.proofs.lemmas.Result.{err_from_is_err_and}
use Rattle.record.proofs.Outcomes.{read-told, read-refuses}
use Rattle.calls_show.proofs.showing.displaced.Goals as goal

pub returns-in_err-header : goal.returns-in_err-header
returns-in_err-header c =
    let p = err_from_is_err_and c.from_residual.result c.from_residual.ensures.1 in
    let e = c.in_err-header.ensures.reads in
    rw (p.1, p.2) (read-refuses _ _ e, read-told _ _ e)
