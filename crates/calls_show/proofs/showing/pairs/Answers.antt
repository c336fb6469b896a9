-- `pairs`: a refused record answers 0; an accepted one is counted pair by pair.
use Rattle.std.proofs.lemmas.Result.{err_from_is_err_and}
use Rattle.record.proofs.Outcomes.{read-told, read-refuses}
use Rattle.calls_show.proofs.Outcomes.{count-refused, count-accepted}
use Rattle.calls_show.proofs.showing.pairs.Goals as goal

pub returns-in_err-header : goal.returns-in_err-header
returns-in_err-header c =
    let p = err_from_is_err_and c.from_residual.result c.from_residual.ensures.1 in
    let e = c.in_err-header.ensures.reads in
    rw (p.1, p.2) (count-refused _ (read-told _ _ e) (read-refuses _ _ e))

pub returns : goal.returns
returns c = count-accepted _ c.in_ok-header.ensures.over.0.accepted c.record_paired.ensures
