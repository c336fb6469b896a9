-- `squared_entanglement`: a refusal, a single leaf, and the ratio of D and W.
use Rattle.std.proofs.lemmas.Result.{err_from_is_err_and}
use Rattle.calls_show.specs.Calls.{ratio}
use Rattle.calls_show.proofs.Outcomes.{squared-refused, squared-none, squared-ratio}
use Rattle.calls_show.proofs.showing.squared_entanglement.Goals as goal

pub returns-in_err-d : goal.returns-in_err-d
returns-in_err-d c =
    let p = err_from_is_err_and c.from_residual.result c.from_residual.ensures.1 in
    let e = c.in_err-d.ensures in
    rw (p.1, p.2) (squared-refused _ e.0 e.1)

pub returns-in-Some : goal.returns-in-Some
unfolding ratio
returns-in-Some c =
    let e = rw c.in-Some.is at c.in_ok-d.ensures in
    squared-ratio _ e.0 e.1 e.2 e.3

pub returns-in-None : goal.returns-in-None
returns-in-None c =
    let e = rw c.in-None.is at c.in_ok-d.ensures in
    squared-none _ e.0 e.1
