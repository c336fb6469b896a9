-- `run`: the allowance's refusal, the record's or the held sides', and every byte as found; or turns taken, and told.
use Rattle.std.proofs.Common.{sym, ◌∙◌, inl, inr}
use Rattle.std.proofs.lemmas.Result.{err_from_is_err_and}
use Rattle.calls_turns.proofs.Turns.{none_allowed, allowance-good, run-no-allowance, run-record, run-held, run-done}
use Rattle.calls_turns.proofs.taking_turns.run.Goals.{then-holds-via-then-holds, then-holds-via-else-holds+then-holds-2}
use Rattle.calls_turns.proofs.taking_turns.run.Goals as goal

pub returns-then-allowance-eq0 : goal.returns-then-allowance-eq0
returns-then-allowance-eq0 c = run-no-allowance _ _ (none_allowed c.then-allowance-eq0.either)

pub returns-in_err-header : goal.returns-in_err-header
returns-in_err-header c =
    let p = err_from_is_err_and c.from_residual.result c.from_residual.ensures.1 in
    rw (p.1, p.2)
    (run-record _ _ (allowance-good _ c.if-allowance-eq0.false c.if-allowance-gt-MOST_TURNS.false) _ c.in_err-header.ensures.reads)

pub returns-then-holds : goal.returns-then-holds
returns-then-holds c =
    let over = c.in_ok-header.ensures.over in
    run-held _ _ (allowance-good _ c.if-allowance-eq0.false c.if-allowance-gt-MOST_TURNS.false) over.0.accepted over.1
    (elim c.then-holds.branch [
      | then-holds-via-then-holds w ↦ inl (sym c.holds.ensures ∙ w.if-holds.true)
      | then-holds-via-else-holds+then-holds-2 w ↦ inr (sym w.holds-else-holds.ensures ∙ w.if-holds-2.true)
    ])

pub returns : goal.returns
returns c =
    let over = c.in_ok-header.ensures.over in
    run-done _ _ (allowance-good _ c.if-allowance-eq0.false c.if-allowance-gt-MOST_TURNS.false) over.0.accepted over.1
    (sym c.holds.ensures ∙ c.if-holds.false) (sym c.holds-else-holds.ensures ∙ c.if-holds-2.false) c.run_record.ensures
