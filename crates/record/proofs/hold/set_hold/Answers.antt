-- `set_hold` answers the letter's refusal, or the record's, and changes nothing; or it writes the letter.
use Rattle.std.proofs.Common.{◌∙◌}
use Rattle.std.proofs.lemmas.Result.{err_from_is_err_and}
use Rattle.record.proofs.Outcomes.{hold-letter, hold-record, hold-written}
use Rattle.record.proofs.hold.set_hold.Goals as goal

pub returns-in_err-hold : goal.returns-in_err-hold
returns-in_err-hold c =
    let p = err_from_is_err_and c.from_residual.result c.from_residual.ensures.1 in
    let r = c.in_err-hold.ensures in
    rw (p.1, p.2, r.1) (hold-letter _ _ r.0)

pub returns-in_err-read : goal.returns-in_err-read
returns-in_err-read c =
    let p = err_from_is_err_and c.from_residual-in_err-read.result c.from_residual-in_err-read.ensures.1 in
    rw (p.1, p.2) (hold-record _ _ c.in_ok-hold.ensures.0 _ c.in_err-read.ensures.reads)

pub returns : goal.returns
returns c =
    let h = c.in_ok-hold.ensures in
    hold-written _ _ h.0 c.in_ok-read.ensures.over.0.accepted (c.letter.ensures ∙ h.1)
