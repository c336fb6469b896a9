-- `check` answers the record's refusal.
use Rattle.std.proofs.Common.{refl}
use Rattle.std.proofs.lemmas.Result.{err_from_is_err_and}
use Rattle.record.proofs.Outcomes.{checked, read-told}
use Rattle.record_fields.specs.Fields.{parts}
use Rattle.record_fields.proofs.Told.{told_none}
use Rattle.record.proofs.reading.check.Goals as goal

pub returns-in_err-read : goal.returns-in_err-read
returns-in_err-read c =
    let p = err_from_is_err_and c.from_residual.result c.from_residual.ensures.1 in
    rw (p.1, p.2) (checked _ refl (read-told _ _ c.in_err-read.ensures.reads))

pub returns : goal.returns
returns c = checked _ refl (told_none (parts c.args.s.now) c.in_ok-read.ensures.over.0.accepted)
