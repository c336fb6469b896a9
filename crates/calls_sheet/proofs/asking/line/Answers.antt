-- `line`: the bytes are refused, or line 6 runs the record, or another line shows it.
use Rattle.std.proofs.Common.{arith}
use Rattle.record.proofs.Outcomes.{read-told, read-refuses}
use Rattle.calls_sheet.proofs.Saying.{says-shown, says-run, says-refused}
use Rattle.calls_sheet.proofs.asking.line.Goals as goal

pub returns-in_default : goal.returns-in_default
returns-in_default c =
    let e = c.in_default.ensures.reads in
    says-refused _ _ (omega arith) (read-refuses _ _ e) (read-told _ _ e) (rw c.in_default.is at c.refused_in.ensures)

pub returns-then-k-eq6 : goal.returns-then-k-eq6
returns-then-k-eq6 c = says-run _ _ (omega arith) c.in-Ok.ensures.over.0.accepted c.if-k-eq6.true c.run_line.ensures

pub returns : goal.returns
returns c = says-shown _ _ (omega arith) c.in-Ok.ensures.over.0.accepted (λ e. omega arith) c.shown_line.ensures
