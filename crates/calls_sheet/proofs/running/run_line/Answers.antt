-- `run_line`: by whether the run is refused.
use Rattle.std.proofs.Common.{refl}
use Rattle.record_fields.proofs.Refused.{refused-some}
use Rattle.calls_sheet.proofs.Ran.{run-not_made, run_made}
use Rattle.calls_sheet.proofs.running.run_line.Goals as goal

pub returns-in-Ok : goal.returns-in-Ok
returns-in-Ok c = run_made _ c.in-Ok.ensures c.in-Ok.taken.settled refl refl c.turns_line.ensures

pub returns-in-Err : goal.returns-in-Err
returns-in-Err c = run-not_made _ c.in-Err.ensures (refused-some _) c.refused_line.ensures
