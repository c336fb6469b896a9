-- `measures_line`: the three cases of what the call answers.
use Rattle.calls_sheet.proofs.Shown.{entangled_shown}
use Rattle.calls_sheet.proofs.measures.measures_line.Goals as goal

pub returns-in-Ok-Some : goal.returns-in-Ok-Some
returns-in-Ok-Some c =
    entangled_shown _ c.requires.0 (rw c.in-Ok-Some.field-0-is at c.in-Ok-Some.ensures) c.thousandths-k.ensures c.entangled_line.ensures

pub returns-in-Ok-None : goal.returns-in-Ok-None
returns-in-Ok-None c =
    entangled_shown _ c.requires.0 (rw c.in-Ok-None.field-0-is at c.in-Ok-None.ensures) c.thousandths-k.ensures
    c.entangled_line-in-Ok-None.ensures

pub returns-in-Err : goal.returns-in-Err
returns-in-Err c = entangled_shown _ c.requires.0 c.in-Err.ensures c.thousandths-k.ensures c.entangled_line-in-Err.ensures
