-- `entangled_line`: three numbers of 32 bits fit.
use Rattle.std.proofs.Common.{[], arith, ◌∷◌}
use Rattle.work_text.specs.Lines.{ascii}
use Rattle.calls_sheet.proofs.Room.{line-most}
use Rattle.calls_sheet.proofs.lines.entangled_line.Goals as goal

pub put_line-requires : goal.put_line-requires
put_line-requires c =
    let a = c.args in
    omega (arith, line-most (ascii "E") (a.d ∷ a.w ∷ a.k ∷ []) (omega arith, (omega arith, (omega arith, tt))))
