-- `count_line`: a number of 32 bits fits.
use Rattle.std.proofs.Common.{[], arith, ◌∷◌}
use Rattle.work_text.specs.Lines.{ascii}
use Rattle.calls_sheet.proofs.Room.{line-most}
use Rattle.calls_sheet.proofs.lines.count_line.Goals as goal

pub put_line-requires : goal.put_line-requires
put_line-requires c =
    let a = c.args in
    omega (arith, line-most (ascii "X") (a.count ∷ []) (omega arith, tt))
