-- `heading_line`: n fits.
use Rattle.std.proofs.Common.{[], arith, ◌++◌, ◌∷◌}
use Rattle.work_text.specs.Lines.{ascii}
use Rattle.calls_sheet.proofs.Room.{line-most}
use Rattle.calls_sheet.proofs.lines.heading_line.Goals as goal

pub put_line-requires : goal.put_line-requires
put_line-requires c =
    omega (arith, line-most (ascii "TGP 1 " ++ (c.letter.result ∷ [])) (c.from.result ∷ []) (omega arith, tt))
