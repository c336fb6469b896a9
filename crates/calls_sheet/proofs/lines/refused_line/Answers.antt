-- `refused_line`: with a row and without, the numbers fit.
use Rattle.std.proofs.Common.{[], arith, sym, ◌∙◌, ◌∷◌}
use Rattle.work_text.specs.Lines.{ascii}
use Rattle.record_fields.specs.Refused.{row_of}
use Rattle.calls_sheet.proofs.Room.{line-most}
use Rattle.calls_sheet.proofs.Rows.{no_row, some-row}
use Rattle.calls_sheet.proofs.lines.refused_line.Goals as goal

pub put_line-requires : goal.put_line-requires
put_line-requires c = omega (arith, line-most (ascii "REFUSED") (c.from-number.result ∷ []) (omega arith, tt))

pub returns-then-row-eq0 : goal.returns-then-row-eq0
returns-then-row-eq0 c =
    rw (no_row (row_of c.args.refusal) (sym c.row.ensures ∙ sym c.from-row.ensures ∙ c.if-row-eq0.true))
    (rw (c.from-number.ensures, c.number.ensures) at c.put_line.ensures)

pub put_line-requires-2 : goal.put_line-requires-2
put_line-requires-2 c =
    omega (arith, line-most (ascii "REFUSED") (c.from-number.result ∷ c.from-row.result ∷ []) (omega arith, (omega arith, tt)))

pub returns : goal.returns
returns c =
    rw (some-row (row_of c.args.refusal) (λ z. c.if-row-eq0.false (c.from-row.ensures ∙ c.row.ensures ∙ z)))
    (rw (c.from-number.ensures, c.number.ensures, c.from-row.ensures, c.row.ensures) at c.put_line-2.ensures)
