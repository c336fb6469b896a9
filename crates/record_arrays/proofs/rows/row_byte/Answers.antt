-- `row_byte`: what stands at the row's place is its byte (`row_read`).
use Rattle.std.proofs.Common.{arith, refl}
use Rattle.record_arrays.proofs.AsItStands.{layout-within}
use Rattle.record_arrays.proofs.OneRow.{row_within, row_read}
use Rattle.record_arrays.proofs.rows.row_byte.Goals as goal

pub overflow_add-result : goal.overflow_add-result
overflow_add-result g c =
    let h = layout-within _ _ c.requires.record_over (g.S.SaysSide.said c.args.side) in
    omega (arith, c.layout_at.ensures, c.requires.le_row)

pub bounds-s-layout_at : goal.bounds-s-layout_at
bounds-s-layout_at g c =
    let e = c.layout_at.ensures in
    let row = c.requires.le_row in
    row_within _ _ c.requires.record_over (g.S.SaysSide.said c.args.side) c.args.row row.0 row.1 e refl

pub returns : goal.returns
returns g c =
    let e = c.layout_at.ensures in
    let row = c.requires.le_row in
    row_read _ _ c.requires.record_over (g.S.SaysSide.said c.args.side) c.args.row row.0 row.1 e refl
