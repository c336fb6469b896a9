-- `write` stores part after part, so that the buffer begins with the record.
use Rattle.std.proofs.Common.{ap, ◌∙◌}
use lib.Seq.{sets}
use Rattle.record_fields.specs.Fields.{packed}
use Rattle.record_packing.proofs.Packed.{stored}
use Rattle.record_packing.proofs.packing.Parts.write.Goals as goal

pub returns : goal.returns
returns c =
    let e₂ = c.right_rows_at.ensures in
    let e₃ = c.links_at.ensures in
    let e₄ = c.left_layout_at.ensures in
    let e₅ = c.right_layout_at.ensures in
    stored _ _ _ _ _ _ _ c.self.invariant _ c.write_opening.ensures c.numbers_in.ensures (rw e₂ at c.numbers_in-2.ensures)
    (rw e₃ at c.numbers_in-3.ensures) (rw e₄ at c.bytes_in.ensures) (rw e₅ at c.bytes_in-2.ensures)
    ∙ ap (λ P. sets c.args.out.now 0 (packed P)) c.self.view_is
