-- `fill` writes each part of the record to the first places of its buffer.
use Rattle.std.proofs.Common.{ap, ◌∙◌}
use lib.Seq.{sets}
use Rattle.record_fields.specs.Fields.{parts_of}
use Rattle.record_fields.proofs.Cuts.{left_cut, right-cut}
use Rattle.record_unpacking.proofs.unpacking.Buffers.fill.Goals as goal

pub returns-clause-filled : goal.returns-clause-filled
unfolding parts_of
returns-clause-filled c =
    let b = c.args.self.now in
    let sized = c.requires.sized in
    let e = c.right_rows_at.ensures in
    let f = c.links_at.ensures in
    let at = c.left_layout_at-at.ensures in
    let last = c.right_layout_at-last.ensures in
    record {
      left = c.numbers_out.ensures;
      right = rw e at c.numbers_out-2.ensures;
      links = rw f at c.numbers_out-3.ensures;
      left_layout = c.bytes_in.ensures ∙ ap (sets b.leftlayout.now 0) (left_cut _ _ sized at last);
      right_layout = c.bytes_in-2.ensures ∙ ap (sets b.rightlayout.now 0) (right-cut _ _ sized at last);
    }
