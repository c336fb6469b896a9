-- `contents` tests the parts where they stand in the record.
use Rattle.std.proofs.Common.{arith}
use Rattle.record_fields.specs.Fields.{hold_of, parts_of}
use Rattle.record_fields.proofs.Cuts.{left_cut, right-cut}
use Rattle.record_fields.proofs.Stores.{length-numbers}
use Rattle.record_contents.proofs.testing.contents.Goals as goal

pub test_parts-requires-clause-rows : goal.test_parts-requires-clause-rows
test_parts-requires-clause-rows c = (length-numbers _ _ _, length-numbers _ _ _)

pub test_parts-requires-clause-links : goal.test_parts-requires-clause-links
test_parts-requires-clause-links c = length-numbers _ _ _

pub returns : goal.returns
unfolding parts_of
returns c =
    let e = left_cut _ _ c.requires c.left_layout_at-from.ensures c.right_layout_at-to.ensures in
    let f = right-cut _ _ c.requires c.left_layout_at-from.ensures c.right_layout_at-to.ensures in
    rw (e, f, c.right_rows_at.ensures, c.links_at.ensures) at (c.test_parts.ensures (hold_of c.args.s.now))
