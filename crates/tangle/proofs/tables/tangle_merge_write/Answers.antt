-- `tangle_merge_write`: the table of the narrow number of a side is that of the wide one.
use Rattle.record_fields.specs.Refused.{told}
use Rattle.tangle.proofs.Widened.{merge-write_wide}
use Rattle.tangle.proofs.tables.tangle_merge_write.Goals as goal

pub returns : goal.returns
returns c =
    record {
      given = told c.merge_write.result;
      called = merge-write_wide c.in_16_bits.ensures c.merge_write.ensures;
      answers = c.into.ensures;
    }
