-- `tangle_merge_read`: the table over the narrow n is read as that over the wide one.
use Rattle.record_fields.specs.Refused.{told}
use Rattle.tangle.proofs.Widened.{merge-read_wide}
use Rattle.tangle.proofs.tables.tangle_merge_read.Goals as goal

pub returns : goal.returns
returns c =
    record {
      given = told c.merge_read.result;
      called = merge-read_wide c.in_16_bits.ensures c.merge_read.ensures;
      answers = c.into.ensures;
    }
