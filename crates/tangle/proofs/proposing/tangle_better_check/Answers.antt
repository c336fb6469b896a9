-- `tangle_better_check`: checked for the narrow number of a side is checked for the wide one.
use Rattle.record_fields.specs.Refused.{told}
use Rattle.tangle.proofs.Widened.{better-check_wide}
use Rattle.tangle.proofs.proposing.tangle_better_check.Goals as goal

pub returns : goal.returns
returns c =
    record {
      given = told c.better_check.result;
      called = better-check_wide c.in_16_bits.ensures c.better_check.ensures;
      answers = c.into.ensures;
    }
