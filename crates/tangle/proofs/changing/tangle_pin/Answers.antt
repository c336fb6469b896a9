-- `tangle_pin`: pinned by the narrow side and row is pinned by the wide ones.
use Rattle.record_fields.specs.Refused.{told}
use Rattle.tangle.proofs.Widened.{pin_wide}
use Rattle.tangle.proofs.changing.tangle_pin.Goals as goal

pub returns : goal.returns
returns c =
    record {
      given = told c.pin.result;
      called = pin_wide c.in_16_bits.ensures c.in_16_bits-2.ensures c.pin.ensures;
      answers = c.into.ensures;
    }
