-- `tangle_hold`: set to the narrow letter is set to the wide one.
use Rattle.record_fields.specs.Refused.{told}
use Rattle.tangle.proofs.Widened.{hold_wide}
use Rattle.tangle.proofs.changing.tangle_hold.Goals as goal

pub returns : goal.returns
returns c =
    record {
      given = told c.set_hold.result;
      called = hold_wide c.in_8_bits.ensures c.set_hold.ensures;
      answers = c.into.ensures;
    }
