-- `tangle_pack`: packed by the narrow letter and n is packed by the wide ones.
use Rattle.record_fields.specs.Refused.{told}
use Rattle.tangle.proofs.Widened.{pack_wide}
use Rattle.tangle.proofs.packed.tangle_pack.Goals as goal

pub returns : goal.returns
returns c =
    record {
      given = told c.pack.result;
      called = pack_wide _ _ _ _ _ _ c.in_8_bits.ensures c.in_16_bits.ensures c.pack.ensures;
      answers = c.into.ensures;
    }
