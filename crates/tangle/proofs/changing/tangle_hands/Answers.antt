-- `tangle_hands`: what `hands_named` answers, in 32 bits.
use Rattle.record_fields.specs.Refused.{told}
use Rattle.tangle.proofs.changing.tangle_hands.Goals as goal

pub returns : goal.returns
returns c = record {
  given = told c.hands_named.result;
  called = c.hands_named.ensures;
  answers = c.into.ensures;
}
