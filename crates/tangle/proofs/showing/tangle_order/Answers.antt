-- `tangle_order`: the order of the narrow number of a side is that of the wide one.
use Rattle.record_fields.specs.Refused.{told}
use Rattle.tangle.proofs.Widened.{order_wide}
use Rattle.tangle.proofs.showing.tangle_order.Goals as goal

pub returns : goal.returns
returns c =
    record {
      given = told c.order.result;
      called = order_wide c.in_16_bits.ensures c.order.ensures;
      answers = c.into.ensures;
    }
