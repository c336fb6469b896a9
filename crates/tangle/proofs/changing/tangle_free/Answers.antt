-- `tangle_free`: freed by the narrow number is freed by the wide one.
use Rattle.calls_turns.specs.Answers.{freed}
use Rattle.tangle.proofs.Widened.{free_wide}
use Rattle.tangle.proofs.changing.tangle_free.Goals as goal

pub returns : goal.returns
returns c =
    record {
      given = freed c.free.result;
      called = free_wide c.in_16_bits.ensures c.free.ensures;
      answers = c.into.ensures;
    }
