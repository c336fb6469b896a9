-- `tangle_take_in`: an order taken in for the narrow number of a side is taken in for the wide one.
use Rattle.calls_take_in.specs.Answers.{taken_in}
use Rattle.tangle.proofs.Widened.{take_in_wide}
use Rattle.tangle.proofs.proposing.tangle_take_in.Goals as goal

pub returns : goal.returns
returns c =
    record {
      given = taken_in c.take_in.result;
      called = take_in_wide c.in_16_bits.ensures c.take_in.ensures;
      answers = c.into.ensures;
    }
