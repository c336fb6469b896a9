-- `tangle_better`: compared for the narrow number of a side is compared for the wide one.
use Rattle.calls_better.specs.Answers.{compared}
use Rattle.tangle.proofs.Widened.{compare_wide}
use Rattle.tangle.proofs.proposing.tangle_better.Goals as goal

pub returns : goal.returns
returns c =
    record {
      given = compared c.compare.result;
      called = compare_wide c.in_16_bits.ensures c.compare.ensures;
      answers = c.into.ensures;
    }
