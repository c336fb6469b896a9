-- `tangle_newick_write`: the text of the narrow number of a side is that of the wide one.
use Rattle.calls_newick.specs.Answers.{written_as}
use Rattle.tangle.proofs.Widened.{newick-write_wide}
use Rattle.tangle.proofs.texts.tangle_newick_write.Goals as goal

pub returns : goal.returns
returns c =
    record {
      given = written_as c.newick_write.result;
      called = newick-write_wide c.in_16_bits.ensures c.newick_write.ensures;
      answers = c.into.ensures;
    }
