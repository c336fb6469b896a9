-- `tangle_unpack`: what `unpack` answers, in 32 bits.
use Rattle.record_unpacking.specs.Answers.{unpacked}
use Rattle.tangle.proofs.packed.tangle_unpack.Goals as goal

pub returns : goal.returns
returns c = record { given = unpacked c.unpack.result; called = c.unpack.ensures; answers = c.into.ensures }
