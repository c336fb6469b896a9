use Rattle.std.proofs.Common.{length-take-le, sym}
use Rattle.input.proofs.read_whole.Goals as goal

pub returns-after-loop-done-clause-whole : goal.returns-after-loop-done-clause-whole
returns-after-loop-done-clause-whole g c = let l = c.loop-done in (l.invariant.0, sym (length-take-le l.done l.buf l.invariant.0))
