-- `digits_from`: digit after digit, until there is none; x stands for the number that they say.
use Rattle.std.proofs.Common.{length, ◌-◌}
use Rattle.work_newick_reading.proofs.DigitLaws.{DigitsTo}
use Rattle.work_newick_reading.proofs.digits.Text.digits_from.Given as goal

abbrev pub invariant-loop-end : goal.invariant-loop-end
invariant-loop-end l = DigitsTo l.self.bytes.now l.from l.x l.end

abbrev pub decreases-loop-end : goal.decreases-loop-end
decreases-loop-end l = length l.self.bytes.now - l.end
