-- `count_text` meets its contract. The loop's invariant: the rows before row k + 1 have their counts. A count fits 16 bits, since no text
-- has more than 3,069 bytes.
use Rattle.std.proofs.Common.{◌+◌}
use Rattle.work_newick_writing.proofs.Counted.{CountedTo}
use Rattle.work_newick_writing.proofs.counting.count_text.Given as goal

abbrev pub invariant-loop-k : goal.invariant-loop-k
invariant-loop-k l = CountedTo l.rows l.bytes (l.k + 1)
