-- `rows_out`: entry after entry, the object that it names is stored.
use Rattle.std.proofs.Common.{length, take, ◌≡◌}
use lib.Seq.{sets}
use Rattle.merge.specs.Tables.{rows_in}
use Rattle.work_merge.proofs.reading.rows_out.Given as goal

abbrev pub invariant-loop-k : goal.invariant-loop-k
invariant-loop-k l = (length l.out ≡ length l.initial.out) × (l.out ≡ sets l.initial.out 0 (take l.k (rows_in l.n l.table)))
