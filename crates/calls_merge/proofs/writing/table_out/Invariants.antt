-- `table_out`: number after number, the entry for it is stored.
use Rattle.std.proofs.Common.{length, take, ◌≡◌}
use lib.Seq.{sets}
use Rattle.merge.specs.Tables.{table_for}
use Rattle.record_fields.specs.Fields.{parts}
use Rattle.record_fields.specs.Meaning.{rows_on}
use Rattle.calls_merge.proofs.writing.table_out.Given as goal

abbrev pub invariant-loop-k : goal.invariant-loop-k
invariant-loop-k l =
    (length l.out ≡ length l.initial.out)
    × (l.out ≡ sets l.initial.out 0 (take l.k (table_for l.n (rows_on (parts l.s) l.fn.side))))
