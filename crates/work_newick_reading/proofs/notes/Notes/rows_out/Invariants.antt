-- `rows_out`: entry after entry.
use Rattle.std.proofs.Common.{length, ◌≡◌}
use Rattle.work_newick_reading.proofs.RowsOut.{written}
use Rattle.work_newick_reading.proofs.notes.Notes.rows_out.Given as goal

abbrev pub invariant-loop-i : goal.invariant-loop-i
invariant-loop-i l = (length l.out ≡ length l.initial.out) × (l.out ≡ written l.noted-items l.n l.initial.out l.i)
