-- `any_names_none`: row after row, each entry is tested.
use Rattle.work_merge.proofs.Tested.{Tested}
use Rattle.work_merge.proofs.reading.any_names_none.Given as goal

abbrev pub invariant-loop-i : goal.invariant-loop-i
invariant-loop-i l = Tested l.n l.table l.i
