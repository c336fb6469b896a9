-- `read_layout` meets its contract. The loop's invariant: the first i rows have their bytes, and the objects to n + i the places of
-- their uppermost leaves.
use Rattle.std.proofs.Common.{suc, take}
use Rattle.work_matching.proofs.Reading.{Read}
use Rattle.work_matching.proofs.matching.read_layout.Given as goal

abbrev pub invariant-loop-i : goal.invariant-loop-i
invariant-loop-i l = Read l.rows (take l.n l.xs) l.initial.lay l.at l.lay (suc l.i)
