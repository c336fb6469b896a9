-- `leaves_once`: entry after entry, and the object that was read last.
use Rattle.std.proofs.Common.{◌*◌, ◌-◌}
use Rattle.work_newick_reading.proofs.OnceLaws.{OnceTo}
use Rattle.work_newick_reading.proofs.notes.Notes.leaves_once.Given as goal

abbrev pub invariant-loop-x : goal.invariant-loop-x
invariant-loop-x l = OnceTo l.self l.n (2 * (l.n - 1)) l.seen l.x-index
