-- `walk` meets its contract: a row's marks and its shorter child's text are written, the other child's text remains, and in the end a
-- leaf's. The measure is the object's number, of the calls and of the loop, since a child's is below its parent's.
use Rattle.work_newick_writing.proofs.Remains.{Remains}
use Rattle.work_newick_writing.proofs.counting.TreeText.+walk.Given as goal

abbrev pub decreases-walk : goal.decreases-walk
decreases-walk l = l.top

abbrev pub invariant-loop-obj : goal.invariant-loop-obj
invariant-loop-obj l = Remains l.self.rows.now l.fn.out l.top l.from l.out l.obj l.at

abbrev pub decreases-loop-obj : goal.decreases-loop-obj
decreases-loop-obj l = l.obj
