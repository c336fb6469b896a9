-- `walk` meets its contract: a leaf is written, and of a branching both children are walked, a leaf in its place, of two others the one
-- with fewer leaves first. The measure is the object's number, since a child's is below its parent's.
use Rattle.work_trees.proofs.leaves.+walk.Given as goal

abbrev pub decreases-walk : goal.decreases-walk
decreases-walk l = l.obj
