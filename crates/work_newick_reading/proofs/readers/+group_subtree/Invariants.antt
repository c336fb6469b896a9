-- `group` and `subtree` meet their contracts: each step of a group is what the definition reads there, and is noted. The measure is the
-- text left, and `subtree` is below `group` at the same place.
use Rattle.std.proofs.Common.{◌+◌, ◌*◌, ◌-◌, length}
use Rattle.work_newick_reading.proofs.readers.+group_subtree.Given as goal

abbrev pub decreases-group : goal.decreases-group
decreases-group l = 2 * (length l.text.now.bytes.now - l.at) + 2

abbrev pub decreases-subtree : goal.decreases-subtree
decreases-subtree l = 2 * (length l.text.now.bytes.now - l.at) + 1
