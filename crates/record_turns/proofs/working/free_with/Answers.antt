-- `free_with`: the record's trees are in the arrays with the layouts that are lent, and the side is freed there.
use Rattle.work_linked_trees.proofs.SideFreed.{memory-now}
use Rattle.record_turns.proofs.Apart.{layouts-freed}
use Rattle.record_turns.proofs.working.free_with.Goals as goal

pub free_side-requires : goal.free_side-requires
free_side-requires c = record { in_memory = memory-now c.take_trees.ensures.memory }

pub returns : goal.returns
returns c =
    layouts-freed c.requires.record_over c.take_trees.ensures c.free_side.ensures
