-- `run_with`: the record's trees are in the arrays with the layouts that are lent, and the turns are taken there.
use Rattle.work_linked_trees.proofs.SideFreed.{memory-now}
use Rattle.record_turns.proofs.Apart.{layouts-ran}
use Rattle.record_turns.proofs.working.run_with.Goals as goal

pub take_turns-requires : goal.take_turns-requires
take_turns-requires c = record {
  in_memory = memory-now c.take_trees.ensures.memory;
  le_allowance = c.requires.record_over.1;
}

pub returns : goal.returns
returns c =
    layouts-ran c.requires.record_over.0 c.take_trees.ensures c.take_turns.ensures
