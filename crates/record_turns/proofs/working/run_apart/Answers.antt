-- `run_apart`: the turns are taken from the record's own layouts, and these go back.
use Rattle.record_turns.proofs.Apart.{record_ran}
use Rattle.record_turns.proofs.working.run_apart.Goals as goal

pub returns : goal.returns
returns c =
    record_ran c.take_layouts.ensures c.put_back.ensures c.run_with-taken.ensures
