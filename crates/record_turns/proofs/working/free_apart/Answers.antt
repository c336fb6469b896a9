-- `free_apart`: the side is freed from the record's own layouts, and these go back.
use Rattle.record_turns.proofs.Apart.{record_freed}
use Rattle.record_turns.proofs.working.free_apart.Goals as goal

pub returns : goal.returns
returns c =
    record_freed c.take_layouts.ensures c.put_back.ensures c.free_with-turn.ensures
