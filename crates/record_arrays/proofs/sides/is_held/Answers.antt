-- `is_held`: a letter holds what its hold does, and any other byte nothing.
use Rattle.record_arrays.proofs.Held.{held_by_none}
use Rattle.record_arrays.proofs.sides.is_held.Goals as goal

pub returns-in-Ok : goal.returns-in-Ok
returns-in-Ok g c = rw (c.in-Ok.ensures.1, c.side.ensures) at c.holds.ensures

pub returns-in-Err : goal.returns-in-Err
returns-in-Err g c = held_by_none _ _ c.in-Err.ensures.0
