-- `entries_along` meets its contract. The loop's invariant: of the first n entries, those passed are written over.
use Rattle.std.proofs.Common.{take, ◌≡◌}
use Rattle.work_places.specs.Arrays.{along, at}
use Rattle.work_places.proofs.leaves.entries_along.Given as goal

abbrev pub invariant-loop-a : goal.invariant-loop-a
invariant-loop-a l = l.a-items ≡ along (at l.xs) l.a-index (take l.n l.fn.list)
