-- `near_ends` meets its contract. The loop's invariant: for each link passed, the place of its left end stands at its
-- right leaf.
use Rattle.std.proofs.Common.{get_or, length}
use Rattle.work_places.proofs.Arrays.{Written}
use Rattle.work_places.proofs.leaves.near_ends.Given as goal

abbrev pub invariant-loop-c : goal.invariant-loop-c
invariant-loop-c l = Written l.n l.links (λ j. get_or l.places j 0) l.initial.out l.out (length l.yielded)
