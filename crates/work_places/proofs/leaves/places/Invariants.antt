-- `places` meets its contract. The loop's invariant: the place of each leaf passed stands at that leaf.
use Rattle.work_places.proofs.Arrays.{Written}
use Rattle.work_places.proofs.leaves.places.Given as goal

abbrev pub invariant-loop-i : goal.invariant-loop-i
invariant-loop-i l = Written l.n l.order (λ j. j) l.initial.out l.out l.i
