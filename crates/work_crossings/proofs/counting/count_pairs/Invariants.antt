-- `count_pairs` meets its contract. The outer loop's invariant: the pairs of the first i leaves are counted; the inner one's:
-- and those of the first j leaves with the next one.
use Rattle.std.proofs.Common.{[], suc, ◌+◌, ◌∷◌, ◌≡◌, ◌≤◌}
use Rattle.tanglegram.specs.Crossings.{across, pairs}
use Rattle.tanglegram.specs.Lists.{range}
use Rattle.work_places.specs.Arrays.{cross_at}
use Rattle.work_crossings.proofs.counting.count_pairs.Given as goal

abbrev pub invariant-loop-i : goal.invariant-loop-i
invariant-loop-i l = l.count ≡ pairs (cross_at l.left l.far) (range 1 l.i)

abbrev pub invariant-loop-j : goal.invariant-loop-j
invariant-loop-j l =
    let w = cross_at l.left l.far in
    (l.count ≤ pairs w (range 1 l.i) + l.j) × (l.count ≡ pairs w (range 1 l.i) + across w (range 1 l.j) (suc l.i ∷ []))
