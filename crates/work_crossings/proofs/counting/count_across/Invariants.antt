-- `count_across` meets its contract. The loop's invariant: the first places of the second run are compared with the first run.
use Rattle.std.proofs.Common.{drop, take, ◌*◌, ◌≡◌, ◌≤◌}
use Rattle.tanglegram.specs.Crossings.{across}
use Rattle.work_places.specs.Arrays.{falls}
use Rattle.work_crossings.proofs.counting.count_across.Given as goal

abbrev pub invariant-loop-q : goal.invariant-loop-q
invariant-loop-q l =
    (l.count ≤ 512 * l.q-index) × (l.count ≡ across falls (take l.k (drop l.at l.seen)) (take l.q-index (take l.m (drop l.from l.seen))))
