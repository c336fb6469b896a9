-- `ones_past` meets its contract. The loop's invariant: the marked places past p in the words passed are counted.
use Rattle.std.proofs.Common.{suc, ◌*◌, ◌-◌, ◌≡◌, ◌≤◌}
use Rattle.tanglegram.specs.Entanglement.{sum}
use Rattle.tanglegram.specs.Lists.{range}
use Rattle.work_seen_places.specs.Seen.{marked}
use Rattle.work_seen_places.proofs.seen.Seen.ones_past.Given as goal

abbrev pub invariant-loop-i : goal.invariant-loop-i
invariant-loop-i l = (l.n ≤ 64 * l.i) × (l.n ≡ sum (marked l.self) (range (suc l.p) (64 * l.i - suc l.p)))
