-- `count_seen` meets its contract. The loop's invariant: the leaves passed are seen, and their crossings counted.
use Rattle.work_crossings.proofs.Runs.{SeenRun}
use Rattle.work_crossings.proofs.counting.count_seen.Given as goal

abbrev pub invariant-loop-a : goal.invariant-loop-a
invariant-loop-a l = SeenRun l.far l.order l.n l.seen l.count l.a-index
