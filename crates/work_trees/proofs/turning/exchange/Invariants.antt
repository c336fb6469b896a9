-- `exchange` meets its contract. The loop's invariant: the first i rows have their entries exchanged where they are turned.
use Rattle.std.proofs.Common.{◌≡◌}
use Rattle.work_trees.specs.Exchange.{exchanged_to}
use Rattle.work_trees.proofs.turning.exchange.Given as goal

abbrev pub invariant-loop-i : goal.invariant-loop-i
invariant-loop-i l = l.rows ≡ exchanged_to l.initial.rows l.lay l.i
