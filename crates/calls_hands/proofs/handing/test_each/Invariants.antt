-- `test_each`: no entry before the present one is bad.
use Rattle.calls_hands.proofs.HandLists.{NoneBefore}
use Rattle.calls_hands.proofs.handing.test_each.Given as goal

abbrev pub invariant-loop-entry : goal.invariant-loop-entry
invariant-loop-entry g l = NoneBefore g.E.Entry.names l.list l.s l.entry-index
