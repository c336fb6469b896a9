-- `turn_good`: what is done, and the entries left, come to what the whole list does.
use Rattle.std.proofs.Common.{drop, map}
use Rattle.calls_hands.proofs.TurnedRows.{HandsUnderWay}
use Rattle.calls_hands.proofs.handing.turn_good.Given as goal

abbrev pub invariant-loop-entry : goal.invariant-loop-entry
invariant-loop-entry g l =
    let names = g.E.Entry.names in
    HandsUnderWay l.n l.initial.s (map names l.list) (map names (drop l.entry-index l.list)) l.s
