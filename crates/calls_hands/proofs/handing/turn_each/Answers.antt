-- `turn_each`: the list's number, the record and the entries are tested in that order, and then the rows are turned over.
use Rattle.std.proofs.Common.{sym}
use Rattle.std.proofs.lemmas.Result.{err_from_is_err_and}
use Rattle.calls_hands.proofs.HandLists.{hands-many, hands-no_record, hands-bad, hands-turned, same-number}
use Rattle.calls_hands.proofs.handing.turn_each.Goals as goal

pub returns-then-list-gt-MOST_HANDS : goal.returns-then-list-gt-MOST_HANDS
returns-then-list-gt-MOST_HANDS g c = hands-many _ g.E.Entry.names _ c.if-list-gt-MOST_HANDS.true

pub returns-in_err-header : goal.returns-in_err-header
returns-in_err-header g c =
    let p = err_from_is_err_and c.from_residual.result c.from_residual.ensures.1 in
    rw (p.1, p.2) (hands-no_record _ g.E.Entry.names _ c.if-list-gt-MOST_HANDS.false _ c.in_err-header.ensures.reads)

pub returns-in_err-test_each : goal.returns-in_err-test_each
returns-in_err-test_each g c =
    let p = err_from_is_err_and c.from_residual-in_err-test_each.result c.from_residual-in_err-test_each.ensures.1 in
    rw (p.1, p.2) (hands-bad _ g.E.Entry.names _ c.if-list-gt-MOST_HANDS.false c.in_ok-header.ensures.over.0.accepted _
    c.in_err-test_each.ensures)

pub turn_good-requires-clause-none_bad : goal.turn_good-requires-clause-none_bad
turn_good-requires-clause-none_bad g c = sym (same-number c.in_ok-test_each.ensures)

pub returns : goal.returns
returns g c =
    hands-turned _ g.E.Entry.names _ c.if-list-gt-MOST_HANDS.false c.in_ok-header.ensures.over.0.accepted
    c.in_ok-test_each.ensures c.turn_good.ensures
