use Rattle.std.proofs.Common.{sym, ◌∙◌}
use Rattle.calls_hands.proofs.HandLists.{rest_cons, rest_none}
use Rattle.calls_hands.proofs.TurnedRows.{turning_start, turning_row, row-small, turning_more, turning_end}
use Rattle.calls_hands.proofs.Narrowed.{narrow-small, narrow-handed}
use Rattle.calls_hands.proofs.handing.turn_good.Goals as goal

pub loop-entry-init : goal.loop-entry-init
loop-entry-init g c = turning_start _ _ _ c.requires.record_over c.requires.none_bad

pub turn_hand-requires-clause-record_over : goal.turn_hand-requires-clause-record_over
turn_hand-requires-clause-record_over g c = c.loop-entry.invariant.over_n

pub turn_hand-requires-clause-le_row : goal.turn_hand-requires-clause-le_row
turn_hand-requires-clause-le_row g c =
    let l = c.loop-entry in
    let cut = rest_cons g.E.Entry.names _ _ c.loop-entry-test.true c.entry-item.is in
    rw (c.row.ensures, narrow-small _ (row-small _ _ _ l.invariant cut)) (turning_row _ _ _ l.invariant cut)

pub loop-entry-preserved : goal.loop-entry-preserved
loop-entry-preserved g c =
    let l = c.loop-entry in
    let cut = rest_cons g.E.Entry.names _ _ c.loop-entry-test.true c.entry-item.is in
    turning_more _ _ _ l.invariant cut
    (rw (c.side.ensures, c.row.ensures) at c.turn_hand.ensures ∙ narrow-handed _ _ (row-small _ _ _ l.invariant cut))

pub shape_of-s : goal.shape_of-s
shape_of-s g c = c.loop-entry.invariant.over_n.sized.whole ∙ sym c.requires.record_over.sized.whole

pub returns : goal.returns
returns g c =
    let l = c.loop-entry in
    turning_end _ _ _ l.invariant (rest_none g.E.Entry.names _ _ c.loop-entry-test.false)
