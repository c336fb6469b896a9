use Rattle.std.proofs.Common.{refl, ap, ◌∙◌}
use Rattle.std.proofs.lemmas.Result.{err_from_is_err_and}
use Rattle.record_fields.specs.Refused.{refused}
use Rattle.record_fields.proofs.Refused.{refuses}
use Rattle.calls_hands.proofs.HandLists.{none_more, first_bad, none_bad, same-number}
use Rattle.calls_hands.proofs.Narrowed.{narrow_bad, record-small}
use Rattle.calls_hands.proofs.handing.test_each.Goals as goal

pub loop-entry-init : goal.loop-entry-init
loop-entry-init g c = refl

pub loop-entry-preserved : goal.loop-entry-preserved
loop-entry-preserved g c =
    let l = c.loop-entry in
    let same = narrow_bad c.args.s.now (g.E.Entry.names c.entry-item.result) (record-small c.requires.record_over) in
    none_more g.E.Entry.names _ _ _ l.invariant c.loop-entry-test.true c.entry-item.is
    (same-number (rw (c.side.ensures, c.row.ensures, same) at c.in_ok-test_hand.ensures))

pub returns-in_err-test_hand : goal.returns-in_err-test_hand
returns-in_err-test_hand g c =
    let p = err_from_is_err_and c.from_residual.result c.from_residual.ensures.1 in
    let l = c.loop-entry in
    let same = narrow_bad c.args.s.now (g.E.Entry.names c.entry-item.result) (record-small c.requires.record_over) in
    let found = rw (c.side.ensures, c.row.ensures, same) at c.in_err-test_hand.ensures in
    rw (p.1, p.2) (found ∙ ap refused (first_bad g.E.Entry.names _ _ _ l.invariant c.loop-entry-test.true c.entry-item.is
    (refuses _ found)))

pub returns : goal.returns
returns g c =
    let l = c.loop-entry in
    ap refused (none_bad g.E.Entry.names _ _ _ l.invariant c.loop-entry-test.false)
