-- `test_hand`: each early return is one of 13, 15, 11 and 22, with what the tests before it left.
use Rattle.std.proofs.Common.{ap, false, sym, ◌∙◌, ◌≡◌}
use Rattle.std.proofs.lemmas.Result.{err_from_is_err_and}
use borrow.Author.Tests.{not-true, not-false}
use Rattle.record_fields.specs.Fields.{hold_of, size_of}
use Rattle.record_fields.specs.Refused.{refused}
use Rattle.record_arrays.specs.Sides.{side_of, holds}
use Rattle.record_arrays.specs.Rows.{no_row}
use Rattle.record_arrays.proofs.OneRow.{row-there}
use Rattle.calls_hands.proofs.HandLists.{hand_13, hand_15, hand_11, hand_22, hand_0}
use Rattle.calls_hands.proofs.handing.test_hand.Goals.{Else-holds, Else-not-is_row}
use Rattle.calls_hands.proofs.handing.test_hand.Goals as goal

pub returns-in_err-side : goal.returns-in_err-side
returns-in_err-side c =
    let p = err_from_is_err_and c.from_residual.result c.from_residual.ensures.1 in
    rw (p.1, p.2) (ap refused (hand_13 _ _ _ c.in_err-side.ensures))

pub returns-then-not-is_row : goal.returns-then-not-is_row
returns-then-not-is_row c =
    ap refused (hand_15 _ _ _ c.in_ok-side.ensures.0
    (ap (λ k. no_row k c.args.row) c.requires.record_over.sized.says ∙ not-false _ (sym c.is_row.ensures ∙ c.if-not-is_row.true)))

has-row : (c : Else-not-is_row) → no_row (size_of c.args.s.now) c.args.row ≡ false
has-row c =
    ap (λ k. no_row k c.args.row) c.requires.record_over.sized.says ∙ not-true _ (sym c.is_row.ensures ∙ c.if-not-is_row.false)

pub returns-then-holds : goal.returns-then-holds
returns-then-holds c =
    let at = goal.at.returns-then-holds c in
    ap refused (hand_11 _ _ _ c.in_ok-side.ensures.0 (has-row at.Else-not-is_row)
    (rw (c.requires.holds, ← c.in_ok-side.ensures.1) at (sym c.holds.ensures ∙ c.if-holds.true)))

free : (c : Else-holds) → holds (hold_of c.args.s.now) (side_of c.args.side) ≡ false
free c = rw (c.requires.holds, ← c.in_ok-side.ensures.1) at (sym c.holds.ensures ∙ c.if-holds.false)

pub row_byte-requires-clause-le_row : goal.row_byte-requires-clause-le_row
row_byte-requires-clause-le_row c = row-there _ _ (not-true _ (sym c.is_row.ensures ∙ c.if-not-is_row.false))

pub returns-then-not-may_change : goal.returns-then-not-may_change
returns-then-not-may_change c =
    let at = goal.at.returns-then-not-may_change c in
    ap refused (hand_22 _ _ _ c.in_ok-side.ensures.0 (has-row at.Else-not-is_row) (free at.Else-holds)
    (rw (c.row_byte.ensures, ← c.in_ok-side.ensures.1) at (sym c.may_change.ensures ∙ c.if-not-may_change.true)))

pub returns : goal.returns
returns c =
    let at = goal.at.returns c in
    ap refused (hand_0 _ _ _ c.in_ok-side.ensures.0 (has-row at.Else-not-is_row) (free at.Else-holds)
    (rw (c.row_byte.ensures, ← c.in_ok-side.ensures.1) at (sym c.may_change.ensures ∙ c.if-not-may_change.false)))
