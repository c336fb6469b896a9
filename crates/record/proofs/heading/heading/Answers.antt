-- `heading` answers by the first of the tests of the first eight bytes and the length that is met.
use Rattle.std.proofs.Common.{ap, arith, false, sym, true, ◌∙◌, ◌≡◌}
use Rattle.std.proofs.lemmas.Result.{err_from_is_err_and}
use Rattle.record_fields.specs.Fields.{two, version_at, hold_of, size_of, length_of}
use Rattle.record_fields.specs.Refusals.{is_hold, is_mark, no_size}
use Rattle.record_fields.specs.Refused.{refused}
use Rattle.record_fields.proofs.Heading.{heading_1, heading_2, heading_3, heading_4, heading_5, heading_6, heading_0, sized, passed, failed}
use Rattle.record.proofs.heading.heading.Goals.{Else-no_size, In_ok-hold, Else-not-is_mark, Else-number-ne-VERSION_1}
use Rattle.record.proofs.heading.heading.Goals as goal

marked : (c : Else-not-is_mark) → is_mark c.args.s.now ≡ true
marked c = passed c.is_mark.ensures c.if-not-is_mark.false

versioned : (c : Else-number-ne-VERSION_1) → two c.args.s.now version_at ≡ 1
versioned c = sym c.number.ensures ∙ c.if-number-ne-VERSION_1.false

held : (c : In_ok-hold) → is_hold (hold_of c.args.s.now) ≡ true
held c = c.in_ok-hold.ensures.0

counted : (c : Else-no_size) → no_size (size_of c.args.s.now) ≡ false
counted c = ap no_size (sym c.number-n.ensures) ∙ sym c.no_size.ensures ∙ c.if-no_size.false

pub returns-then-s-lt-LEFT_ROWS_AT-clause-tells : goal.returns-then-s-lt-LEFT_ROWS_AT-clause-tells
returns-then-s-lt-LEFT_ROWS_AT-clause-tells c = ap refused (heading_1 _ c.if-s-lt-LEFT_ROWS_AT.true)

pub returns-then-not-is_mark-clause-tells : goal.returns-then-not-is_mark-clause-tells
returns-then-not-is_mark-clause-tells c =
    ap refused (heading_2 _ c.if-s-lt-LEFT_ROWS_AT.false (failed c.is_mark.ensures c.if-not-is_mark.true))

pub returns-then-number-ne-VERSION_1-clause-tells : goal.returns-then-number-ne-VERSION_1-clause-tells
returns-then-number-ne-VERSION_1-clause-tells c =
    let at = goal.at.returns-then-number-ne-VERSION_1-clause-tells c in
    ap refused (heading_3 _ c.if-s-lt-LEFT_ROWS_AT.false (marked at.Else-not-is_mark)
    (λ e. c.if-number-ne-VERSION_1.true (c.number.ensures ∙ e)))

pub returns-in_err-hold-clause-tells : goal.returns-in_err-hold-clause-tells
returns-in_err-hold-clause-tells c =
    let at = goal.at.returns-in_err-hold-clause-tells c in
    let p = err_from_is_err_and c.from_residual.result c.from_residual.ensures.1 in
    rw (p.1, p.2, c.in_err-hold.ensures.1)
    (ap refused (heading_4 _ c.if-s-lt-LEFT_ROWS_AT.false (marked at.Else-not-is_mark) (versioned at.Else-number-ne-VERSION_1)
    c.in_err-hold.ensures.0))

pub returns-then-no_size-clause-tells : goal.returns-then-no_size-clause-tells
returns-then-no_size-clause-tells c =
    let at = goal.at.returns-then-no_size-clause-tells c in
    ap refused (heading_5 _ c.if-s-lt-LEFT_ROWS_AT.false (marked at.Else-not-is_mark) (versioned at.Else-number-ne-VERSION_1)
    (held at.In_ok-hold) (ap no_size (sym c.number-n.ensures) ∙ sym c.no_size.ensures ∙ c.if-no_size.true))

pub length_of-requires : goal.length_of-requires
length_of-requires c =
    let some = sized _ (sym c.no_size.ensures ∙ c.if-no_size.false) in
    omega arith

pub returns-then-s-length_of-clause-tells : goal.returns-then-s-length_of-clause-tells
returns-then-s-length_of-clause-tells c =
    let at = goal.at.returns-then-s-length_of-clause-tells c in
    ap refused (heading_6 _ c.if-s-lt-LEFT_ROWS_AT.false (marked at.Else-not-is_mark) (versioned at.Else-number-ne-VERSION_1)
    (held at.In_ok-hold) (counted at.Else-no_size)
    (λ e. c.if-s-length_of.true (e ∙ ap length_of (sym c.number-n.ensures) ∙ sym c.length_of.ensures)))

pub returns-clause-tells : goal.returns-clause-tells
returns-clause-tells c =
    let at = goal.at.returns-clause-tells c in
    ap refused (heading_0 _ c.if-s-lt-LEFT_ROWS_AT.false (marked at.Else-not-is_mark) (versioned at.Else-number-ne-VERSION_1)
    (held at.In_ok-hold) (counted at.Else-no_size) (c.if-s-length_of.false ∙ c.length_of.ensures ∙ ap length_of c.number-n.ensures))
