-- `comparing` answers by the first test of `better_refusal` that is met.
use Rattle.std.proofs.Common.{sym, ◌∙◌, ◌≡◌}
use Rattle.std.proofs.lemmas.Result.{err_from_is_err_and}
use Rattle.calls_better.proofs.Compared.{comparing_side, comparing_record, comparing_first, comparing_second, comparing_0}
use Rattle.record_fields.specs.Fields.{parts}
use Rattle.record_fields.proofs.Told.{told_none}
use Rattle.calls_better.specs.Refusals.{better_refusal}
use Rattle.calls_better.proofs.comparing.comparing.Goals.{Else-not-is_order-2}
use Rattle.calls_better.proofs.comparing.comparing.Goals as goal

pub returns-in_err-side-clause-tells : goal.returns-in_err-side-clause-tells
returns-in_err-side-clause-tells c =
    let p = err_from_is_err_and c.from_residual.result c.from_residual.ensures.1 in
    rw (p.1, p.2) (comparing_side _ _ _ _ c.in_err-side.ensures)

pub returns-in_err-header-clause-tells : goal.returns-in_err-header-clause-tells
returns-in_err-header-clause-tells c =
    let p = err_from_is_err_and c.from_residual-in_err-header.result c.from_residual-in_err-header.ensures.1 in
    rw (p.1, p.2) (comparing_record _ _ _ _ c.in_ok-side.ensures _ c.in_err-header.ensures.reads)

pub returns-then-not-is_order-clause-tells : goal.returns-then-not-is_order-clause-tells
returns-then-not-is_order-clause-tells c =
    comparing_first _ _ _ _ c.in_ok-side.ensures c.in_ok-header.ensures.over.0 (sym c.is_order.ensures ∙ c.if-not-is_order.true)

pub returns-then-not-is_order-2-clause-tells : goal.returns-then-not-is_order-2-clause-tells
returns-then-not-is_order-2-clause-tells c =
    comparing_second _ _ _ _ c.in_ok-side.ensures c.in_ok-header.ensures.over.0 (sym c.is_order.ensures ∙ c.if-not-is_order.false)
    (sym c.is_order-2.ensures ∙ c.if-not-is_order-2.true)

none : (c : Else-not-is_order-2) → let a = c.args in better_refusal a.s.now a.side a.first.now a.second.now ≡ 0
none c =
    comparing_0 _ _ _ _ c.in_ok-side.ensures c.in_ok-header.ensures.over.0 (sym c.is_order.ensures ∙ c.if-not-is_order.false)
    (sym c.is_order-2.ensures ∙ c.if-not-is_order-2.false)

pub returns-clause-tells : goal.returns-clause-tells
returns-clause-tells c = told_none (parts c.args.s.now) (none c)

pub returns-clause-says : goal.returns-clause-says
returns-clause-says c = (none c, c.in_ok-side.ensures.1, sym c.in_ok-header.ensures.over.0.sized.says)
