-- `take_in` answers by the first test of `take_in_refusal` that is met and writes nothing; or the bytes that give the order stand in the
-- buffer's first places, and are weighed.
use Rattle.std.proofs.Common.{arith, refl, ◌-◌}
use Rattle.std.proofs.lemmas.List.{take-replicate}
use Rattle.std.proofs.lemmas.Result.{err_from_is_err_and}
use Rattle.record_fields.specs.declared.refusal.Refusal.TheVariants as refusal
use Rattle.calls_take_in.proofs.Taken.{told-side, told-record, told-order, told-room, taking_0, laid, take_in_refused, take_in_accepted}
use Rattle.calls_take_in.proofs.taking_in.take_in.Goals as goal

pub returns-in_err-side : goal.returns-in_err-side
returns-in_err-side c =
    let p = err_from_is_err_and c.from_residual.result c.from_residual.ensures.1 in
    rw (p.1, p.2) (take_in_refused _ _ _ _ refusal.Side (told-side _ _ _ _ c.in_err-side.ensures))

pub returns-in_err-header : goal.returns-in_err-header
returns-in_err-header c =
    let p = err_from_is_err_and c.from_residual-in_err-header.result c.from_residual-in_err-header.ensures.1 in
    rw (p.1, p.2) (take_in_refused _ _ _ _ _ (told-record _ _ _ _ c.in_ok-side.ensures _ c.in_err-header.ensures.reads))

pub lay_order-requires : goal.lay_order-requires
lay_order-requires c =
    let g = c.in_ok-header.ensures.over.0 in
    let most = g.sized.most in
    (g, take-replicate (c.in_ok-header.header.n - 1) 512 0 (omega arith))

pub returns-in_err-lay_order : goal.returns-in_err-lay_order
returns-in_err-lay_order c =
    let p = err_from_is_err_and c.from_residual-in_err-lay_order.result c.from_residual-in_err-lay_order.ensures.1 in
    let told = told-order _ _ _ _ c.in_ok-side.ensures c.in_ok-header.ensures.over.0 c.in_err-lay_order.ensures _ refl in
    rw (p.1, p.2) (take_in_refused _ _ _ _ _ told)

pub returns-then-out-lay : goal.returns-then-out-lay
returns-then-out-lay c =
    take_in_refused _ _ _ _ refusal.Room
    (told-room _ _ _ _ c.in_ok-side.ensures c.in_ok-header.ensures.over.0 c.in_ok-lay_order.ensures refl c.if-out-lay.true)

pub returns : goal.returns
returns c =
    let side = c.in_ok-side.ensures in
    let g = c.in_ok-header.ensures.over.0 in
    let told = c.in_ok-lay_order.ensures in
    take_in_accepted _ _ _ _ (taking_0 _ _ _ _ side g told refl c.if-out-lay.false) side.1 (laid _ _ _ c.args.out.now side g told refl)
    c.bytes_in.ensures c.weigh-turn.ensures refl
