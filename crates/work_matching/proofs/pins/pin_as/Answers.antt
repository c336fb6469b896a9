use Rattle.std.proofs.Common.{arith, sym, ◌∙◌}
use Rattle.work_matching.proofs.RowPins.{pinned-next, pinned-all}
use Rattle.work_matching.proofs.pins.pin_as.Goals as goal

pub loop-i-preserved : goal.loop-i-preserved
loop-i-preserved c =
    let l = c.loop-i in
    let made = rw c.may_change.ensures at c.with_pin.ensures in
    l.invariant ∙ pinned-next c.args.pins.now l.lay l.i (omega arith) (omega arith) c.with_pin.result made

pub returns : goal.returns
returns c = sym (c.loop-i.invariant ∙ pinned-all c.args.pins.now c.loop-i.lay c.loop-i.i (omega arith))
