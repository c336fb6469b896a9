-- `lay_order`: the layout that the order shows is held against the side's pins, and pinned as the side is.
use Rattle.record_arrays.proofs.AsItStands.{part_layout}
use Rattle.calls_take_in.proofs.Steps.{told_0, told_23}
use Rattle.calls_take_in.proofs.taking_in.lay_order.Goals as goal

pub returns-then-not-keep_pins : goal.returns-then-not-keep_pins
returns-then-not-keep_pins c =
    let g = c.requires.0 in
    let side = c.args.side in
    told_23 _ _ g side _ c.requires.1 c.read_order.ensures c.if-not-read_order.false
    (part_layout _ _ g side c.layout_at-from.ensures) c.keep_pins.ensures c.if-not-keep_pins.true

pub returns : goal.returns
returns c =
    let g = c.requires.0 in
    let side = c.args.side in
    told_0 _ _ g side _ c.requires.1 c.read_order.ensures c.if-not-read_order.false
    (part_layout _ _ g side c.layout_at-from.ensures) c.keep_pins.ensures c.if-not-keep_pins.false
