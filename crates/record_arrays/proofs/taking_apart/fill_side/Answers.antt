-- `fill_side`: the bytes from the layout's place on are the side's layout.
use Rattle.std.proofs.Common.{arith}
use Rattle.record_arrays.proofs.AsItStands.{layout-within, part_layout}
use Rattle.record_arrays.proofs.taking_apart.fill_side.Goals as goal

pub overflow_add-to : goal.overflow_add-to
overflow_add-to g c =
    let h = layout-within _ _ c.requires.0 (g.S.SaysSide.said c.args.side) in
    omega (arith, c.layout_at-from.ensures)

pub slice_bounds-lay_out-end : goal.slice_bounds-lay_out-end
slice_bounds-lay_out-end g c =
    let h = layout-within _ _ c.requires.0 (g.S.SaysSide.said c.args.side) in
    omega (arith, c.layout_at-from.ensures)

pub returns : goal.returns
returns g c =
    rw (part_layout _ _ c.requires.0 (g.S.SaysSide.said c.args.side) c.layout_at-from.ensures) at c.lay_out.ensures
