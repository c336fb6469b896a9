-- `fill_layout`: the bytes from the layout's place on are the side's layout.
use Rattle.std.proofs.Common.{arith, ◌∙◌}
use Rattle.record_arrays.proofs.AsItStands.{layout-within, part_layout, length_part}
use Rattle.record_arrays.proofs.Apart.{sets-whole}
use Rattle.record_arrays.proofs.taking_apart.fill_layout.Goals as goal

pub overflow_add-to : goal.overflow_add-to
overflow_add-to g c =
    let h = layout-within _ _ c.requires.0 (g.S.SaysSide.said c.args.side) in
    omega (arith, c.layout_at-from.ensures)

pub slice_bounds-bytes_in-end : goal.slice_bounds-bytes_in-end
slice_bounds-bytes_in-end g c =
    let h = layout-within _ _ c.requires.0 (g.S.SaysSide.said c.args.side) in
    omega (arith, c.layout_at-from.ensures)

pub returns : goal.returns
returns g c =
    let over = c.requires.0 in
    let side = g.S.SaysSide.said c.args.side in
    let e = part_layout _ _ over side c.layout_at-from.ensures in
    c.bytes_in.ensures ∙ rw e (sets-whole _ _ (omega (arith, length_part _ _ over side, c.requires.1)))
