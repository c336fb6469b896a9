-- `unpack` answers the refusal and writes nothing, or writes the parts and answers the hold and n.
use Rattle.std.proofs.Common.{rules, ◌∙◌}
use Rattle.std.proofs.lemmas.Result.{err_from_is_err_and}
use Rattle.record_unpacking.proofs.Unpacked.{has-room, unpack-read, unpack-no-room, unpack-accepted}
use Rattle.record_unpacking.proofs.unpacking.unpack.Goals as goal

pub returns-in_err-header : goal.returns-in_err-header
returns-in_err-header c =
    let p = err_from_is_err_and c.from_residual.result c.from_residual.ensures.1 in
    rw (p.1, p.2) (unpack-read _ _ _ _ _ _ _ c.in_err-header.ensures.reads)

pub returns-in_err-check_room : goal.returns-in_err-check_room
returns-in_err-check_room c =
    let p = err_from_is_err_and c.from_residual-in_err-check_room.result c.from_residual-in_err-check_room.ensures.1 in
    let over = c.in_ok-header.ensures.over.0 in
    rw (p.1, p.2) (unpack-no-room _ _ _ _ _ _ _ over.accepted over.sized.says c.in_err-check_room.ensures)

pub fill-requires-clause-n_in_bounds : goal.fill-requires-clause-n_in_bounds
fill-requires-clause-n_in_bounds c =
    let d = has-room _ _ _ _ _ _ c.in_ok-header.ensures.over.0 c.in_ok-check_room.ensures in
    (d.for_left, d.for_right, d.for_links)

pub fill-requires-clause-n_in_bounds_2 : goal.fill-requires-clause-n_in_bounds_2
fill-requires-clause-n_in_bounds_2 c =
    let d = has-room _ _ _ _ _ _ c.in_ok-header.ensures.over.0 c.in_ok-check_room.ensures in
    (d.for_left_layout, d.for_right_layout)

pub returns : goal.returns
returns c =
    let over = c.in_ok-header.ensures.over in
    let w = c.fill.ensures.filled in
    unpack-accepted _ _ _ _ _ _ over.0 c.in_ok-check_room.ensures over.1
    (search rules ∙ w.left) (search rules ∙ w.right) (search rules ∙ w.links) (search rules ∙ w.left_layout) (search rules ∙ w.right_layout)
