-- `merge_write`: the side, the record and the room are tested, and a refused call writes nothing; otherwise the side's table stands in the
-- first places.
use Rattle.std.proofs.lemmas.Result.{err_from_is_err_and}
use Rattle.calls_merge.proofs.SideWritten.{merge-no_side, merge-no_record, merge-no_room, merge-written}
use Rattle.calls_merge.proofs.writing.merge_write.Goals as goal

pub returns-in_err-side : goal.returns-in_err-side
returns-in_err-side c =
    let p = err_from_is_err_and c.from_residual.result c.from_residual.ensures.1 in
    rw (p.1, p.2) (merge-no_side _ _ _ c.in_err-side.ensures)

pub returns-in_err-n : goal.returns-in_err-n
returns-in_err-n c =
    let p = err_from_is_err_and c.from_residual-in_err-n.result c.from_residual-in_err-n.ensures.1 in
    rw (p.1, p.2) (merge-no_record _ _ _ c.in_ok-side.ensures.0 _ c.in_err-n.ensures.reads)

pub returns-then-out-n : goal.returns-then-out-n
returns-then-out-n c = merge-no_room _ _ _ c.in_ok-side.ensures.0 c.in_ok-n.ensures.over.0 c.if-out-n.true

pub returns : goal.returns
returns c =
    merge-written _ _ _ c.in_ok-side.ensures.0 c.in_ok-n.ensures.over.0 c.in_ok-side.ensures.1 c.if-out-n.false c.table_out.ensures
