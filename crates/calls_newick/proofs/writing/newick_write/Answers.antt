-- `newick_write`: the side, the record, and then the side's text.
use Rattle.std.proofs.lemmas.Result.{err_from_is_err_and}
use Rattle.calls_newick.proofs.Outcomes.{write-no_side, write-no_record, write-side}
use Rattle.calls_newick.proofs.writing.newick_write.Goals as goal

pub returns-in_err-side : goal.returns-in_err-side
returns-in_err-side c =
    let p = err_from_is_err_and c.from_residual.result c.from_residual.ensures.1 in
    rw (p.1, p.2) (write-no_side _ _ _ c.in_err-side.ensures)

pub returns-in_err-n : goal.returns-in_err-n
returns-in_err-n c =
    let p = err_from_is_err_and c.from_residual-in_err-n.result c.from_residual-in_err-n.ensures.1 in
    rw (p.1, p.2) (write-no_record _ _ _ c.in_ok-side.ensures.0 _ c.in_err-n.ensures.reads)

pub returns : goal.returns
returns c =
    write-side _ _ _ c.in_ok-side.ensures.0 c.in_ok-n.ensures.over.0.accepted (c.write_side.ensures c.args.side c.in_ok-side.ensures.1)
