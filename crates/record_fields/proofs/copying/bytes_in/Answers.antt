use Rattle.std.proofs.Common.{ap, arith, length-set, refl, take_all, ◌+◌, ◌∙◌}
use lib.Seq.{sets}
use Rattle.work_trees.proofs.Stores.{store_entry}
use Rattle.record_fields.proofs.copying.bytes_in.Goals as goal

pub loop-i-preserved : goal.loop-i-preserved
loop-i-preserved c =
    let l = c.loop-i in
    let a = c.args in
    let stored = store_entry a.list.now a.out.now a.at l.i (a.at + l.i) 0 refl (omega arith) in
    (simp length-set l.invariant.0, rw l.invariant.1 stored)

pub returns : goal.returns
returns c =
    let l = c.loop-i in
    let a = c.args in
    l.invariant.1 ∙ ap (sets a.out.now a.at) (take_all l.i a.list.now (omega arith))
