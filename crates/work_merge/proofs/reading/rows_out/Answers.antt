use Rattle.std.proofs.Common.{ap, arith, length, length-set, refl, sym, take_all, ◌<◌, ◌∙◌}
use lib.Seq.{sets}
use Rattle.work_trees.proofs.Stores.{store_entry}
use Rattle.merge.specs.Entries.{named_by}
use Rattle.merge.specs.Tables.{rows_in}
use Rattle.merge.proofs.Tables.{row_entry, length-rows}
use Rattle.work_merge.proofs.EntryLaws.{named_entry}
use Rattle.work_merge.proofs.Signed.{told_at}
use Rattle.work_merge.proofs.reading.rows_out.Goals as goal

pub named_by-requires : goal.named_by-requires
named_by-requires c =
    let p = c.requires.pairs in
    let long = p.0.long in
    named_entry p.0 p.1 _ (omega arith) (omega arith)

pub loop-k-preserved : goal.loop-k-preserved
loop-k-preserved c =
    let table = c.args.table.now in
    let rows = rows_in c.args.n table in
    let v = c.loop-k.invariant in
    let entry = told_at (named_by c.args.n) table c.named_by.ensures (omega arith) refl ∙ sym (row_entry c.args.n table c.loop-k.k) in
    let here : c.loop-k.k < length rows = omega (arith, length-rows c.args.n table) in
    let stored = store_entry rows c.args.out.now 0 c.loop-k.k c.loop-k.k 0 (omega arith) here in
    (simp length-set v.0, rw (v.1, entry) stored)

pub returns : goal.returns
returns c =
    let l = c.loop-k in
    let rows = rows_in c.args.n c.args.table.now in
    l.invariant.1
    ∙ ap (sets c.args.out.now 0) (take_all l.k rows (omega (arith, length-rows c.args.n c.args.table.now, c.loop-k-test.false)))
