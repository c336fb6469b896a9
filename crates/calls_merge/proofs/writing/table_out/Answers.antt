use Rattle.std.proofs.Common.{ap, arith, length, length-set, pos, take_all, ◌<◌, ◌∙◌, ◌≤◌}
use lib.Seq.{sets}
use mir.Syntax.{w32}
use mir.ValLaws.{to_z-of_z}
use Rattle.merge.specs.Entries.{entry_for}
use Rattle.merge.specs.Tables.{table_for}
use Rattle.record_fields.specs.Fields.{parts}
use Rattle.record_fields.specs.Meaning.{rows_on}
use Rattle.work_trees.proofs.Stores.{store_entry}
use Rattle.calls_merge.proofs.SideWritten.{length-table, its_entry}
use Rattle.calls_merge.proofs.writing.table_out.Goals as goal

pub loop-k-preserved : goal.loop-k-preserved
loop-k-preserved c =
    let l = c.loop-k in
    let says = c.requires.0.sized.says in
    let table = table_for c.args.n (rows_on (parts c.args.s.now) c.args.side) in
    let entry = to_z-of_z w32 c.entry_for.result (record { sfits = c.entry_for.type_inv }) ∙ c.entry_for.ensures
    ∙ ap (entry_for c.args.n) c.number.ensures
    ∙ its_entry c.args.s.now says c.args.side c.rows_at-from.ensures l.k c.loop-k-test.true in
    let fits : l.k < length table = omega (arith, length-table c.args.s.now says c.args.side, c.loop-k-test.true) in
    let stored = store_entry table c.args.out.now 0 l.k l.k (pos 0) (omega arith) fits in
    (simp length-set l.invariant.0, rw (l.invariant.1, entry) stored)

pub returns : goal.returns
returns c =
    let l = c.loop-k in
    let table = table_for c.args.n (rows_on (parts c.args.s.now) c.args.side) in
    let all : length table ≤ l.k = omega (arith, length-table c.args.s.now c.requires.0.sized.says c.args.side, c.loop-k-test.false) in
    l.invariant.1 ∙ ap (sets c.args.out.now 0) (take_all l.k table all)
