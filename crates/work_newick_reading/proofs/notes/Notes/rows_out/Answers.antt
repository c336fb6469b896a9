use Rattle.std.proofs.Common.{ap, length-set, set, ◌∙◌}
use Rattle.work_newick_reading.proofs.RowsOut.{written-more}
use Rattle.work_newick_reading.proofs.notes.Notes.rows_out.Goals as goal

pub loop-i-preserved : goal.loop-i-preserved
loop-i-preserved c =
    let v = c.loop-i.invariant in (
      simp length-set v.0,
      ap (set c.loop-i.out c.loop-i.i) c.fixed_entry.ensures
          ∙ written-more c.entries-noted-items.result.now c.args.n c.args.out.now c.loop-i.out c.loop-i.i c.loop-i-test.true v.1,
    )
