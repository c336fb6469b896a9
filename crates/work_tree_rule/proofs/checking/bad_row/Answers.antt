use Rattle.std.proofs.Common.{ap, ◌∙◌}
use Rattle.work_trees.proofs.RowArray.{upper-place, lower-place}
use Rattle.work_tree_rule.specs.Rule.{row_found}
use Rattle.work_tree_rule.proofs.Rule.{row_found-some}
use Rattle.work_tree_rule.proofs.Marks.{checked_none, checked_all, bad_here, checked_more}
use Rattle.work_tree_rule.proofs.checking.bad_row.Goals as goal

pub loop-i-init : goal.loop-i-init
loop-i-init g c = rw c.new-used.ensures (checked_none _ _ _)

pub returns-then-row_breaks : goal.returns-then-row_breaks
returns-then-row_breaks g c =
    let l = c.loop-i in
    let is-upper = rw (upper-place l.i l.invariant.from) at c.number.ensures in
    let is-lower = rw (lower-place l.i l.invariant.from) at c.number-in-loop-i.ensures in
    row_found-some l.i l.invariant.from ∙ ap row_found (bad_here _ _ _ _ _ l.invariant c.loop-i-test.true c.requires.1 _ _
    is-upper is-lower _ c.row_breaks.ensures.0 c.if-row_breaks.true)

pub loop-i-preserved : goal.loop-i-preserved
loop-i-preserved g c =
    let l = c.loop-i in
    let is-upper = rw (upper-place l.i l.invariant.from) at c.number.ensures in
    let is-lower = rw (lower-place l.i l.invariant.from) at c.number-in-loop-i.ensures in
    checked_more _ _ _ _ _ l.invariant c.loop-i-test.true c.requires.1 _ _
    is-upper is-lower _ c.row_breaks.ensures.0 _ c.row_breaks.ensures.1 c.if-row_breaks.false

pub returns : goal.returns
returns g c = ap row_found (checked_all _ _ _ _ _ c.loop-i-test.false c.loop-i.invariant)
