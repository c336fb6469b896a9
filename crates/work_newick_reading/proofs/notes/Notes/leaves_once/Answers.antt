use Rattle.std.proofs.Common.{arith, ◌*◌, ◌-◌}
use Rattle.work_newick_reading.proofs.OnceLaws.{entry_of, once_start, once_more, once_refused, once_last, within}
use Rattle.work_newick_reading.proofs.notes.Notes.leaves_once.Goals as goal

pub loop-x-init : goal.loop-x-init
loop-x-init c = rw c.new-seen.ensures (once_start _ _ _)

pub returns-then-not-mark_leaf : goal.returns-then-not-mark_leaf
returns-then-not-mark_leaf c =
    let T = c.args.self.now in
    let e = c.entries-x-items.ensures in
    let entry = entry_of T _ _ _ e.value e.long c.loop-x-test.true in
    once_refused T c.args.n (2 * (c.args.n - 1)) c.requires.1 (within T _ _ e.value e.long) _ _ c.loop-x.invariant _
    (omega (arith, e.long)) (rw (entry, c.if-not-mark_leaf.true) at c.mark_leaf.ensures)

pub loop-x-preserved : goal.loop-x-preserved
loop-x-preserved c =
    let T = c.args.self.now in
    let e = c.entries-x-items.ensures in
    let entry = entry_of T _ _ _ e.value e.long c.loop-x-test.true in
    once_more T c.args.n (2 * (c.args.n - 1)) c.requires.1 (within T _ _ e.value e.long) _ _ c.loop-x.invariant _
    (omega (arith, e.long)) (rw (entry, c.if-not-mark_leaf.false) at c.mark_leaf.ensures)

pub returns : goal.returns
returns c =
    let T = c.args.self.now in
    let e = c.entries-x-items.ensures in
    once_last T c.args.n (2 * (c.args.n - 1)) c.requires.1 (within T _ _ e.value e.long) _ _ c.loop-x.invariant _
    (omega (arith, e.long, c.loop-x-test.false)) _ (rw c.last_object.ensures at c.mark_leaf-2.ensures)
