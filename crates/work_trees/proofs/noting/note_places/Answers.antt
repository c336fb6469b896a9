use Rattle.std.proofs.Common.{arith, suc, ◌-◌, ◌≡◌}
use Rattle.work_trees.proofs.Places.{noted-none, noted-kept, noted-set}
use Rattle.work_trees.proofs.noting.note_places.Goals as goal

pub loop-i-init : goal.loop-i-init
loop-i-init c = rw c.requires.2 (noted-none c.args.xs.now c.args.n c.requires.0 c.requires.1)

pub loop-i-preserved-then-v-n : goal.loop-i-preserved-then-v-n
loop-i-preserved-then-v-n c =
    let l = c.loop-i in
    let e : suc (l.i - 1) ≡ l.i = omega arith in
    let leaf = rw c.from.ensures at c.if-v-n.true in
    let set = noted-set c.args.xs.now c.args.n c.requires.0 c.requires.1 l.at (l.i - 1) (omega arith) (rw e l.invariant) leaf in
    rw (c.from-then-v-n.ensures, c.from.ensures) set

pub loop-i-preserved : goal.loop-i-preserved
loop-i-preserved c =
    let l = c.loop-i in
    let e : suc (l.i - 1) ≡ l.i = omega arith in
    let none = rw c.from.ensures at c.if-v-n.false in
    noted-kept c.args.xs.now c.args.n c.requires.0 c.requires.1 l.at (l.i - 1) (omega arith) (rw e l.invariant) none
