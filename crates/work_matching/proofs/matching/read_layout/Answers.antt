use Rattle.std.proofs.Common.{arith, suc, take, refl, Bool, true, false, ◌≡◌}
use Rattle.std.specs.Int.{from_bool}
use Rattle.tanglegram.specs.Lists.{bit}
use Rattle.work_trees.specs.Rows.{size}
use Rattle.work_matching.proofs.Reading.{read_none, read_more, read_all, upper-noted, lower-noted}
use Rattle.work_matching.proofs.matching.read_layout.Goals as goal

from_bool-bit : (b : Bool) → from_bool b ≡ bit b
from_bool-bit true = refl
from_bool-bit false = refl

pub loop-i-init : goal.loop-i-init
loop-i-init c =
    let p = c.note_places in
    read_none _ c.requires.good_rows _ _ p.new.at p.ensures.at_len p.ensures.by_index

pub bounds-at-from : goal.bounds-at-from
bounds-at-from c =
    rw c.from.ensures (upper-noted _ c.requires.good_rows _ _ _ _ c.loop-i.i c.loop-i.invariant (omega arith))

pub bounds-at-from-in-loop-i : goal.bounds-at-from-in-loop-i
bounds-at-from-in-loop-i c =
    rw c.from-in-loop-i.ensures (lower-noted _ c.requires.good_rows _ _ _ _ c.loop-i.i c.loop-i.invariant (omega arith))

pub loop-i-preserved : goal.loop-i-preserved
loop-i-preserved c =
    let l = c.loop-i in
    rw (c.from-in-loop-i-3.ensures, c.from-in-loop-i-2.ensures, from_bool-bit, c.from-in-loop-i.ensures, c.from.ensures)
    (read_more _ c.requires.good_rows _ _ _ _ l.i l.invariant (omega arith) c.requires.lay_len)

pub returns : goal.returns
returns c =
    let T = c.args.rows.now in
    let l = c.loop-i in
    let e : suc l.i ≡ size T = omega arith in
    read_all T c.requires.good_rows (take (size T) c.args.xs.now) c.args.lay.now l.at l.lay c.requires.lay_len (rw e at l.invariant)
