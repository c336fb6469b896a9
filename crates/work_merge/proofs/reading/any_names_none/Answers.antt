use Rattle.std.proofs.Common.{arith, pred, ◌*◌, ◌≡◌}
use Rattle.merge.specs.Entries.{names_none}
use Rattle.work_merge.proofs.Signed.{told_at}
use Rattle.work_merge.proofs.Tested.{tested_none, tested_all, upper-none, lower-none, tested_more}
use Rattle.work_merge.proofs.reading.any_names_none.Goals.{After-from-at, then-names_none-via-then-names_none}
use Rattle.work_merge.proofs.reading.any_names_none.Goals.{then-names_none-via-else-names_none+then-names_none-2}
use Rattle.work_merge.proofs.reading.any_names_none.Goals as goal

place : (c : After-from-at) → 2 * c.from-at.result ≡ 2 * pred c.loop-i.i
place c = let from = c.loop-i.auto.i in omega arith

pub loop-i-init : goal.loop-i-init
loop-i-init c = tested_none _ _

pub returns-then-names_none : goal.returns-then-names_none
returns-then-names_none c =
    let tests = names_none c.args.n c.loop-i.i in
    let table = c.args.table.now in
    let same = place (goal.at.returns-then-names_none c).After-from-at in
    let l = c.loop-i.invariant in
    elim c.then-names_none.branch [
      | then-names_none-via-then-names_none w ↦
          upper-none _ _ l c.loop-i-test.true (told_at tests table c.names_none.ensures (omega arith) same) w.if-names_none.true
      | then-names_none-via-else-names_none+then-names_none-2 w ↦
          lower-none _ _ l c.loop-i-test.true
          (told_at tests table w.names_none-else-names_none.ensures (omega arith) (omega arith)) w.if-names_none-2.true
    ]

pub loop-i-preserved : goal.loop-i-preserved
loop-i-preserved c =
    let tests = names_none c.args.n c.loop-i.i in
    let table = c.args.table.now in
    let same = place (goal.at.loop-i-preserved c).After-from-at in
    tested_more _ _ c.loop-i.invariant c.loop-i-test.true
    (told_at tests table c.names_none.ensures (omega arith) same) c.if-names_none.false
    (told_at tests table c.names_none-else-names_none.ensures (omega arith) (omega arith)) c.if-names_none-2.false

pub returns : goal.returns
returns c = tested_all _ _ (omega (arith, c.loop-i-test.false)) c.loop-i.invariant
