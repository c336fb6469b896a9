use Rattle.std.proofs.Common.{ap, arith, rules, take_all, ◌∙◌}
use lib.Seq.{sets}
use Rattle.record_fields.specs.Fields.{split}
use Rattle.record_fields.proofs.Stores.{store_two}
use Rattle.record_fields.proofs.copying.numbers_in.Goals as goal

pub loop-i-init : goal.loop-i-init
unfolding split
loop-i-init c = search rules

pub loop-i-preserved : goal.loop-i-preserved
loop-i-preserved c =
    let l = c.loop-i in
    let stored = store_two c.args.list.now c.args.out.now c.args.at l.i (omega arith) in
    (search rules, c.number_in.ensures ∙ rw l.invariant.1 stored)

pub returns : goal.returns
returns c =
    let l = c.loop-i in
    let a = c.args in
    l.invariant.1 ∙ ap (λ r. sets a.out.now a.at (split r)) (take_all l.i a.list.now (omega arith))
