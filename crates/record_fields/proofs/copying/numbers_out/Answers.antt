use Rattle.std.proofs.Common.{arith, length-set, rules, ℕ, ◌*◌, ◌+◌, ◌≡◌}
use Rattle.tanglegram.specs.Lists.{range}
use Rattle.record_fields.specs.Fields.{two, numbers}
use Rattle.record_fields.proofs.Stores.{store_made}
use Rattle.record_fields.proofs.copying.numbers_out.Goals as goal

pub loop-i-init : goal.loop-i-init
unfolding numbers range
loop-i-init c = search rules

pub loop-i-preserved : goal.loop-i-preserved
unfolding numbers
loop-i-preserved c =
    let l = c.loop-i in
    let f : ℕ → ℕ = λ i. two c.args.s.now (c.args.at + 2 * i) in
    let stored = store_made f c.args.out.now 0 l.i l.i (omega arith) in
    (simp length-set l.invariant.0, rw (l.invariant.1, c.number.ensures) stored)

pub returns : goal.returns
returns c =
    let l = c.loop-i in
    let e : l.i ≡ c.args.m = omega arith in
    rw e at l.invariant.1
