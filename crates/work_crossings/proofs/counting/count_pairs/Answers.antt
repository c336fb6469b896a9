use Rattle.std.proofs.Common.{[], ap, arith, length, refl, suc, ◌∷◌, ◌≡◌, ◌≤◌}
use Rattle.tanglegram.specs.Crossings.{across, crosses, pairs}
use Rattle.tanglegram.specs.Lists.{range}
use Rattle.tanglegram.proofs.Lists.{length-range}
use Rattle.work_places.specs.Arrays.{at, cross_at}
use Rattle.work_crossings.proofs.Runs.{across-last, pairs_fit, pairs-last}
use Rattle.work_crossings.proofs.counting.count_pairs.Goals as goal

pub loop-i-init : goal.loop-i-init
unfolding pairs range
loop-i-init c = refl

pub loop-j-init : goal.loop-j-init
unfolding across range
loop-j-init c = (omega arith, omega arith)

pub overflow_add-count : goal.overflow_add-count
overflow_add-count c =
    let a = c.args in
    let i = c.loop-i.i in
    let few : length (range 1 i) ≤ 512 = omega (arith, length-range 1 i) in
    omega (arith, pairs_fit (crosses (at a.left.now) (at a.far.now)) (range 1 i) few)

pub loop-j-preserved : goal.loop-j-preserved
loop-j-preserved c =
    let w = cross_at c.args.left.now c.args.far.now in
    let i = c.loop-i.i in
    let this : c.crossed-count.result ≡ w (suc c.loop-j.j) (suc i) = c.crossed-count.ensures.0 in
    (omega arith, omega (arith, across-last w c.loop-j.j (suc i)))

pub loop-i-preserved : goal.loop-i-preserved
loop-i-preserved c =
    let w = cross_at c.args.left.now c.args.far.now in
    let i = c.loop-i.i in
    let all : c.loop-j.j ≡ i = omega arith in
    omega (arith, pairs-last w i, ap (λ k. across w (range 1 k) (suc i ∷ [])) all)
