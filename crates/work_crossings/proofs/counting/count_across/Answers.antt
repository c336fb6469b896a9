use Rattle.std.proofs.Common.{[], ap₂, arith, drop, get_or, length, sym, take, ◌+◌, ◌∙◌, ◌∷◌, ◌≡◌, ◌-◌, ◌<◌}
use Rattle.tanglegram.specs.Crossings.{across}
use Rattle.tanglegram.proofs.Sums.{across-nil}
use Rattle.work_places.specs.Arrays.{falls}
use Rattle.work_crossings.proofs.Runs.{across-next}
use Rattle.work_crossings.proofs.counting.count_across.Goals as goal

pub loop-q-init : goal.loop-q-init
loop-q-init c = (omega arith, sym (across-nil _ _))

pub loop-q-preserved : goal.loop-q-preserved
loop-q-preserved c =
    let a = c.args in
    let first = take a.k (drop a.at a.seen.now) in
    let second = take a.m (drop a.from a.seen.now) in
    let j = c.loop-q.q-index in
    let k_is : a.at + a.k - a.at ≡ a.k = omega arith in
    let m_is : a.from + a.m - a.from ≡ a.m = omega arith in
    let this : c.past_among.result ≡ across falls first (get_or second j 0 ∷ []) = rw (k_is, m_is) at c.past_among.ensures.0 in
    let inside : j < length second = rw m_is at c.loop-q-test.true in
    (omega arith, ap₂ ◌+◌ c.loop-q.invariant.1 (c.from-count.ensures ∙ this) ∙ sym (across-next falls first second j inside))
