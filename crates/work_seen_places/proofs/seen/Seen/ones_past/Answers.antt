use Rattle.std.proofs.Common.{ap, arith, suc, ℕ, ◌*◌, ◌-◌, ◌∙◌, ◌≡◌}
use Rattle.tanglegram.specs.Entanglement.{sum}
use Rattle.tanglegram.specs.Lists.{range}
use Rattle.work_seen_places.specs.Seen.{marked, past}
use Rattle.work_seen_places.proofs.Words.{first_word, next}
use Rattle.work_seen_places.proofs.seen.Seen.ones_past.Goals as goal

pub loop-i-init : goal.loop-i-init
loop-i-init c = (omega arith, rw c.self.view_is at c.ones_after-n.ensures.0 ∙ first_word _ c.args.p)

pub loop-i-preserved : goal.loop-i-preserved
loop-i-preserved c =
    let w = c.args.self.now in
    let i = c.loop-i.i in
    (omega arith, next w c.args.p i _ _ (omega arith) c.loop-i.invariant.1 (rw c.self.view_is at c.ones-n.ensures.0))

pub returns : goal.returns
unfolding past
returns c =
    let p = c.args.p in
    let all : 64 * c.loop-i.i - suc p ≡ 511 - p = omega arith in
    c.loop-i.invariant.1 ∙ ap (λ (d : ℕ). sum (marked c.args.self.now) (range (suc p) d)) all
