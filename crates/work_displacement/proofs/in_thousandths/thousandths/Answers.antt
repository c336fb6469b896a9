-- `thousandths` meets its contract: k·k is at most a quotient rounded down exactly if k·k times the divisor is at most what is divided.
use Rattle.std.proofs.Common.{arith, le_refl, mul-le-mul, ℕ, ◌*◌, ◌+◌, ◌/◌, ◌<◌, ◌≤◌}
use Rattle.tanglegram.specs.Entanglement.{Thousandths}
use Rattle.tanglegram.proofs.Thousandths.{from_next}
use Rattle.work_displacement.proofs.in_thousandths.thousandths.Goals as goal

root : (d w k : ℕ) → 0 < w → k * k ≤ 1000000 * d / w → 1000000 * d / w < (k + 1) * (k + 1) → Thousandths d w k
root d w k some within above =
    from_next d w k (omega (arith, mul-le-mul within (le_refl w))) (omega (arith, mul-le-mul above (le_refl w)))

pub returns : goal.returns
returns c =
    let a = c.args in
    let at_most = c.isqrt.ensures.square_le in
    let next = c.isqrt.ensures.next_square_gt in
    root a.d a.w c.isqrt.result c.requires.0 (rw (c.from-most.ensures, c.from.ensures) at at_most)
    (rw (c.from-most.ensures, c.from.ensures) at next)
