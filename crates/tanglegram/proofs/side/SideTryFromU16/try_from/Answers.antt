-- `try_from`: 1 is the left, 2 the right, and any other number is no side's.
use Rattle.std.proofs.Common.{arith, refl}
use Rattle.std.proofs.lemmas.Grind.{common_steps}
use Rattle.tanglegram.specs.Sides.{is_side}
use Rattle.tanglegram.proofs.side.SideTryFromU16.try_from.Goals as goal

pub returns-in-1 : goal.returns-in-1
unfolding is_side
returns-in-1 c = rw c.in-1.is (refl, refl)

pub returns-in-2 : goal.returns-in-2
unfolding is_side
returns-in-2 c = rw c.in-2.is (refl, refl)

pub returns-in_default : goal.returns-in_default
unfolding is_side
returns-in_default c = grind (arith, common_steps)
