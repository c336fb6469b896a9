-- `try_from`: each of the four letters is a hold's, and no other byte is.
use Rattle.std.proofs.Common.{arith, refl}
use Rattle.std.proofs.lemmas.Grind.{common_steps}
use Rattle.record_fields.specs.Refusals.{is_hold}
use Rattle.record_fields.proofs.hold.HoldTryFromU8.try_from.Goals as goal

pub returns-in-78 : goal.returns-in-78
unfolding is_hold
returns-in-78 c = rw c.in-78.is (refl, refl)

pub returns-in-76 : goal.returns-in-76
unfolding is_hold
returns-in-76 c = rw c.in-76.is (refl, refl)

pub returns-in-82 : goal.returns-in-82
unfolding is_hold
returns-in-82 c = rw c.in-82.is (refl, refl)

pub returns-in-66 : goal.returns-in-66
unfolding is_hold
returns-in-66 c = rw c.in-66.is (refl, refl)

pub returns-in_default : goal.returns-in_default
unfolding is_hold
returns-in_default c = (grind (arith, common_steps), refl)
