-- `far_of`: the places in the order, and then those of the links' other ends.
use Rattle.std.proofs.Common.{arith}
use Rattle.work_places.proofs.Arrays.{one_to}
use Rattle.work_places.proofs.Has.{filled-has}
use Rattle.work_crossings.proofs.Count.{far_has, near_has}
use Rattle.work_orders.proofs.ends.far_of.Goals as goal

pub far_ends-requires : goal.far_ends-requires
far_ends-requires c = (c.requires.0, omega arith, one_to _ _ c.requires.1)

pub returns-in-Left : goal.returns-in-Left
returns-in-Left c =
    rw c.in-Left.is (far_has _ _ c.requires.1 _ _ _ _ (filled-has _ _ _ _ c.places.ensures) c.far_ends.ensures)

pub returns-in-Right : goal.returns-in-Right
returns-in-Right c =
    rw c.in-Right.is (near_has _ _ c.requires.1 _ _ _ _ (filled-has _ _ _ _ c.places.ensures) c.near_ends.ensures)
