-- `fill`: the places in the left order are those of the near ends, and the far ends come after them.
use Rattle.work_places.proofs.Has.{filled-has}
use Rattle.work_orders.proofs.between.Places.fill.Goals as goal

pub returns : goal.returns
returns c = (filled-has _ _ _ _ c.places.ensures, c.far_of.ensures)
