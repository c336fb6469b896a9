-- `is_marked` meets its contract: the shift leaves the digit of the place.
use Rattle.std.proofs.Common.{ap}
use Rattle.work_seen_places.specs.Seen.{digit, is_marked, marked}
use Rattle.work_seen_places.proofs.seen.Seen.is_marked.Goals as goal

pub returns : goal.returns
unfolding marked digit
returns c = ap (λ w. is_marked w c.args.p) c.self.view_is
