-- `thousandths`: D and W of two leaves or more are as the work asks.
use Rattle.calls_show.proofs.Outcomes.{thousandths_asked}
use Rattle.calls_show.proofs.showing.thousandths.Goals as goal

pub thousandths-requires : goal.thousandths-requires
thousandths-requires c =
    let e = rw c.in-Some.is at c.in_ok-d.ensures in
    thousandths_asked _ e.0 e.1 e.2 e.3
