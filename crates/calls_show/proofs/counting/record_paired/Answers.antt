-- `record_paired`: the crossings of the two orders, pair by pair, are what the record shows.
use Rattle.std.proofs.Common.{of_calls, take, ◌∙◌, ◌≡◌}
use Rattle.tanglegram.specs.Crossings.{count}
use Rattle.calls_show.proofs.Shown.{count-shown}
use Rattle.calls_show.proofs.counting.record_paired.Goals as goal

pub returns : goal.returns
returns c =
    let n = c.args.n in
    let e = c.found.ensures in
    let counted : c.found.result ≡ count n (take n e.0.now) (take n e.1.now) (take n e.2.now) = search of_calls in
    counted ∙ count-shown _ _ c.requires _ _ _ e.3
