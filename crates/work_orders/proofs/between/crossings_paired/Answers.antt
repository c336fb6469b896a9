-- `crossings_paired`: the places of both ends of each link are those of the two orders.
use Rattle.std.proofs.Common.{◌∙◌}
use Rattle.work_crossings.proofs.Count.{count_pair_by_pair}
use Rattle.work_orders.proofs.between.crossings_paired.Goals as goal

pub returns : goal.returns
returns c =
    let f = c.fill.ensures in
    c.count_pairs.ensures ∙ count_pair_by_pair _ _ _ _ _ _ f.0 f.1
