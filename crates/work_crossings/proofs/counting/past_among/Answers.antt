-- `past_among` meets its contract: it is the sum along the run.
use Rattle.std.proofs.Common.{arith, rules, ◌∙◌}
use Rattle.std.proofs.lemmas.Iterator.{YieldsList-from_map, YieldsList-from_slice}
use Rattle.std.proofs.lemmas.Iterator.Consumers.{sum_by_from_yields_List}
use Rattle.work_places.specs.Arrays.{falls}
use Rattle.work_crossings.proofs.Runs.{falls-sum, falls-most}
use Rattle.work_crossings.proofs.counting.past_among.Goals as goal

pub returns : goal.returns
returns c =
    let run = c.args.run.now in
    let q = c.args.q in
    let e =
    sum_by_from_yields_List (λ p. falls p q) run c.map.result c.sum.result c.sum.ensures.ran
    (YieldsList-from_map _ (λ p. falls p q) (YieldsList-from_slice run cc) c.map.ensures.closure (λ x r q k. search rules)) in
    (e ∙ falls-sum run q, omega (arith, e, falls-sum run q, falls-most run q))
