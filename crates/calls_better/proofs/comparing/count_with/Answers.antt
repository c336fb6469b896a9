-- `count_with`: the copied order is one of the leaves 1 to n, and counted against the other side's order and the links it gives what the
-- record counts with it.
use Rattle.std.proofs.Common.{arith, length-take-le, refl, sym, take, ◌∙◌, ◌≡◌}
use Rattle.record_fields.specs.Fields.{parts}
use Rattle.record_arrays.proofs.Apart.{order-taken, order_one, links-taken, links_one}
use Rattle.record_orders.proofs.Proposals.{order-within, copy_taken, copy_one}
use Rattle.calls_better.proofs.CountWith.{counted-left, counted-right}
use Rattle.calls_better.proofs.comparing.count_with.Goals as goal

pub slice_bounds-copied-end : goal.slice_bounds-copied-end
slice_bounds-copied-end c = sym (length-take-le _ _ (order-within _ _ c.requires.record_over c.args.side _ c.requires.proposed))

pub crossings_seen-requires : goal.crossings_seen-requires
crossings_seen-requires c =
    let r = c.requires.record_over in
    let most = r.sized.most in
    record {
      most = most;
      linked = links_one _ _ r _ _ (omega arith) _ c.links_at.ensures c.fill_links.ensures;
      left_order = copy_one _ _ r c.args.side _ c.requires.proposed _ _ refl c.copied.ensures;
      right_order = order_one _ _ r _ _ _ c.side_order.ensures;
    }

pub crossings_seen-requires-in-Right : goal.crossings_seen-requires-in-Right
crossings_seen-requires-in-Right c =
    let r = c.requires.record_over in
    let most = r.sized.most in
    record {
      most = most;
      linked = links_one _ _ r _ _ (omega arith) _ c.links_at.ensures c.fill_links.ensures;
      left_order = order_one _ _ r _ _ _ c.side_order.ensures;
      right_order = copy_one _ _ r c.args.side _ c.requires.proposed _ _ refl c.copied.ensures;
    }

pub returns-in-Left : goal.returns-in-Left
returns-in-Left c =
    let r = c.requires.record_over in
    let most = r.sized.most in
    let links : take c.args.n c.fill_links.new.links ≡ (parts c.args.s.now).links =
    links-taken _ _ r _ _ (omega arith) _ c.links_at.ensures c.fill_links.ensures in
    let within = order-within _ _ r c.args.side _ c.requires.proposed in
    let order : take c.args.n c.copied.new.out ≡ take c.args.n c.args.xs.now =
    copy_taken _ _ r c.args.side _ _ _ refl within c.copied.ensures in
    c.crossings_seen.ensures
    ∙ counted-left _ _ r _ _ _ _ links order c.args.side c.other.ensures (order-taken _ _ r _ _ _ c.side_order.ensures) c.in-Left.is

pub returns-in-Right : goal.returns-in-Right
returns-in-Right c =
    let r = c.requires.record_over in
    let most = r.sized.most in
    let links : take c.args.n c.fill_links.new.links ≡ (parts c.args.s.now).links =
    links-taken _ _ r _ _ (omega arith) _ c.links_at.ensures c.fill_links.ensures in
    let within = order-within _ _ r c.args.side _ c.requires.proposed in
    let order : take c.args.n c.copied.new.out ≡ take c.args.n c.args.xs.now =
    copy_taken _ _ r c.args.side _ _ _ refl within c.copied.ensures in
    c.crossings_seen-in-Right.ensures
    ∙ counted-right _ _ r _ _ _ _ links order c.args.side c.other.ensures (order-taken _ _ r _ _ _ c.side_order.ensures) c.in-Right.is
