-- `layout_order` meets its contract: the leaves of the exchanged row array stand in the layout's order.
use Rattle.std.proofs.Common.{refl, ◌∙◌}
use Rattle.work_trees.specs.Rows.{GoodRows}
use Rattle.work_trees.proofs.Laid.{exchanged-good, exchanged-written}
use Rattle.work_trees.proofs.turning.layout_order.Goals.{After-exchange}
use Rattle.work_trees.proofs.turning.layout_order.Goals as goal

good-laid : (c : After-exchange) → GoodRows c.exchange.new.rows
good-laid c = rw c.exchange.ensures (exchanged-good c.args.rows.now c.args.lay.now c.requires.good_rows)

pub count_leaves-requires : goal.count_leaves-requires
count_leaves-requires c = (good-laid (goal.at.count_leaves-requires c).After-exchange, refl)

pub leaf_order-requires-clause-good_rows : goal.leaf_order-requires-clause-good_rows
leaf_order-requires-clause-good_rows c =
    (good-laid (goal.at.leaf_order-requires-clause-good_rows c).After-exchange, c.count_leaves.ensures)

pub returns : goal.returns
returns c =
    c.leaf_order.ensures
    ∙ rw c.exchange.ensures (exchanged-written c.args.rows.now c.args.lay.now c.requires.good_rows c.args.out.now)
