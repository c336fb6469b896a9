-- `bad_row` meets its contract. The loop's invariant: the rows before row i keep the rule and have their entries marked, and
-- the bad row is the first of those from row i on.
use Rattle.work_trees.specs.Rows.{upper, lower}
use Rattle.work_tree_rule.proofs.Marks.{Checked}
use Rattle.work_tree_rule.proofs.checking.bad_row.Given as goal

abbrev pub invariant-loop-i : goal.invariant-loop-i
invariant-loop-i g l = Checked l.n (upper (g.T.Numbers.list l.rows)) (lower (g.T.Numbers.list l.rows)) l.used l.i
