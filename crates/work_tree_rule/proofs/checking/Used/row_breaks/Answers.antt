-- `row_breaks` meets its contract: each test is one of the definition's, and a row that passes all has its entries marked.
use Rattle.std.proofs.Common.{refl, sym, ◌∙◌}
use Rattle.work_tree_rule.proofs.Marks.{kept}
use Rattle.work_tree_rule.proofs.checking.Used.row_breaks.Goals as goal

pub returns : goal.returns
returns c =
    let first = sym c.refuses.ensures ∙ c.if-refuses.false in
    let second = sym c.refuses-else-refuses.ensures ∙ c.if-refuses-2.false in
    (sym (kept _ _ _ _ c.if-a-b.false first second), rw (c.from.ensures, c.from-2.ensures, ← c.self.view_is) refl)
