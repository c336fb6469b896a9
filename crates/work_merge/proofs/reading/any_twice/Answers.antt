-- `any_twice`: the rows that the table says break the tree rule exactly if an entry is used twice.
use Rattle.std.proofs.Common.{ap, eq-eqb, eqb, false, is_some, ne_eqb, not, sym, true, List, ℕ, ℤ, ◌∙◌, ◌≡◌, ◌≢◌}
use native.Mathlib.Decide.{ℕ_discrete}
use Rattle.work_trees.specs.Rows.{upper, lower}
use Rattle.work_tree_rule.specs.Rule.{bad_row}
use Rattle.work_tree_rule.proofs.Rule.{is_some-row_found}
use Rattle.merge.specs.Tables.{Pairs, rows_in, some_none, twice}
use Rattle.merge.proofs.Tables.{length-rows}
use Rattle.merge.proofs.TreeRule.{once_unbroken, twice-broken}
use Rattle.work_merge.proofs.reading.any_twice.Goals as goal

breaks-twice : (n : ℕ) (table : List ℤ) → Pairs n table → some_none n table ≡ false →
    not (eqb (bad_row n (upper (rows_in n table)) (lower (rows_in n table))) 0) ≡ twice table
breaks-twice n table pairs named =
    let b = bad_row n (upper (rows_in n table)) (lower (rows_in n table)) in
    go b (once_unbroken n table pairs) (twice-broken n table pairs named) (ℕ_discrete b 0)
  where
    go : (b : ℕ) → (b ≡ 0 → twice table ≡ false) → (b ≢ 0 → twice table ≡ true) → Dec (b ≡ 0) → not (eqb b 0) ≡ twice table
    go b none some (yes e) = rw (eq-eqb b 0 e) (sym (none e))
    go b none some (no e) = rw (ne_eqb b 0 e) (sym (some e))

pub bad_row-requires : goal.bad_row-requires
bad_row-requires c = let p = c.requires.0 in (p.some, p.most, length-rows _ _ ∙ p.long)

pub returns : goal.returns
returns c =
    c.is_some.ensures ∙ ap is_some c.bad_row.ensures ∙ is_some-row_found _
    ∙ breaks-twice c.args.n c.args.table.now c.requires.0 c.requires.1
