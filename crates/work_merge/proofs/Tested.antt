-- The first test of a table, row after row: what is true before the first row, from row to row, and where the test ends.
use Prim.Native.Nat.{ℕ, ◌+◌, ◌-◌, ◌≤◌, ◌<◌}
use mathlib.Core.Path.{◌≡◌, refl, sym, ap, ◌∙◌}
use mathlib.Core.Bool.{Bool, true, false, or-true}
use mathlib.Core.List.{List}
use native.Mathlib.Numerals.{add-one, sub-one}
use native.Mathlib.Omega.{arith}
use lib.IntN.{ℤ}
use Rattle.tanglegram.specs.Lists.{range}
use Rattle.work_tree_rule.proofs.Rule.{rows-from}
use Rattle.merge.specs.Entries.{names_none}
use Rattle.merge.specs.Tables.{upper_entry, lower_entry, any, row_none, some_none}

module _ (n : ℕ) (table : List ℤ) where
  -- in rows 1 to i - 1 each entry names a leaf or an earlier row
  pub record Tested (i : ℕ) : Type 0 where
    pub from : 1 ≤ i
    pub rest : some_none n table ≡ any (row_none n table) (range i (n - i))

  pub tested_none : Tested 1
  unfolding some_none
  tested_none = record { from = omega arith; rest = rw sub-one refl }

  pub tested_all : {i : ℕ} → n ≤ i → Tested i → false ≡ some_none n table
  unfolding any range
  tested_all {i} h t = let e : n - i ≡ 0 = omega arith in sym (t.rest ∙ ap (λ m. any (row_none n table) (range i m)) e)

  module _ {i : ℕ} (t : Tested i) (here : i < n) where
    -- one of the row's entries names none
    pub upper-none : {b : Bool} → b ≡ names_none n i (upper_entry table i) → b ≡ true → true ≡ some_none n table
    unfolding any
    upper-none e h = sym (t.rest ∙ rw (rows-from n i here, sym e ∙ h) refl)

    pub lower-none : {b : Bool} → b ≡ names_none n i (lower_entry table i) → b ≡ true → true ≡ some_none n table
    unfolding any
    lower-none e h = sym (t.rest ∙ rw (rows-from n i here, sym e ∙ h, or-true (names_none n i (upper_entry table i))) refl)

    -- both name a leaf or an earlier row
    pub tested_more : {b d : Bool} → b ≡ names_none n i (upper_entry table i) → b ≡ false →
        d ≡ names_none n i (lower_entry table i) → d ≡ false → Tested (i + 1)
    unfolding any
    tested_more e h f k = rw (add-one i) record { from = omega arith; rest = t.rest ∙ rw (rows-from n i here, sym e ∙ h, sym f ∙ k) refl }
