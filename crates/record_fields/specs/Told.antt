-- The refusal that is told for a number (docs/CALLS.md): 7 with the lowest row of the left tree that breaks the tree rule, 8 with that of
-- the right tree, any other number with row 0. The rows are a record's, or those of lists that should be packed.
use Rattle.std.specs.Prelude.{ℕ, ◌≤◌, ◌<◌, ◌≡◌, ◌≢◌, ◌⊎◌, ◌↔◌, Bool, true, ◌||◌, List, eqb}
use Rattle.work_trees.specs.Rows.{upper, lower}
use Rattle.work_tree_rule.specs.Rule.{bad_row, Lowest}
use Rattle.record_fields.specs.Fields.{Parts, parts}
use Rattle.record_fields.specs.Refusals.{◌when◌else◌, contents_refusal, refusal}
use Rattle.record_fields.specs.Refused.{NumberAndRow, refused_row}

-- The row that is told with the number k, of left and right rows over n leaves; 0 for none.
unfoldable pub row_for : ℕ → List ℕ → List ℕ → ℕ → ℕ
unfolding bad_row
row_for n left right k =
    bad_row n (upper left) (lower left) when eqb k 7
    else bad_row n (upper right) (lower right) when eqb k 8
    else 0

-- The refusal that is told for the number k, of parts and of a record.
abbrev pub told_in : Parts → ℕ → NumberAndRow
told_in P k = refused_row k (row_for P.size P.left_rows P.right_rows k)

abbrev pub told_of : List ℕ → ℕ → NumberAndRow
told_of s k = told_in (parts s) k

-- The answer is the refusal of the content of parts.
pub record ToldContents (P : Parts) (answer : NumberAndRow) : Type 0 where
  pub told : answer ≡ told_in P (contents_refusal P)

-- The numbers that a row is told with.
abbrev pub tells_row : ℕ → Bool
tells_row k = eqb k 7 || eqb k 8

-- If k is one of them, it is the record's own refusal, and not another test's.
pub record OwnRow (s : List ℕ) (k : ℕ) : Type 0 where
  pub own : tells_row k ≡ true → refusal s ≡ k

-- What a refusal of parts says by its number and its row: with 7 the row is the lowest of the left tree that breaks the tree rule, with 8
-- of the right one; it is 0 with any other number.
pub record SaysRow (P : Parts) (number row : ℕ) : Type 0 where
  pub left : number ≡ 7 → Lowest P.size (upper P.left_rows) (lower P.left_rows) row
  pub right : number ≡ 8 → Lowest P.size (upper P.right_rows) (lower P.right_rows) row
  pub exactly : ((number ≡ 7) ⊎ (number ≡ 8)) ↔ ((1 ≤ row) × (row < P.size))
  pub no_row : number ≢ 7 → number ≢ 8 → row ≡ 0
