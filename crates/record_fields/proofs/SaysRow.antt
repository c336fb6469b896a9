-- What the refusal that is told says: with 7 and 8 the row is the lowest that breaks the tree rule, and with any other number it is 0.
use Prim.Native.Nat.{ℕ, zero, suc, ◌≤◌}
use mathlib.Core.Path.{◌≡◌, refl, sym, ◌∙◌, subst}
use mathlib.Core.Logic.{◌≢◌, ◌⊎◌, inl, inr, ⊎_elim}
use mathlib.Core.Bool.{Bool, true, false, cond, not, true≢false}
use mathlib.Core.List.{List}
use native.Mathlib.Omega.{arith}
use borrow.Author.Tests.{eqb-true, eqb-false}
use lib.Dec.{eqb}
use Rattle.work_trees.specs.Rows.{upper, lower}
use Rattle.work_tree_rule.specs.Rule.{bad_row, Lowest}
use Rattle.work_tree_rule.proofs.Rule.{bad_row-lowest}
use Rattle.record_fields.specs.Fields.{Parts, parts}
use Rattle.record_fields.specs.Refused.{NumberAndRow}
use Rattle.record_fields.specs.Refusals.{◌when◌else◌, breaks_rule, one_to_one, is_layout, contents_refusal}
use Rattle.record_fields.specs.Told.{row_for, told_in, told_of, tells_row, OwnRow, SaysRow}
use Rattle.record_fields.proofs.Told.{row_7, row_8, row-none, differs, each_when, own_contents}

-- ---- the tests of the tree rule

pub broken-lowest : (n : ℕ) (rows : List ℕ) → breaks_rule n rows ≡ true →
    Lowest n (upper rows) (lower rows) (bad_row n (upper rows) (lower rows))
unfolding breaks_rule
broken-lowest n rows e = bad_row-lowest n (upper rows) (lower rows) (some (bad_row n (upper rows) (lower rows)) e)
  where
    some : (k : ℕ) → not (eqb k 0) ≡ true → 1 ≤ k
    some zero e = absurd (true≢false (sym e))
    some (suc k) e = omega arith

-- the first of two numbers that is given, and the later
first-given : (b : Bool) (j : ℕ) {r : ℕ} → cond b j r ≡ j → r ≢ j → b ≡ true
first-given true j e h = refl
first-given false j e h = absurd (h e)

later-given : (b : Bool) (j : ℕ) {r m : ℕ} → cond b j r ≡ m → j ≢ m → r ≡ m
later-given true j e h = absurd (h e)
later-given false j e h = e

neither : (b : Bool) (j : ℕ) {r m : ℕ} → j ≢ m → r ≢ m → cond b j r ≢ m
neither b j {m = m} p q = each_when (λ k. k ≢ m) b p q

module _ (P : Parts) where
  -- what is given after the rows' tests is 9, 10 or 0
  abbrev given-later : ℕ
  given-later =
      9 when not (one_to_one P.size P.links)
      else 10 when not (is_layout P.left_layout)
      else 10 when not (is_layout P.right_layout)
      else 0

  links_or_layouts : (m : ℕ) → tells_row m ≡ true → given-later ≢ m
  links_or_layouts m t =
      let other : (j : ℕ) → tells_row j ≡ false → j ≢ m = λ j f. differs (record { alone = f }) t in
      neither (not (one_to_one P.size P.links)) 9 (other 9 refl)
      (neither (not (is_layout P.left_layout)) 10 (other 10 refl)
      (neither (not (is_layout P.right_layout)) 10 (other 10 refl) (other 0 refl)))

  left-broken : contents_refusal P ≡ 7 → breaks_rule P.size P.left_rows ≡ true
  unfolding contents_refusal
  left-broken e =
      first-given (breaks_rule P.size P.left_rows) 7 e
      (neither (breaks_rule P.size P.right_rows) 8 (λ z. omega (arith, z)) (links_or_layouts 7 refl))

  right-broken : contents_refusal P ≡ 8 → breaks_rule P.size P.right_rows ≡ true
  unfolding contents_refusal
  right-broken e =
      first-given (breaks_rule P.size P.right_rows) 8
      (later-given (breaks_rule P.size P.left_rows) 7 e (λ z. omega (arith, z))) (links_or_layouts 8 refl)

-- ---- what is told of parts

module _ (P : Parts) {k : ℕ} (own : tells_row k ≡ true → contents_refusal P ≡ k) where
  abbrev row : ℕ
  row = row_for P.size P.left_rows P.right_rows k

  lowest-left : k ≡ 7 → Lowest P.size (upper P.left_rows) (lower P.left_rows) row
  lowest-left e =
      let c = own (rw e refl) ∙ e in
      subst (Lowest P.size (upper P.left_rows) (lower P.left_rows)) (row_7 P.size P.left_rows P.right_rows e)
      (broken-lowest P.size P.left_rows (left-broken P c))

  lowest-right : k ≡ 8 → Lowest P.size (upper P.right_rows) (lower P.right_rows) row
  lowest-right e =
      let c = own (rw e refl) ∙ e in
      subst (Lowest P.size (upper P.right_rows) (lower P.right_rows)) (row_8 P.size P.left_rows P.right_rows e)
      (broken-lowest P.size P.right_rows (right-broken P c))

  none : k ≢ 7 → k ≢ 8 → row ≡ 0
  none p q = sym (row-none P.size P.left_rows P.right_rows p q)

  number-of-row : 1 ≤ row → (k ≡ 7) ⊎ (k ≡ 8)
  number-of-row h = go (eqb k 7) (eqb k 8) refl refl
    where
      go : (a b : Bool) → eqb k 7 ≡ a → eqb k 8 ≡ b → (k ≡ 7) ⊎ (k ≡ 8)
      go true b e f = inl (eqb-true k 7 e)
      go false true e f = inr (eqb-true k 8 f)
      go false false e f = let z = none (eqb-false k 7 e) (eqb-false k 8 f) in absurd (omega arith)

  says-row_in : SaysRow P k row
  says-row_in = record {
    left = lowest-left;
    right = lowest-right;
    exactly = (⊎_elim (λ e. (lowest-left e).is_row) (λ e. (lowest-right e).is_row), λ h. number-of-row h.0);
    no_row = none;
  }

-- an answer that is told of parts
pub tells-row_in : (P : Parts) {k : ℕ} {answer : NumberAndRow} → (tells_row k ≡ true → contents_refusal P ≡ k) → answer ≡ told_in P k →
    SaysRow P answer.number answer.row
tells-row_in P own e = subst (λ a. SaysRow P a.number a.row) (sym e) (says-row_in P own)

-- and of a record
pub told_row : (s : List ℕ) {k : ℕ} {answer : NumberAndRow} → OwnRow s k → answer ≡ told_of s k →
    SaysRow (parts s) answer.number answer.row
told_row s is e = tells-row_in (parts s) (own_contents s is) e
