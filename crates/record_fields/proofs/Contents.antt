-- The refusal of the parts, test by test, for code that returns at the first that is met; and what good parts say.
use Prim.Native.Nat.{ℕ}
use mathlib.Core.Path.{◌≡◌, refl}
use mathlib.Core.Logic.{◌≢◌}
use mathlib.Core.Bool.{true, false, not}
use mathlib.Core.List.{List}
use native.Mathlib.Omega.{arith}
use borrow.Author.Tests.{eq-eqb, ne_eqb}
use Rattle.work_trees.specs.Rows.{upper, lower}
use Rattle.work_tree_rule.specs.Rule.{bad_row}
use Rattle.record_fields.specs.Fields.{Parts}
use Rattle.record_fields.specs.Refusals.{breaks_rule, one_to_one, is_layout, contents_refusal}
use Rattle.record_fields.proofs.Heading.{none_first, not_no}

module _ (P : Parts) where
  pub contents_7 : breaks_rule P.size P.left_rows ≡ true → 7 ≡ contents_refusal P
  unfolding contents_refusal
  contents_7 h = rw h refl

  module _ (left : breaks_rule P.size P.left_rows ≡ false) where
    pub contents_8 : breaks_rule P.size P.right_rows ≡ true → 8 ≡ contents_refusal P
    unfolding contents_refusal
    contents_8 h = rw (left, h) refl

    module _ (right : breaks_rule P.size P.right_rows ≡ false) where
      pub contents_9 : one_to_one P.size P.links ≡ false → 9 ≡ contents_refusal P
      unfolding contents_refusal
      contents_9 h = rw (left, right, h) refl

      module _ (links : one_to_one P.size P.links ≡ true) where
        pub contents_10 : is_layout P.left_layout ≡ false → 10 ≡ contents_refusal P
        unfolding contents_refusal
        contents_10 h = rw (left, right, links, h) refl

        module _ (layout : is_layout P.left_layout ≡ true) where
          pub contents_10_right : is_layout P.right_layout ≡ false → 10 ≡ contents_refusal P
          unfolding contents_refusal
          contents_10_right h = rw (left, right, links, layout, h) refl

          pub contents_0 : is_layout P.right_layout ≡ true → 0 ≡ contents_refusal P
          unfolding contents_refusal
          contents_0 h = rw (left, right, links, layout, h) refl

-- a row of the code's test is bad, or none is
pub broken : {r : ℕ} (n : ℕ) (rows : List ℕ) → r ≡ bad_row n (upper rows) (lower rows) → r ≢ 0 → breaks_rule n rows ≡ true
unfolding breaks_rule
broken {r} n rows e h = rw (← e, ne_eqb r 0 h) refl

pub not-broken : {r : ℕ} (n : ℕ) (rows : List ℕ) → r ≡ bad_row n (upper rows) (lower rows) → r ≡ 0 → breaks_rule n rows ≡ false
unfolding breaks_rule
not-broken {r} n rows e h = rw (← e, eq-eqb r 0 h) refl

-- ---- what good parts say

pub record GoodParts (P : Parts) : Type 0 where
  pub left : breaks_rule P.size P.left_rows ≡ false
  pub right : breaks_rule P.size P.right_rows ≡ false
  pub linked : one_to_one P.size P.links ≡ true
  pub left_bytes : is_layout P.left_layout ≡ true
  pub right_bytes : is_layout P.right_layout ≡ true

pub contents_good : (P : Parts) → contents_refusal P ≡ 0 → GoodParts P
unfolding contents_refusal
contents_good P e =
    let t₁ = none_first (breaks_rule P.size P.left_rows) 7 _ (omega arith) e in
    let t₂ = none_first (breaks_rule P.size P.right_rows) 8 _ (omega arith) t₁.1 in
    let t₃ = none_first (not (one_to_one P.size P.links)) 9 _ (omega arith) t₂.1 in
    let t₄ = none_first (not (is_layout P.left_layout)) 10 _ (omega arith) t₃.1 in
    let t₅ = none_first (not (is_layout P.right_layout)) 10 0 (omega arith) t₄.1 in
    record {
      left = t₁.0;
      right = t₂.0;
      linked = not_no _ t₃.0;
      left_bytes = not_no _ t₄.0;
      right_bytes = not_no _ t₅.0;
    }
