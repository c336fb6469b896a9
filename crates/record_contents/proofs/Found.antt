-- From the tests of parts to what is told of them: rows by the row that is found, links and layouts by what their tests say.
use Prim.Native.Nat.{ℕ, zero, suc}
use mathlib.Core.Path.{◌≡◌, refl, sym, ap}
use mathlib.Core.Logic.{◌≢◌}
use mathlib.Core.Bool.{true, false}
use mathlib.Core.List.{List}
use native.Mathlib.Omega.{arith}
use Rattle.std.specs.Prelude.{Option, None, Some}
use Rattle.std.proofs.lemmas.Option.{none-some}
use Rattle.work_trees.specs.Rows.{upper, lower}
use Rattle.work_tree_rule.specs.Rule.{bad_row, row_found}
use Rattle.record_fields.specs.Fields.{Parts}
use Rattle.record_fields.specs.Refusals.{breaks_rule, one_to_one, is_layout}
use Rattle.record_fields.specs.Refused.{refused, refused_row}
use Rattle.record_fields.specs.Told.{ToldContents}
use Rattle.record_fields.proofs.Contents.{not-broken, contents_9, contents_10, contents_10_right, contents_0}
use Rattle.record_fields.proofs.Told.{told_7, told_8, told-number}

-- the row that is found, 0 for none
abbrev row-or-0 : Option ℕ → ℕ
row-or-0 None = 0
row-or-0 (Some r) = r

some-row : {r : ℕ} (k : ℕ) → Some r ≡ row_found k → (r ≡ k) × (r ≢ 0)
some-row {r} zero e = absurd (none-some r (sym e))
some-row {r} (suc k) e = let f : r ≡ suc k = ap row-or-0 e in (f, λ z. omega (arith, f, z))

no-row : (k : ℕ) → None ≡ row_found k → 0 ≡ k
no-row zero e = refl
no-row (suc k) e = absurd (none-some (suc k) e)

-- rows of which none is found bad
pub rows-kept : (n : ℕ) (rows : List ℕ) → None ≡ row_found (bad_row n (upper rows) (lower rows)) → breaks_rule n rows ≡ false
rows-kept n rows e = not-broken n rows (no-row _ e) refl

module _ (P : Parts) where
  pub told-left : {r : ℕ} → Some r ≡ row_found (bad_row P.size (upper P.left_rows) (lower P.left_rows)) → ToldContents P (refused_row 7 r)
  told-left e = let f = some-row _ e in told_7 P f.0 f.1 refl

  module _ (left : breaks_rule P.size P.left_rows ≡ false) where
    pub told-right : {r : ℕ} → Some r ≡ row_found (bad_row P.size (upper P.right_rows) (lower P.right_rows)) →
        ToldContents P (refused_row 8 r)
    told-right e = let f = some-row _ e in told_8 P left f.0 f.1 refl

    module _ (right : breaks_rule P.size P.right_rows ≡ false) where
      pub told-links : one_to_one P.size P.links ≡ false → ToldContents P (refused 9)
      told-links h = told-number P (record { alone = refl }) (contents_9 P left right h) refl

      module _ (links : one_to_one P.size P.links ≡ true) where
        pub told-layout : is_layout P.left_layout ≡ false → ToldContents P (refused 10)
        told-layout h = told-number P (record { alone = refl }) (contents_10 P left right links h) refl

        module _ (layout : is_layout P.left_layout ≡ true) where
          pub told-right-layout : is_layout P.right_layout ≡ false → ToldContents P (refused 10)
          told-right-layout h = told-number P (record { alone = refl }) (contents_10_right P left right links layout h) refl

          pub told-none : is_layout P.right_layout ≡ true → ToldContents P (refused 0)
          told-none h = told-number P (record { alone = refl }) (contents_0 P left right links layout h) refl
