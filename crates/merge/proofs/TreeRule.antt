-- The two tests of a table are the tree rule of its rows: no entry names none and none is used twice exactly if the rows keep it.
use Prim.Native.Nat.{ℕ, zero, suc, pred, ◌+◌, ◌-◌, ◌*◌, ◌≤◌, ◌<◌}
use mathlib.Core.Path.{◌≡◌, refl, sym, ap, ◌∙◌}
use mathlib.Core.Logic.{◌≢◌, ◌⊎◌, inl, inr}
use mathlib.Core.Bool.{true, false}
use mathlib.Core.List.{List}
use native.Mathlib.Decide.{ℕ_discrete}
use native.Mathlib.Omega.{arith}
use lib.IntN.{ℤ}
use lib.ListN.{length, get_or, length-map}
use Rattle.tanglegram.proofs.Bools.{must_pass, must_fail}
use Rattle.tanglegram.specs.Lists.{Each}
use Rattle.tanglegram.specs.Tree.{used, Row, Rule}
use Rattle.work_trees.specs.Rows.{upper, lower}
use Rattle.merge.specs.Entries.{named_by, entry_for, names_none}
use Rattle.work_tree_rule.specs.Rule.{bad_row}
use Rattle.work_tree_rule.proofs.Rule.{bad_row-none}
use Rattle.merge.specs.Tables.{rows_in, table_for, upper_entry, lower_entry, row_none, some_none, twice, Pairs}
use Rattle.merge.proofs.Entries.{names-some, names_no, named_back}
use Rattle.merge.proofs.Twice.{twice-apart, apart-twice}
use Rattle.merge.proofs.Tables.{by_rows, none_any, row_entry, row_named, place-named, rows_back}

-- ---- what rows 1 to m use

module _ (up low : ℕ → ℕ) where
  used-each : (P : ℕ → Type 0) (m : ℕ) → ((j : ℕ) → 1 ≤ j → j ≤ m → P (up j) × P (low j)) → Each P (used up low m)
  unfolding used
  used-each P zero h = tt
  used-each P (suc m) h =
      let r = h (suc m) (omega arith) (omega arith) in
      (r.0, (r.1, used-each P m (λ j p q. h j p (omega arith))))

  each-used : (P : ℕ → Type 0) (m : ℕ) → Each P (used up low m) → (j : ℕ) → 1 ≤ j → j ≤ m → P (up j) × P (low j)
  unfolding used
  each-used P zero e j p q = absurd (omega arith)
  each-used P (suc m) e j p q = go (ℕ_discrete j (suc m)) (each-used P m e.1.1 j p)
    where
      go : Dec (j ≡ suc m) → (j ≤ m → P (up j) × P (low j)) → P (up j) × P (low j)
      go (yes d) earlier = rw d (e.0, e.1.0)
      go (no d) earlier = earlier (omega arith)

module _ (n : ℕ) (table : List ℤ) (pairs : Pairs n table) where
  abbrev up : ℕ → ℕ
  up = upper (rows_in n table)

  abbrev low : ℕ → ℕ
  low = lower (rows_in n table)

  -- ---- from the tests to the rule

  module _ (named : some_none n table ≡ false) (once : twice table ≡ false) where
    -- at two places stand two objects
    apart_places : (p q : ℕ) → p < q → q < 2 * (n - 1) → get_or (rows_in n table) p 0 ≢ get_or (rows_in n table) q 0
    apart_places p q k l e =
        twice-apart table once p q k (omega (arith, pairs.long))
        (sym (named_back n (place-named n table named p (omega arith)))
        ∙ ap (entry_for n) (sym (row_entry n table p) ∙ e ∙ row_entry n table q)
        ∙ named_back n (place-named n table named q l))

    tests_row : (i : ℕ) → 1 ≤ i → i < n → Row n up low i
    tests_row i p q =
        let r = row_named n table named i p q in
        let u = names-some n i p (upper_entry table i) r.0 in
        let l = names-some n i p (lower_entry table i) r.1 in
        let eu = row_entry n table (2 * pred i) in
        let el = row_entry n table (2 * pred i + 1) in
        record {
          upper_least = rw eu u.1;
          upper-below = rw eu u.2;
          lower_least = rw el l.1;
          lower-below = rw el l.2;
          apart = apart_places (2 * pred i) (2 * pred i + 1) (omega arith) (omega arith);
          upper_new = used-each up low (λ k. up i ≢ k) (pred i) (λ j a b. (
            λ e. apart_places (2 * pred j) (2 * pred i) (omega arith) (omega arith) (sym e),
            λ e. apart_places (2 * pred j + 1) (2 * pred i) (omega arith) (omega arith) (sym e),
          ));
          lower_new = used-each up low (λ k. low i ≢ k) (pred i) (λ j a b. (
            λ e. apart_places (2 * pred j) (2 * pred i + 1) (omega arith) (omega arith) (sym e),
            λ e. apart_places (2 * pred j + 1) (2 * pred i + 1) (omega arith) (omega arith) (sym e),
          ));
        }

    pub tests_rule : Rule n up low
    tests_rule = tests_row

  -- ---- from the rule to the tests

  module _ (rule : Rule n up low) where
    -- an entry that names none would be an object that its row can't have
    in_reach : (i : ℕ) (e : ℤ) → 1 ≤ i → 1 ≤ named_by n e → named_by n e < n + i → names_none n i e ≡ false
    in_reach i e p least below = must_fail (names_none n i e) (λ h. outside (names_no n i p e h))
      where
        outside : (named_by n e ≡ 0) ⊎ (n + i ≤ named_by n e) → ⊥
        outside (inl z) = omega arith
        outside (inr l) = omega arith

    pub rule-named : some_none n table ≡ false
    unfolding some_none
    rule-named =
        none_any (row_none n table) 1 (pred n)
        (λ i p q. let r = rule i p (omega arith) in
        let eu = row_entry n table (2 * pred i) in
        let el = row_entry n table (2 * pred i + 1) in
        rw (
          in_reach i (upper_entry table i) p (rw eu at r.upper_least) (rw eu at r.upper-below),
          in_reach i (lower_entry table i) p (rw el at r.lower_least) (rw el at r.lower-below),
        ) refl)

    -- what stands before row i is neither of its entries
    before_row : (i : ℕ) → 1 ≤ i → i < n → (p : ℕ) → p < 2 * (i - 1) →
        (get_or (rows_in n table) p 0 ≢ up i) × (get_or (rows_in n table) p 0 ≢ low i)
    before_row i a c =
        by_rows i (λ p. (get_or (rows_in n table) p 0 ≢ up i) × (get_or (rows_in n table) p 0 ≢ low i))
        (λ j x y. let u = each-used up low (λ v. up i ≢ v) (pred i) (rule i a c).upper_new j x (omega arith) in
        let l = each-used up low (λ v. low i ≢ v) (pred i) (rule i a c).lower_new j x (omega arith) in
        ((λ e. u.0 (sym e), λ e. l.0 (sym e)), (λ e. u.1 (sym e), λ e. l.1 (sym e))))

    -- so the objects at two places differ
    places_apart : (q : ℕ) → q < 2 * (n - 1) → (p : ℕ) → p < q → get_or (rows_in n table) p 0 ≢ get_or (rows_in n table) q 0
    places_apart =
        by_rows n (λ q. (p : ℕ) → p < q → get_or (rows_in n table) p 0 ≢ get_or (rows_in n table) q 0)
        (λ i a c. (λ p k. (before_row i a c p (omega arith)).0, λ p k. at-lower i a c p k (ℕ_discrete p (2 * pred i))))
      where
        at-lower : (i : ℕ) → 1 ≤ i → i < n → (p : ℕ) → p < 2 * pred i + 1 → Dec (p ≡ 2 * pred i) → get_or (rows_in n table) p 0 ≢ low i
        at-lower i a c p k (yes e) = rw e (rule i a c).apart
        at-lower i a c p k (no e) = (before_row i a c p (omega arith)).1

    pub rule_once : twice table ≡ false
    rule_once =
        apart-twice table
        (λ p q k l e. places_apart q (omega (arith, pairs.long)) p k (row_entry n table p ∙ ap (named_by n) e ∙ sym (row_entry n table q)))

  -- ---- as a test of the rows

  -- where no entry names none, one is used twice exactly if a row breaks the rule
  pub once_unbroken : bad_row n up low ≡ 0 → twice table ≡ false
  once_unbroken e = rule_once ((bad_row-none n up low).0 e)

  pub twice-broken : some_none n table ≡ false → bad_row n up low ≢ 0 → twice table ≡ true
  twice-broken named o = must_pass (twice table) (λ e. o ((bad_row-none n up low).1 (tests_rule named e)))

-- ---- the table of rows that keep the rule

module _ (n : ℕ) (rows : List ℕ) (some : 1 ≤ n) (most : n ≤ 512) (long : length rows ≡ 2 * (n - 1))
    (rule : Rule n (upper rows) (lower rows)) where
  pub written-pairs : Pairs n (table_for n rows)
  unfolding table_for
  written-pairs = record { some = some; most = most; long = length-map rows (entry_for n) ∙ long }

  written-rule : Rule n (upper (rows_in n (table_for n rows))) (lower (rows_in n (table_for n rows)))
  written-rule = rw (rows_back n rows long rule) rule

  pub written-named : some_none n (table_for n rows) ≡ false
  written-named = rule-named n (table_for n rows) written-pairs written-rule

  pub written_once : twice (table_for n rows) ≡ false
  written_once = rule_once n (table_for n rows) written-pairs written-rule
