-- The test of the tree rule is the rule: no row is bad exactly if all rows keep it, and otherwise the lowest bad row breaks it and no
-- earlier row does.
use Prim.Native.Nat.{ℕ, zero, suc, pred, ◌+◌, ◌-◌, ◌≤◌, ◌<◌}
use mathlib.Core.Path.{◌≡◌, refl, sym, ap, ◌∙◌}
use mathlib.Core.Bool.{Bool, true, false, cond, not, ◌||◌, true≢false}
use mathlib.Core.Logic.{◌≢◌, ◌↔◌}
use mathlib.Core.List.{List, [], ◌∷◌}
use native.Mathlib.Decide.{ℕ_discrete}
use native.Mathlib.Omega.{arith}
use borrow.Author.Tests.{leb-false, lt-leb, eqb-false, ne_eqb}
use lib.Dec.{leb, eqb}
use Rattle.std.proofs.Common.{Some, None, is_some}
use Rattle.tanglegram.proofs.Bools.{or_neither}
use Rattle.tanglegram.specs.Lists.{Each, range}
use Rattle.tanglegram.specs.Tree.{used, Row, Rule}
use Rattle.work_trees.specs.Rows.{upper, lower, size, GoodRows}
use Rattle.work_tree_rule.specs.Rule.{among, first, wrong, breaks, bad_row, row_found, Lowest}
use Rattle.work_trees.proofs.Objects.{used_cong}

-- ---- tests

-- v is none of the entries
among_none : (v : ℕ) (xs : List ℕ) → among v xs ≡ false → Each (λ k. v ≢ k) xs
unfolding among
among_none v [] e = tt
among_none v (x ∷ xs) e = let r = or_neither (eqb v x) (among v xs) e in (eqb-false v x r.0, among_none v xs r.1)

none-among : (v : ℕ) (xs : List ℕ) → Each (λ k. v ≢ k) xs → among v xs ≡ false
unfolding among
none-among v [] p = refl
none-among v (x ∷ xs) p = rw (ne_eqb v x p.0) (none-among v xs p.1)

-- ---- the rows from row i on: row i, and those after it

pub rows-from : (n i : ℕ) → i < n → range i (n - i) ≡ i ∷ range (suc i) (n - suc i)
unfolding range
rows-from n i here = let e : n - i ≡ suc (n - suc i) = omega arith in ap (range i) e

-- ---- the first that passes a test

first-none : (p : ℕ → Bool) (k m : ℕ) → ((i : ℕ) → k ≤ i → i < k + m → p i ≡ false) → first p (range k m) ≡ 0
unfolding first range
first-none p k zero h = refl
first-none p k (suc m) h = rw (h k (omega arith) (omega arith)) (first-none p (suc k) m (λ i a b. h i (omega arith) (omega arith)))

-- none of k, k + 1, .. passes the test, or b is the lowest that does
data First (p : ℕ → Bool) (k m : ℕ) : ℕ → Type 0 where
  none : ((i : ℕ) → k ≤ i → i < k + m → p i ≡ false) → First p k m 0
  found : {b : ℕ} → k ≤ b → b < k + m → p b ≡ true → ((i : ℕ) → k ≤ i → i < b → p i ≡ false) → First p k m b

first-first : (p : ℕ → Bool) (k m : ℕ) → First p k m (first p (range k m))
unfolding first range
first-first p k zero = none (λ i a b. absurd (omega arith))
first-first p k (suc m) = go (p k) refl (first-first p (suc k) m)
  where
    more : (i b : ℕ) → p k ≡ false → (suc k ≤ i → i < b → p i ≡ false) → Dec (k ≡ i) → k ≤ i → i < b → p i ≡ false
    more i b e r (yes d) x y = rw (← d) e
    more i b e r (no d) x y = r (omega arith) y

    step : {b : ℕ} → p k ≡ false → First p (suc k) m b → First p k (suc m) b
    step e (none h) = none (λ i x y. more i (k + suc m) e (λ v w. h i v (omega arith)) (ℕ_discrete k i) x y)
    step e (found {b = b} v w t h) =
        found {b = b} (omega arith) (omega arith) t (λ i x y. more i b e (λ r s. h i r s) (ℕ_discrete k i) x y)

    go : (t : Bool) → p k ≡ t → First p (suc k) m (first p (range (suc k) m)) →
        First p k (suc m) (cond t k (first p (range (suc k) m)))
    go true e r = found {b = k} (omega arith) (omega arith) e (λ i x y. absurd (omega arith))
    go false e r = step e r

module _ (n : ℕ) (up low : ℕ → ℕ) where
  -- ---- one row

  allowed : (i v : ℕ) → wrong n up low i v ≡ false → (1 ≤ v) × (v < n + i) × Each (λ k. v ≢ k) (used up low (pred i))
  allowed i v e =
      let r = or_neither (eqb v 0 || leb (n + i) v) (among v (used up low (pred i))) e in
      let s = or_neither (eqb v 0) (leb (n + i) v) r.0 in
      let nonzero = eqb-false v 0 s.0 in
      (omega arith, leb-false (n + i) v s.1, among_none v (used up low (pred i)) r.1)

  pub row_kept : (i : ℕ) → breaks n up low i ≡ false → Row n up low i
  row_kept i e =
      let r = or_neither (wrong n up low i (up i) || wrong n up low i (low i)) (eqb (up i) (low i)) e in
      let s = or_neither (wrong n up low i (up i)) (wrong n up low i (low i)) r.0 in
      let u = allowed i (up i) s.0 in
      let l = allowed i (low i) s.1 in record {
        upper_least = u.0;
        upper-below = u.1;
        lower_least = l.0;
        lower-below = l.1;
        apart = eqb-false (up i) (low i) r.1;
        upper_new = u.2;
        lower_new = l.2;
      }

  pub kept_row : (i : ℕ) → Row n up low i → breaks n up low i ≡ false
  kept_row i c =
      let u = none-among (up i) (used up low (pred i)) c.upper_new in
      let l = none-among (low i) (used up low (pred i)) c.lower_new in
      let x = c.upper_least in
      let y = c.lower_least in
      rw (
        ne_eqb (up i) 0 (omega arith),
        ne_eqb (low i) 0 (omega arith),
        lt-leb (n + i) (up i) c.upper-below,
        lt-leb (n + i) (low i) c.lower-below,
        u,
        l,
        ne_eqb (up i) (low i) c.apart,
      ) refl

  -- ---- all rows

  rows-kept : (b : ℕ) → First (breaks n up low) 1 (pred n) b → b ≡ 0 → Rule n up low
  rows-kept b (none h) e i p q = row_kept i (h i p (omega arith))
  rows-kept b (found v w t h) e i p q = absurd (omega arith)

  -- no row is bad exactly if the rows keep the tree rule
  pub bad_row-none : (bad_row n up low ≡ 0) ↔ Rule n up low
  unfolding bad_row
  bad_row-none = (
    rows-kept (bad_row n up low) (first-first (breaks n up low) 1 (pred n)),
    λ rule. first-none (breaks n up low) 1 (pred n) (λ i p q. kept_row i (rule i p (omega arith))),
  )

  lowest : (b : ℕ) → First (breaks n up low) 1 (pred n) b → 1 ≤ b → Lowest n up low b
  lowest b (none h) p = absurd (omega arith)
  lowest b (found v w t h) p = record {
    is_row = (p, omega arith);
    broken = λ c. true≢false (sym t ∙ kept_row b c);
    earlier = λ i x y. row_kept i (h i x y);
  }

  -- otherwise the bad row is the lowest that breaks it
  pub bad_row-lowest : 1 ≤ bad_row n up low → Lowest n up low (bad_row n up low)
  unfolding bad_row
  bad_row-lowest = lowest (bad_row n up low) (first-first (breaks n up low) 1 (pred n))

-- ---- rows that agree, and a row array

first_cong : (p q : ℕ → Bool) (k m : ℕ) → ((i : ℕ) → k ≤ i → i < k + m → p i ≡ q i) → first p (range k m) ≡ first q (range k m)
unfolding first range
first_cong p q k zero h = refl
first_cong p q k (suc m) h =
    let rest = first_cong p q (suc k) m (λ i a b. h i (omega arith) (omega arith)) in
    rw (h k (omega arith) (omega arith), rest) refl

module _ (n : ℕ) (up low up' low' : ℕ → ℕ) (same : (i : ℕ) → 1 ≤ i → i < n → (up i ≡ up' i) × (low i ≡ low' i)) where
  breaks_cong : (i : ℕ) → 1 ≤ i → i < n → breaks n up low i ≡ breaks n up' low' i
  breaks_cong i p q =
      let s = same i p q in
      rw (s.0, s.1, used_cong n up low up' low' same (pred i) (omega arith)) refl

  -- they have the same bad row, and keep the rule alike
  bad_row_cong : bad_row n up low ≡ bad_row n up' low'
  unfolding bad_row
  bad_row_cong = first_cong (breaks n up low) (breaks n up' low') 1 (pred n) (λ i p q. breaks_cong i p (omega arith))

  pub rule_cong : Rule n up low → Rule n up' low'
  rule_cong rule = (bad_row-none n up' low').0 (sym bad_row_cong ∙ (bad_row-none n up low).1 rule)

-- a row array of 1 to 512 leaves with no bad row is good
pub no_bad_row-good : (T : List ℕ) → 1 ≤ size T → size T ≤ 512 → bad_row (size T) (upper T) (lower T) ≡ 0 → GoodRows T
no_bad_row-good T h k e = record { some = h; most = k; rule = (bad_row-none (size T) (upper T) (lower T)).0 e }

-- ---- the row that a number tells of

pub row_found-some : (b : ℕ) → 1 ≤ b → Some b ≡ row_found b
row_found-some zero h = absurd (omega arith)
row_found-some (suc k) h = refl

-- what its answer tells of the number
pub some_row_found : (b i : ℕ) → Some i ≡ row_found b → (b ≡ i) × (1 ≤ b)
some_row_found zero i e = absurd (cc)
some_row_found (suc k) i e = (cc, omega arith)

pub none_row_found : (b : ℕ) → None ≡ row_found b → b ≡ 0
none_row_found zero e = refl
none_row_found (suc k) e = absurd (cc)

pub is_some-row_found : (b : ℕ) → is_some (row_found b) ≡ not (eqb b 0)
is_some-row_found zero = refl
is_some-row_found (suc k) = rw (ne_eqb (suc k) 0 (λ e. omega (arith, e))) refl
