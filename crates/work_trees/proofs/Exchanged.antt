-- Rows with their entries exchanged keep the tree rule, and make the same objects with their rows' children exchanged; where a layout
-- turns them, the leaves so stand in its order. A row array in which they were exchanged one after the other has these rows.
use Prim.Native.Nat.{ℕ, zero, suc, pred, ◌+◌, ◌-◌, ◌*◌, ◌≤◌, ◌<◌}
use mathlib.Core.Path.{◌≡◌, refl, sym, ap, ap₂, ◌∙◌}
use mathlib.Core.Bool.{Bool, true, false, cond}
use mathlib.Core.Logic.{◌≢◌}
use mathlib.Core.List.{List}
use native.Mathlib.Decide.{dec_le, ℕ_discrete}
use native.Mathlib.Numerals.{add-one}
use native.Mathlib.Omega.{arith}
use lib.ListN.{length, get_or, set, length-set}
use lib.Seq.{get_or-set_same, get_or-set_other}
use Rattle.std.specs.List.{swap}
use Rattle.std.proofs.lemmas.List.Edits.{swap_is}
use Rattle.tanglegram.specs.Lists.{Each}
use Rattle.tanglegram.specs.Tree.{Tree, fork, leaves, used, object, Row, Rule}
use Rattle.tanglegram.specs.Order.{byte, turned, order}
use Rattle.tanglegram.proofs.Tree.{object-leaf, object-fork}
use Rattle.work_trees.specs.Rows.{upper, lower, size, GoodRows}
use Rattle.work_trees.specs.Exchange.{exchanged_at, exchanged_to, exchanged, Exchanges, Laid}
use Rattle.work_trees.proofs.LaidTree.{exchanged_tree, leaves-laid}
use Rattle.work_trees.proofs.RowArray.{rows_long}

-- ---- rows as functions

-- each row's entries exchanged where g
module _ (n : ℕ) (up low up' low' : ℕ → ℕ) (g : ℕ → Bool) (rule : Rule n up low)
    (entries : (i : ℕ) → 1 ≤ i → i < n → Exchanges (g i) (up i) (low i) (up' i) (low' i)) where
  -- the same objects are used
  used-exchanged : (P : ℕ → Type 0) (m : ℕ) → m < n → Each P (used up low m) → Each P (used up' low' m)
  unfolding used
  used-exchanged P zero h p = tt
  used-exchanged P (suc m) h p =
      go (g (suc m)) (entries (suc m) (omega arith) h) (used-exchanged P m (omega arith) p.1.1)
    where
      go : (b : Bool) → Exchanges b (up (suc m)) (low (suc m)) (up' (suc m)) (low' (suc m)) → Each P (used up' low' m) →
          P (up' (suc m)) × (P (low' (suc m)) × Each P (used up' low' m))
      go true e r = (rw e.0 p.1.0, (rw e.1 p.0, r))
      go false e r = (rw e.0 p.0, (rw e.1 p.1.0, r))

  pub exchanged-rule : Rule n up' low'
  exchanged-rule i p q = go (g i) (entries i p q) (rule i p q)
    where
      kept : (v : ℕ) → Each (λ k. v ≢ k) (used up low (pred i)) → Each (λ k. v ≢ k) (used up' low' (pred i))
      kept v = used-exchanged (λ k. v ≢ k) (pred i) (omega arith)

      go : (b : Bool) → Exchanges b (up i) (low i) (up' i) (low' i) → Row n up low i → Row n up' low' i
      go true e c = record {
        upper_least = rw e.0 c.lower_least;
        upper-below = rw e.0 c.lower-below;
        lower_least = rw e.1 c.upper_least;
        lower-below = rw e.1 c.upper-below;
        apart = rw (e.0, e.1) (λ z. c.apart (sym z));
        upper_new = rw e.0 (kept (low i) c.lower_new);
        lower_new = rw e.1 (kept (up i) c.upper_new);
      }
      go false e c = record {
        upper_least = rw e.0 c.upper_least;
        upper-below = rw e.0 c.upper-below;
        lower_least = rw e.1 c.lower_least;
        lower-below = rw e.1 c.lower-below;
        apart = rw (e.0, e.1) c.apart;
        upper_new = rw e.0 (kept (up i) c.upper_new);
        lower_new = rw e.1 (kept (low i) c.lower_new);
      }

  -- ---- the objects that they make

  leaf_case : (k : ℕ) → k ≤ n → object up' low' n k ≡ exchanged_tree g (object up low n k)
  unfolding exchanged_tree
  leaf_case k h = rw (object-leaf n up' low' exchanged-rule k h, object-leaf n up low rule k h) refl

  fork_case : (i : ℕ) → 1 ≤ i → i < n → ((j : ℕ) → j < n + i → object up' low' n j ≡ exchanged_tree g (object up low n j)) →
      object up' low' n (n + i) ≡ exchanged_tree g (object up low n (n + i))
  unfolding exchanged_tree
  fork_case i p q r =
      rw (object-fork n up' low' exchanged-rule i p q, object-fork n up low rule i p q) (go (g i) (entries i p q) (rule i p q))
    where
      before : ℕ → Tree
      before j = exchanged_tree g (object up low n j)

      go : (b : Bool) → Exchanges b (up i) (low i) (up' i) (low' i) → Row n up low i →
          fork i (object up' low' n (up' i)) (object up' low' n (low' i))
          ≡ cond b (fork i (before (low i)) (before (up i))) (fork i (before (up i)) (before (low i)))
      go true e c = rw (e.0, e.1) (ap₂ (fork i) (r (low i) c.lower-below) (r (up i) c.upper-below))
      go false e c = rw (e.0, e.1) (ap₂ (fork i) (r (up i) c.upper-below) (r (low i) c.lower-below))

  objects_below : (f k : ℕ) → k ≤ f → k < n + n → object up' low' n k ≡ exchanged_tree g (object up low n k)
  objects_below zero k h b = leaf_case k (omega arith)
  objects_below (suc f) k h b = go (dec_le k n) (λ j x y. objects_below f j x y)
    where
      go : Dec (k ≤ n) → ((j : ℕ) → j ≤ f → j < n + n → object up' low' n j ≡ exchanged_tree g (object up low n j)) →
          object up' low' n k ≡ exchanged_tree g (object up low n k)
      go (yes d) r = leaf_case k d
      go (no d) r =
          let e : n + (k - n) ≡ k = omega arith in
          rw e at (fork_case (k - n) (omega arith) (omega arith) (λ j x. r j (omega arith) (omega arith)))

  -- each has the children of each of its rows exchanged
  pub object-exchanged : (k : ℕ) → k < n + n → object up' low' n k ≡ exchanged_tree g (object up low n k)
  object-exchanged k h = objects_below k k (omega arith) h

-- where the layout turns it
module _ (n : ℕ) (up low up' low' : ℕ → ℕ) (lay : List ℕ) (rule : Rule n up low)
    (entries : (i : ℕ) → 1 ≤ i → i < n → Exchanges (turned (byte lay i)) (up i) (low i) (up' i) (low' i)) where
  -- the leaves under an object stand in the layout's order
  pub exchanged-leaves : (k : ℕ) → k < n + n → leaves (object up' low' n k) ≡ order lay (object up low n k)
  exchanged-leaves k h =
      ap leaves (object-exchanged n up low up' low' (λ i. turned (byte lay i)) rule entries k h)
      ∙ leaves-laid lay (object up low n k)

-- ---- rows in an array

-- after row i's entries are exchanged
module _ (T : List ℕ) (i : ℕ) where
  pub exchanged_at-row : 2 * pred i + 1 < length T → (upper (exchanged_at T i) i ≡ lower T i) × (lower (exchanged_at T i) i ≡ upper T i)
  exchanged_at-row h =
      let a = 2 * pred i in
      let R = set T a (lower T i) in (
        get_or-set_other R (a + 1) a (upper T i) 0 (omega arith) ∙ get_or-set_same T a (lower T i) 0 (omega arith),
        get_or-set_same R (a + 1) (upper T i) 0 (omega (arith, length-set T a (lower T i))),
      )

  pub exchanged_at-other : (p : ℕ) → p ≢ 2 * pred i → p ≢ 2 * pred i + 1 → get_or (exchanged_at T i) p 0 ≡ get_or T p 0
  exchanged_at-other p h k =
      let a = 2 * pred i in
      get_or-set_other (set T a (lower T i)) (a + 1) p (upper T i) 0 k ∙ get_or-set_other T a p (lower T i) 0 h

  -- it is the library's swap of two places
  pub swap-row : 2 * pred i + 1 < length T → swap T (2 * pred i) (2 * pred i + 1) ≡ exchanged_at T i
  swap-row h = sym (swap_is T (2 * pred i) (2 * pred i + 1) 0 (omega arith) h)

module _ (T lay : List ℕ) where
  -- one row more
  pub exchanged_to-given : (m : ℕ) → turned (get_or lay m 0) ≡ false → exchanged_to T lay (m + 1) ≡ exchanged_to T lay m
  unfolding exchanged_to
  exchanged_to-given m e = rw (add-one m, exchanged_to, e) refl

  -- all rows, where the layout has a byte for each
  pub exchanged_to-all : length lay + 1 ≡ size T → exchanged_to T lay (length lay) ≡ exchanged T lay
  unfolding exchanged
  exchanged_to-all h = let e : length lay ≡ pred (size T) = omega arith in ap (exchanged_to T lay) e

  length-exchanged_to : (m : ℕ) → length (exchanged_to T lay m) ≡ length T
  unfolding exchanged_to
  length-exchanged_to zero = refl
  length-exchanged_to (suc m) = go (turned (get_or lay m 0)) (length-exchanged_to m)
    where
      go : (b : Bool) → length (exchanged_to T lay m) ≡ length T →
          length (cond b (exchanged_at (exchanged_to T lay m) (suc m)) (exchanged_to T lay m)) ≡ length T
      go true e = simp length-set e
      go false e = e

  pub exchanged_to-turned : (m : ℕ) → 2 * m + 1 < length T → turned (get_or lay m 0) ≡ true →
      exchanged_to T lay (m + 1) ≡ swap (exchanged_to T lay m) (2 * m) (2 * m + 1)
  unfolding exchanged_to
  exchanged_to-turned m h e =
      rw (add-one m, exchanged_to, e) (sym (swap-row (exchanged_to T lay m) (suc m) (omega (arith, length-exchanged_to m))))

  -- what stands past the first m rows stays
  exchanged_to-past : (m p : ℕ) → 2 * m ≤ p → get_or (exchanged_to T lay m) p 0 ≡ get_or T p 0
  unfolding exchanged_to
  exchanged_to-past zero p h = refl
  exchanged_to-past (suc m) p h = go (turned (get_or lay m 0)) (exchanged_to-past m p (omega arith))
    where
      go : (b : Bool) → get_or (exchanged_to T lay m) p 0 ≡ get_or T p 0 →
          get_or (cond b (exchanged_at (exchanged_to T lay m) (suc m)) (exchanged_to T lay m)) p 0 ≡ get_or T p 0
      go true e = exchanged_at-other (exchanged_to T lay m) (suc m) p (omega arith) (omega arith) ∙ e
      go false e = e

  -- the first m rows have their entries exchanged where they are turned
  exchanged_to-row : (m i : ℕ) → 2 * m ≤ length T → 1 ≤ i → i ≤ m →
      Exchanges (turned (byte lay i)) (upper T i) (lower T i) (upper (exchanged_to T lay m) i) (lower (exchanged_to T lay m) i)
  unfolding exchanged_to
  exchanged_to-row zero i h p q = absurd (omega arith)
  exchanged_to-row (suc m) i h p q = by (ℕ_discrete i (suc m)) (λ r. exchanged_to-row m i (omega arith) p r)
    where
      after : Bool → List ℕ
      after b = cond b (exchanged_at (exchanged_to T lay m) (suc m)) (exchanged_to T lay m)

      last : (b : Bool) → Exchanges b (upper T (suc m)) (lower T (suc m)) (upper (after b) (suc m)) (lower (after b) (suc m))
      last true =
          let c = exchanged_at-row (exchanged_to T lay m) (suc m) (omega (arith, length-exchanged_to m)) in
          (c.0 ∙ exchanged_to-past m (2 * m + 1) (omega arith), c.1 ∙ exchanged_to-past m (2 * m) (omega arith))
      last false = (exchanged_to-past m (2 * m) (omega arith), exchanged_to-past m (2 * m + 1) (omega arith))

      before : (b : Bool) → i ≤ m →
          (upper (after b) i ≡ upper (exchanged_to T lay m) i) × (lower (after b) i ≡ lower (exchanged_to T lay m) i)
      before true r =
          let R = exchanged_to T lay m in
          let a = 2 * pred i in
          (exchanged_at-other R (suc m) a (omega arith) (omega arith), exchanged_at-other R (suc m) (a + 1) (omega arith) (omega arith))
      before false r = (refl, refl)

      is_row : List ℕ → Type 0
      is_row R = Exchanges (turned (byte lay i)) (upper T i) (lower T i) (upper R i) (lower R i)

      by : Dec (i ≡ suc m) → (i ≤ m → is_row (exchanged_to T lay m)) → is_row (after (turned (get_or lay m 0)))
      by (yes d) r = rw d (last (turned (get_or lay m 0)))
      by (no d) r =
          let s = before (turned (get_or lay m 0)) (omega arith) in
          let t = r (omega arith) in
          (s.0 ∙ t.0, s.1 ∙ t.1)

  -- ---- the whole array

  pub exchanged-laid : GoodRows T → Laid T lay (exchanged T lay)
  unfolding exchanged
  exchanged-laid good =
      let most = good.most in record {
        same_size = exchanged_to-past (pred (size T)) 1022 (omega arith);
        entries = λ i p q. exchanged_to-row (pred (size T)) i (omega (arith, rows_long T good.some)) p (omega arith);
      }
