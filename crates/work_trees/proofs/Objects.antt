-- Rows that agree use the same objects and make the same objects: two ways to keep a tree's rows in memory keep the same tree.
use Prim.Native.Nat.{ℕ, zero, suc, ◌+◌, ◌-◌, ◌≤◌, ◌<◌}
use mathlib.Core.Path.{◌≡◌, refl, ap, ap₂, ◌∙◌}
use mathlib.Core.Bool.{Bool, true, false, cond}
use native.Mathlib.Omega.{arith}
use borrow.Author.Tests.{leb-false}
use lib.Dec.{leb}
use Rattle.tanglegram.specs.Tree.{leaf, fork, used, deep, object, Rule}

module _ (n : ℕ) (up low up' low' : ℕ → ℕ) (same : (i : ℕ) → 1 ≤ i → i < n → (up i ≡ up' i) × (low i ≡ low' i)) where
  -- objects that the first rows use
  pub used_cong : (m : ℕ) → m < n → used up low m ≡ used up' low' m
  unfolding used
  used_cong zero h = refl
  used_cong (suc m) h = let s = same (suc m) (omega arith) h in rw (s.0, s.1, used_cong m (omega arith)) refl

  module _ (rule : Rule n up low) where
    deep_cong : (f k : ℕ) → k < n + n → deep up low n f k ≡ deep up' low' n f k
    unfolding deep
    deep_cong zero k h = refl
    deep_cong (suc f) k h = go (leb k n) refl (λ j p. deep_cong f j p)
      where
        go : (b : Bool) → leb k n ≡ b → ((j : ℕ) → j < n + n → deep up low n f j ≡ deep up' low' n f j) →
            cond b (leaf k) (fork (k - n) (deep up low n f (up (k - n))) (deep up low n f (low (k - n))))
            ≡ cond b (leaf k) (fork (k - n) (deep up' low' n f (up' (k - n))) (deep up' low' n f (low' (k - n))))
        go true e r = refl
        go false e r =
            let above = leb-false k n e in
            let c = rule (k - n) (omega arith) (omega arith) in
            let s = same (k - n) (omega arith) (omega arith) in
            ap₂ (fork (k - n))
            (r (up (k - n)) (omega arith) ∙ ap (deep up' low' n f) s.0)
            (r (low (k - n)) (omega arith) ∙ ap (deep up' low' n f) s.1)

    -- objects below 2n
    pub object_cong : (k : ℕ) → k < n + n → object up low n k ≡ object up' low' n k
    unfolding object deep
    object_cong k h = deep_cong k k h
