-- The tree rule as a test, row by row: which row breaks it first. Row i makes object n + i of the objects up i and low i.
use Rattle.std.specs.Prelude.{ℕ, zero, suc, pred, ◌+◌, ◌≤◌, ◌<◌, Bool, false, cond, ◌||◌, List, [], ◌∷◌, leb, eqb, Option, None, Some}
use Rattle.tanglegram.specs.Lists.{range}
use Rattle.tanglegram.specs.Tree.{used, Row}

-- v is one of the entries.
unfoldable pub among : ℕ → List ℕ → Bool
among v [] = false
among v (x ∷ xs) = eqb v x || among v xs

-- The first entry that passes a test, or 0.
unfoldable pub first : (ℕ → Bool) → List ℕ → ℕ
first p [] = 0
first p (x ∷ xs) = let rest = first p xs in cond (p x) x rest

module _ (n : ℕ) (up low : ℕ → ℕ) where
  -- Row i can't have the entry v: it is 0, or not below n + i, or an earlier row uses it.
  abbrev pub wrong : ℕ → ℕ → Bool
  wrong i v = eqb v 0 || leb (n + i) v || among v (used up low (pred i))

  -- Row i breaks the rule: it can't have one of its entries, or they are the same.
  abbrev pub breaks : ℕ → Bool
  breaks i = wrong i (up i) || wrong i (low i) || eqb (up i) (low i)

  -- The lowest of rows 1 to n - 1 that breaks the rule, or 0.
  unfoldable pub bad_row : ℕ
  unfolding first
  bad_row = first breaks (range 1 (pred n))

  -- Row b is the lowest that breaks the rule: it does not keep it, and each earlier row does.
  pub record Lowest (b : ℕ) : Type 0 where
    pub is_row : (1 ≤ b) × (b < n)
    pub broken : Row n up low b → ⊥
    pub earlier : (i : ℕ) → 1 ≤ i → i < b → Row n up low i

-- The row that a number tells of, where 0 tells of none.
abbrev pub row_found : ℕ → Option ℕ
row_found zero = None
row_found (suc k) = Some (suc k)
