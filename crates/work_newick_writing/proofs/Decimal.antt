-- The digits of a leaf's number: one below 10, two below 100, and three for any other. So a leaf takes at most three bytes of a text,
-- whatever its number is.
use Prim.Native.Nat.{ℕ, ◌+◌, ◌/◌, ◌%◌, ◌≤◌, ◌<◌}
use mathlib.Core.Path.{◌≡◌, refl}
use mathlib.Core.List.{[], ◌∷◌}
use native.Mathlib.Decide.{dec_lt}
use native.Mathlib.Omega.{arith}
use borrow.Author.Tests.{lt-ltb, le-ltb}
use lib.ListN.{length, length-set}
use Rattle.newick.specs.Writing.{decimal}

module _ (a : ℕ) where
  pub decimal_one : a < 10 → decimal a ≡ (48 + a) ∷ []
  unfolding decimal
  decimal_one h = rw (lt-ltb a 10 h) refl

  pub decimal_two : 10 ≤ a → a < 100 → decimal a ≡ (48 + a / 10) ∷ (48 + a % 10) ∷ []
  unfolding decimal
  decimal_two h k = rw (le-ltb a 10 h, lt-ltb a 100 k) refl

  pub decimal_three : 100 ≤ a → decimal a ≡ (48 + a / 100) ∷ (48 + a / 10 % 10) ∷ (48 + a % 10) ∷ []
  unfolding decimal
  decimal_three h = rw (le-ltb a 10 (omega arith), le-ltb a 100 h) refl

  pub decimal_most : length (decimal a) ≤ 3
  decimal_most = go (dec_lt a 10) (dec_lt a 100)
    where
      go : Dec (a < 10) → Dec (a < 100) → length (decimal a) ≤ 3
      go (yes h) k = rw (decimal_one h) (omega arith)
      go (no h) (yes k) = rw (decimal_two (omega arith) k) (omega arith)
      go (no h) (no k) = rw (decimal_three (omega arith)) (omega arith)

-- the three, for `digits_of`; and for `write_leaf`, which stores them
pub ruleset decimal_digits = (decimal_one, decimal_two, decimal_three)

pub ruleset digits_stored = (decimal_digits, length-set)
