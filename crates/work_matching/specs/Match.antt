-- Matching an order with a tree: the layout read off the order, whether the order is compatible, and whether it goes with pins.
use Rattle.std.specs.Prelude.{◌≡◌, Bool, true, false, cond, not, List, ℕ, take}
use Rattle.tanglegram.specs.Order.{Compatible, reading, pinned_as, against_pins}
use Rattle.work_trees.specs.Rows.{size, tree_of}

-- The order in an array, for the tree of a row array: its first n entries.
abbrev pub order_in : List ℕ → List ℕ → List ℕ
order_in T xs = take (size T) xs

-- The answer says whether the order in xs is compatible with the tree of T.
pub record Tells (T xs : List ℕ) (answer : Bool) : Type 0 where
  pub accepts : answer ≡ true → Compatible (tree_of T) (order_in T xs)
  pub refuses : answer ≡ false → Compatible (tree_of T) (order_in T xs) → ⊥

-- The layout read off xs was written, and the answer says whether the order in xs is compatible.
pub record Matches (T xs lay : List ℕ) (answer : Bool) (after : List ℕ) : Type 0 where
  pub tells : Tells T xs answer
  pub writes : after ≡ reading (order_in T xs) (tree_of T) lay

-- The answer says whether lay goes with the pins, and if so it was pinned as they are.
pub record KeepsPins (pins lay : List ℕ) (answer : Bool) (after : List ℕ) : Type 0 where
  pub tells : answer ≡ not (against_pins pins lay)
  pub writes : after ≡ cond (against_pins pins lay) lay (pinned_as pins lay)
