-- The rows of a side that is freed: what is asked of the arrays, each row decided, and the rows' own crossings summed.
use Rattle.std.specs.Prelude.{ℕ, pred, ◌≤◌, ◌<◌, ◌≡◌, Bool, List, map, length, take}
use Rattle.tanglegram.specs.Lists.{Each, Distinct, range}
use Rattle.tanglegram.specs.Order.{byte}
use Rattle.tanglegram.specs.Tree.{leaves}
use Rattle.tanglegram.specs.Crossings.{between, cost}
use Rattle.tanglegram.specs.Freeing.{freed}
use Rattle.tanglegram.specs.Entanglement.{sum}
use Rattle.work_trees.specs.Rows.{upper, lower, size, object_of, tree_of, LeafCounts}
use Rattle.work_trees.specs.Exchange.{Exchanges, given_tree, LaidOut}
use Rattle.work_places.specs.Arrays.{at}
use Rattle.work_deciding.specs.Row.{turns_over, byte_after, own_after}

-- The links of leaves 1 to n end at places below 512, each at another, by the array of these places.
abbrev pub Apart : ℕ → List ℕ → Type 0
Apart n far = Each (λ a. at far a < 512) (range 1 n) × Distinct (map (at far) (range 1 n))

-- An array has the leaves of a row array in its first places.
pub record InOrder (W order : List ℕ) : Type 0 where
  pub long : length order ≡ 512
  pub first : take (size W) order ≡ leaves (tree_of W)

-- The own crossings of row i of a row array as it stands, upper's leaves before lower's, and turned over.
abbrev pub standing : (ℕ → ℕ → ℕ) → List ℕ → ℕ → ℕ
standing w T i = between w (object_of T (upper T i)) (object_of T (lower T i))

abbrev pub turned_over : (ℕ → ℕ → ℕ) → List ℕ → ℕ → ℕ
turned_over w T i = between w (object_of T (lower T i)) (object_of T (upper T i))

-- Row i of a row array that has a layout applied: whether freeing turns it over, and its own crossings after freeing.
abbrev pub gain : (ℕ → ℕ → ℕ) → List ℕ → List ℕ → ℕ → Bool
gain w W lay i = turns_over (byte lay i) (standing w W i) (turned_over w W i)

abbrev pub fewest : (ℕ → ℕ → ℕ) → List ℕ → List ℕ → ℕ → ℕ
fewest w W lay i = own_after (standing w W i) (turned_over w W i) (gain w W lay i)

-- The sum of f over the rows before row i.
abbrev pub sum_to : (ℕ → ℕ) → ℕ → ℕ
sum_to f i = sum f (range 1 (pred i))

-- Each row is decided, by its own crossings in a row array that has the layout applied, and these are summed.
pub record RowsDecided (w : ℕ → ℕ → ℕ) (W lay : List ℕ) (before after : ℕ) (W' lay' : List ℕ) : Type 0 where
  pub long : length lay' ≡ length lay
  pub bytes : (i : ℕ) → 1 ≤ i → i < size W → byte lay' i ≡ byte_after (byte lay i) (gain w W lay i)
  pub same_size : size W' ≡ size W
  pub rows : (i : ℕ) → 1 ≤ i → i < size W → Exchanges (gain w W lay i) (upper W i) (lower W i) (upper W' i) (lower W' i)
  pub counted : before ≡ sum_to (standing w W) (size W)
  pub recounted : after ≡ sum_to (fewest w W lay) (size W)

-- A side in memory is freed: its layout, the sums of its rows' own crossings before and after, and its row array with that layout applied,
-- in which each object has as many leaves as before.
pub record RowsFreed (w : ℕ → ℕ → ℕ) (W lay : List ℕ) (before after : ℕ) (W' lay' : List ℕ) : Type 0 where
  pub afterwards : lay' ≡ freed w (given_tree W lay) lay
  pub counted : before ≡ cost w lay (given_tree W lay)
  pub recounted : after ≡ cost w lay' (given_tree W lay)
  pub laid : LaidOut (given_tree W lay) (size W) lay' W'
  pub counts : (many : List ℕ) → LeafCounts W many → LeafCounts W' many
