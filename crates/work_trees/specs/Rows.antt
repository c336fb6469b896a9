-- A tree's rows in an array, a row array: a list of 1023 numbers in which row i has its upper entry at place 2(i - 1) and its lower one
-- right after it, and n stands in the last place. What stands between the rows and the last place plays no part.
use Rattle.std.specs.Prelude.{ℕ, pred, ◌+◌, ◌-◌, ◌*◌, ◌≤◌, ◌<◌, ◌≡◌, cond, List, leb, length, get_or}
use Rattle.tanglegram.specs.Tree.{Tree, leaves, object, tree, Rule}

-- The two entries of row i.
abbrev pub upper : List ℕ → ℕ → ℕ
upper T i = get_or T (2 * pred i) 0

abbrev pub lower : List ℕ → ℕ → ℕ
lower T i = get_or T (2 * pred i + 1) 0

-- The number of leaves, n.
abbrev pub size : List ℕ → ℕ
size T = get_or T 1022 0

-- Object k, and the tree of the last object.
abbrev pub object_of : List ℕ → ℕ → Tree
object_of T k = object (upper T) (lower T) (size T) k

abbrev pub tree_of : List ℕ → Tree
tree_of T = tree (upper T) (lower T) (size T)

-- Rows over 1 to 512 leaves that keep the tree rule.
pub record GoodRows (T : List ℕ) : Type 0 where
  pub some : 1 ≤ size T
  pub most : size T ≤ 512
  pub rule : Rule (size T) (upper T) (lower T)

-- How many leaves stand under the object that each row makes, noted by row.
pub record LeafCounts (T many : List ℕ) : Type 0 where
  pub long : length many ≡ 512
  pub counts : (i : ℕ) → 1 ≤ i → i < size T → get_or many (pred i) 0 ≡ length (leaves (object_of T (size T + i)))

-- How many stand under an object by these notes, among n leaves: one, if it is a leaf, else what is noted for its row.
abbrev pub count_of : List ℕ → ℕ → ℕ → ℕ
count_of many n o = cond (leb o n) 1 (get_or many (o - n - 1) 0)
