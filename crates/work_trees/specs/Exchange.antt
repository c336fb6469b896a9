-- A row array with a layout applied: the two entries of each turned row are exchanged, so that its leaves stand in the layout's order.
use Rattle.std.specs.Prelude.{ℕ, zero, suc, pred, ◌+◌, ◌*◌, ◌≤◌, ◌<◌, ◌≡◌, Bool, cond, List, length, set}
use Rattle.tanglegram.specs.Tree.{Tree}
use Rattle.tanglegram.specs.Order.{byte, turned}
use Rattle.work_trees.specs.Rows.{upper, lower, size, tree_of, GoodRows}

-- Row i's entries exchanged.
abbrev pub exchanged_at : List ℕ → ℕ → List ℕ
exchanged_at T i = set (set T (2 * pred i) (lower T i)) (2 * pred i + 1) (upper T i)

-- Each of rows 1 to m with its entries exchanged where the layout turns it.
unfoldable pub exchanged_to : List ℕ → List ℕ → ℕ → List ℕ
exchanged_to T lay zero = T
exchanged_to T lay (suc m) = let before = exchanged_to T lay m in cond (turned (byte lay (suc m))) (exchanged_at before (suc m)) before

-- Each row so.
unfoldable pub exchanged : List ℕ → List ℕ → List ℕ
unfolding exchanged_to
exchanged T lay = exchanged_to T lay (pred (size T))

-- u' and l' are u and l, exchanged where b.
abbrev pub Exchanges : Bool → ℕ → ℕ → ℕ → ℕ → Type 0
Exchanges b u l u' l' = (u' ≡ cond b l u) × (l' ≡ cond b u l)

-- W has the rows of T, each with its entries exchanged where the layout turns it.
pub record Laid (T lay W : List ℕ) : Type 0 where
  pub same_size : size W ≡ size T
  pub entries : (i : ℕ) → 1 ≤ i → i < size T → Exchanges (turned (byte lay i)) (upper T i) (lower T i) (upper W i) (lower W i)

-- The tree as given of a row array that has a layout applied: exchanging the same rows again takes the layout off.
unfoldable pub given_tree : List ℕ → List ℕ → Tree
unfolding exchanged
given_tree W lay = tree_of (exchanged W lay)

-- A side in memory: a row array over n leaves that has a layout applied, one byte for each row, and as given is the tree t.
pub record LaidOut (t : Tree) (n : ℕ) (lay W : List ℕ) : Type 0 where
  pub good : GoodRows W
  pub sized : size W ≡ n
  pub long : length lay + 1 ≡ n
  pub tree : given_tree W lay ≡ t
