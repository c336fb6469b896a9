-- A tree with the two children of each row exchanged where a test of the row says so: the tree that rows with their entries exchanged
-- make (`Exchanged`). It has as many leaves; laid out, each row's children stand as a layout turns them, and so do its leaves.
use Prim.Native.Nat.{ℕ}
use mathlib.Core.Path.{◌≡◌, refl, ap₂}
use mathlib.Core.Bool.{Bool, true, false, cond}
use mathlib.Core.List.{List, ◌++◌}
use native.Mathlib.Omega.{arith}
use lib.ListN.{length, length-append}
use Rattle.tanglegram.specs.Tree.{Tree, leaf, fork, leaves}
use Rattle.tanglegram.specs.Order.{byte, turned, order}

-- each row's children exchanged where g
unfoldable pub exchanged_tree : (ℕ → Bool) → Tree → Tree
exchanged_tree g (leaf a) = leaf a
exchanged_tree g (fork i u l) =
    let upper = exchanged_tree g u in
    let lower = exchanged_tree g l in
    cond (g i) (fork i lower upper) (fork i upper lower)

-- where the layout turns it
abbrev pub laid_tree : List ℕ → Tree → Tree
laid_tree lay t = exchanged_tree (λ i. turned (byte lay i)) t

-- a tree so exchanged has as many leaves
pub length-leaves-exchanged : (g : ℕ → Bool) (t : Tree) → length (leaves (exchanged_tree g t)) ≡ length (leaves t)
unfolding exchanged_tree leaves
length-leaves-exchanged g (leaf a) = refl
length-leaves-exchanged g (fork i u l) = go (g i) (length-leaves-exchanged g u) (length-leaves-exchanged g l)
  where
    go : (b : Bool) → length (leaves (exchanged_tree g u)) ≡ length (leaves u) → length (leaves (exchanged_tree g l)) ≡ length (leaves l) →
        length (leaves (cond b (fork i (exchanged_tree g l) (exchanged_tree g u)) (fork i (exchanged_tree g u) (exchanged_tree g l))))
        ≡ length (leaves u ++ leaves l)
    go true x y = simp length-append (omega arith)
    go false x y = simp length-append (omega arith)

-- laid out, they stand in the layout's order
pub leaves-laid : (lay : List ℕ) (t : Tree) → leaves (laid_tree lay t) ≡ order lay t
unfolding exchanged_tree leaves order
leaves-laid lay (leaf a) = refl
leaves-laid lay (fork i u l) = go (turned (byte lay i)) (leaves-laid lay u) (leaves-laid lay l)
  where
    go : (b : Bool) → leaves (laid_tree lay u) ≡ order lay u → leaves (laid_tree lay l) ≡ order lay l →
        leaves (cond b (fork i (laid_tree lay l) (laid_tree lay u)) (fork i (laid_tree lay u) (laid_tree lay l)))
        ≡ cond b (order lay l ++ order lay u) (order lay u ++ order lay l)
    go true x y = ap₂ ◌++◌ y x
    go false x y = ap₂ ◌++◌ x y
