-- The sentence of a tree laid out, each row's upper child first, is the sentence of the tree as given in the layout's order: so a row
-- array that has a layout applied is written as the layout says.
use Prim.Native.Nat.{ℕ}
use mathlib.Core.Path.{◌≡◌, refl, ap, ap₂, ◌∙◌}
use mathlib.Core.Bool.{Bool, true, false, cond}
use mathlib.Core.List.{List, []}
use Rattle.tanglegram.specs.Tree.{Tree, leaf, fork}
use Rattle.tanglegram.specs.Order.{byte, turned}
use Rattle.newick.specs.Sentence.{group, none}
use Rattle.newick.specs.Writing.{sentence_of}
use Rattle.work_trees.specs.Rows.{tree_of}
use Rattle.work_trees.specs.Exchange.{LaidOut}
use Rattle.work_trees.proofs.LaidTree.{exchanged_tree, laid_tree}
use Rattle.work_trees.proofs.Laid.{laid_out_tree}

pub sentence_laid : (lay : List ℕ) (t : Tree) → sentence_of [] (laid_tree lay t) ≡ sentence_of lay t
unfolding exchanged_tree sentence_of
sentence_laid lay (leaf a) = refl
sentence_laid lay (fork i u l) = go (turned (byte lay i)) (sentence_laid lay u) (sentence_laid lay l)
  where
    go : (b : Bool) → sentence_of [] (laid_tree lay u) ≡ sentence_of lay u → sentence_of [] (laid_tree lay l) ≡ sentence_of lay l →
        sentence_of [] (cond b (fork i (laid_tree lay l) (laid_tree lay u)) (fork i (laid_tree lay u) (laid_tree lay l)))
        ≡ cond b (group (sentence_of lay l) (sentence_of lay u) none) (group (sentence_of lay u) (sentence_of lay l) none)
    go true x y = ap₂ (λ s r. group s r none) y x
    go false x y = ap₂ (λ s r. group s r none) x y

-- a side in memory is written as its layout says
pub written-laid : {t : Tree} {n : ℕ} {lay W : List ℕ} → LaidOut t n lay W → sentence_of [] (tree_of W) ≡ sentence_of lay t
written-laid {t = t} {lay = lay} side = ap (sentence_of []) (laid_out_tree side) ∙ sentence_laid lay t
