-- A row array with a layout applied: it keeps the tree rule, its tree is laid out, and so its leaves stand in the layout's order.
-- Exchanging the same rows again takes the layout off, and where rows are turned over in the array and in the layout alike, the tree as
-- given stays.
use Prim.Native.Nat.{ℕ, pred, ◌+◌, ◌*◌, ◌≤◌, ◌<◌}
use mathlib.Core.Path.{◌≡◌, refl, sym, ap, ap₂, ◌∙◌}
use mathlib.Core.Bool.{Bool, true, false, cond}
use mathlib.Core.List.{List, ◌++◌}
use native.Mathlib.Omega.{arith}
use lib.ListN.{length, drop}
use Rattle.tanglegram.specs.Tree.{Tree, leaves, tree}
use Rattle.tanglegram.proofs.Bytes.{turned-flip}
use Rattle.tanglegram.specs.Order.{byte, turned, flip, order}
use Rattle.work_trees.specs.Rows.{upper, lower, size, object_of, tree_of, GoodRows}
use Rattle.work_trees.specs.Exchange.{exchanged, Exchanges, Laid, given_tree, LaidOut}
use Rattle.work_trees.proofs.LaidTree.{laid_tree, leaves-laid}
use Rattle.work_trees.proofs.Exchanged.{exchanged-rule, object-exchanged, exchanged-leaves, exchanged-laid}
use Rattle.work_trees.proofs.Objects.{object_cong}

-- ---- a row array laid out

module _ (T lay W : List ℕ) (good : GoodRows T) (laid : Laid T lay W) where
  pub laid-good : GoodRows W
  laid-good =
      let same = laid.same_size in record {
        some = rw same good.some;
        most = rw same good.most;
        rule =
            let exchanged = exchanged-rule (size T) (upper T) (lower T) (upper W) (lower W) in
            rw same (exchanged (λ i. turned (byte lay i)) good.rule laid.entries);
      }

  -- the leaves under an object of it stand in the layout's order
  pub laid-object : (k : ℕ) → k < 2 * size T → leaves (object_of W k) ≡ order lay (object_of T k)
  laid-object k h =
      rw laid.same_size
      (exchanged-leaves (size T) (upper T) (lower T) (upper W) (lower W) lay good.rule laid.entries k (omega arith))

  -- and its tree is laid out
  pub tree-laid : tree_of W ≡ laid_tree lay (tree_of T)
  tree-laid =
      let some = good.some in
      let k = size T + pred (size T) in
      let turns : ℕ → Bool = λ i. turned (byte lay i) in
      rw laid.same_size
      (object-exchanged (size T) (upper T) (lower T) (upper W) (lower W) turns good.rule laid.entries k (omega arith))

  pub laid-tree : leaves (tree_of W) ≡ order lay (tree_of T)
  laid-tree = ap leaves tree-laid ∙ leaves-laid lay (tree_of T)

-- ---- by exchanging

module _ (T lay : List ℕ) (good : GoodRows T) where
  pub exchanged-good : GoodRows (exchanged T lay)
  exchanged-good = laid-good T lay (exchanged T lay) good (exchanged-laid T lay good)

  pub exchanged-size : size (exchanged T lay) ≡ size T
  exchanged-size = (exchanged-laid T lay good).same_size

  -- the exchanged array's leaves written out are the layout's order
  pub exchanged-written : (out : List ℕ) →
      leaves (tree_of (exchanged T lay)) ++ drop (size (exchanged T lay)) out ≡ order lay (tree_of T) ++ drop (size T) out
  exchanged-written out = ap₂ (λ x m. x ++ drop m out) (laid-tree T lay (exchanged T lay) good (exchanged-laid T lay good)) exchanged-size

exchanges_back : (b : Bool) (u l u' l' : ℕ) → Exchanges b u l u' l' → Exchanges b u' l' u l
exchanges_back true u l u' l' e = (sym e.1, sym e.0)
exchanges_back false u l u' l' e = (sym e.0, sym e.1)

-- a row array has the rows of the exchanged one laid out
pub laid-back : (W lay : List ℕ) → GoodRows W → Laid (exchanged W lay) lay W
laid-back W lay good =
    let there = exchanged-laid W lay good in record {
      same_size = sym there.same_size;
      entries = λ i p q. exchanges_back (turned (byte lay i)) _ _ _ _ (there.entries i p (rw there.same_size at q));
    }

-- ---- the tree as given

-- row arrays with the same rows have the same tree
same-tree : (A B : List ℕ) → GoodRows A → size A ≡ size B →
    ((i : ℕ) → 1 ≤ i → i < size A → (upper A i ≡ upper B i) × (lower A i ≡ lower B i)) → tree_of A ≡ tree_of B
same-tree A B good e same =
    let some = good.some in
    object_cong (size A) (upper A) (lower A) (upper B) (lower B) same good.rule (size A + pred (size A)) (omega arith)
    ∙ ap (tree (upper B) (lower B)) e

-- a row exchanged where b, and exchanged again where b, is as it was
twice : (b : Bool) (u l u' l' u'' l'' : ℕ) → Exchanges b u l u' l' → Exchanges b u' l' u'' l'' → (u'' ≡ u) × (l'' ≡ l)
twice true u l u' l' u'' l'' e f = (f.0 ∙ e.1, f.1 ∙ e.0)
twice false u l u' l' u'' l'' e f = (f.0 ∙ e.0, f.1 ∙ e.1)

-- a layout applied and taken off leaves the tree
pub given-laid : (T lay W : List ℕ) → GoodRows T → Laid T lay W → given_tree W lay ≡ tree_of T
unfolding given_tree
given-laid T lay W good laid =
    let there = laid-good T lay W good laid in
    let off = exchanged-laid W lay there in
    let size-off = off.same_size ∙ laid.same_size in
    same-tree (exchanged W lay) T (laid-good W lay (exchanged W lay) there off) size-off
    (λ i p q. twice (turned (byte lay i)) _ _ _ _ _ _ (laid.entries i p (rw (← size-off) q)) (off.entries i p (rw (← off.same_size) q)))

-- a row array that has a layout applied has the tree as given laid out, and its leaves in the layout's order
pub given-tree : (W lay : List ℕ) → GoodRows W → tree_of W ≡ laid_tree lay (given_tree W lay)
unfolding given_tree
given-tree W lay good = tree-laid (exchanged W lay) lay W (exchanged-good W lay good) (laid-back W lay good)

pub given-order : (W lay : List ℕ) → GoodRows W → leaves (tree_of W) ≡ order lay (given_tree W lay)
given-order W lay good = ap leaves (given-tree W lay good) ∙ leaves-laid lay (given_tree W lay)

-- a byte x with its row turned over where g, and its entries exchanged where g: the layout taken off gives the same
either_way : (g t : Bool) (x u l u' l' a b a' b' : ℕ) → turned x ≡ t → Exchanges g u l u' l' → Exchanges (turned x) u l a b →
    Exchanges (turned (cond g (flip x) x)) u' l' a' b' → (a' ≡ a) × (b' ≡ b)
either_way true true x u l u' l' a b a' b' h e f k =
    let m = rw h at f in
    let n = rw (turned-flip x, h) at k in
    (n.0 ∙ e.0 ∙ sym m.0, n.1 ∙ e.1 ∙ sym m.1)
either_way true false x u l u' l' a b a' b' h e f k =
    let m = rw h at f in
    let n = rw (turned-flip x, h) at k in
    (n.0 ∙ e.1 ∙ sym m.0, n.1 ∙ e.0 ∙ sym m.1)
either_way false t x u l u' l' a b a' b' h e f k = same t (rw h at f) (rw h at k)
  where
    same : (b₀ : Bool) → Exchanges b₀ u l a b → Exchanges b₀ u' l' a' b' → (a' ≡ a) × (b' ≡ b)
    same true m n = (n.0 ∙ e.1 ∙ sym m.0, n.1 ∙ e.0 ∙ sym m.1)
    same false m n = (n.0 ∙ e.0 ∙ sym m.0, n.1 ∙ e.1 ∙ sym m.1)

-- rows turned over where g, in the array and in the layout alike, leave the tree as given
module _ (W W' lay lay' : List ℕ) (g : ℕ → Bool) (good : GoodRows W) (same : size W' ≡ size W)
    (rows : (i : ℕ) → 1 ≤ i → i < size W → Exchanges (g i) (upper W i) (lower W i) (upper W' i) (lower W' i))
    (bytes : (i : ℕ) → 1 ≤ i → i < size W → byte lay' i ≡ cond (g i) (flip (byte lay i)) (byte lay i)) where
  pub turned-good : GoodRows W'
  turned-good = record {
    some = rw same good.some;
    most = rw same good.most;
    rule = rw same (exchanged-rule (size W) (upper W) (lower W) (upper W') (lower W') g good.rule rows);
  }

  pub turned-given : given_tree W' lay' ≡ given_tree W lay
  unfolding given_tree
  turned-given =
      let a = exchanged-laid W lay good in
      let a' = exchanged-laid W' lay' turned-good in
      let sizes = a'.same_size ∙ same in
      same-tree (exchanged W' lay') (exchanged W lay) (exchanged-good W' lay' turned-good) (sizes ∙ sym a.same_size)
      (λ i p q.
      let below : i < size W = rw sizes at q in
      either_way (g i) (turned (byte lay i)) (byte lay i) _ _ _ _ _ _ _ _ refl (rows i p below) (a.entries i p below)
      (rw (bytes i p below) at (a'.entries i p (rw same below))))

-- ---- a side in memory

-- a good row array is one once the layout is applied to it
pub laid_out : (T lay W : List ℕ) → GoodRows T → length lay + 1 ≡ size T → W ≡ exchanged T lay → LaidOut (tree_of T) (size T) lay W
laid_out T lay W good long e =
    let laid : Laid T lay W = rw e (exchanged-laid T lay good) in record {
      good = laid-good T lay W good laid;
      sized = laid.same_size;
      long = long;
      tree = given-laid T lay W good laid;
    }

-- its tree is the tree as given laid out, and its leaves stand in the layout's order
pub laid_out_tree : {t : Tree} {n : ℕ} {lay W : List ℕ} → LaidOut t n lay W → tree_of W ≡ laid_tree lay t
laid_out_tree {lay = lay} {W = W} side = given-tree W lay side.good ∙ ap (laid_tree lay) side.tree

pub laid_out_order : {t : Tree} {n : ℕ} {lay W : List ℕ} → LaidOut t n lay W → leaves (tree_of W) ≡ order lay t
laid_out_order {t = t} {lay = lay} side = ap leaves (laid_out_tree side) ∙ leaves-laid lay t
