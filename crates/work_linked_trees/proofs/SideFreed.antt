-- A side in memory is freed: by the far places of its leaves' links it is freed as its table says, and the sums of its rows' own
-- crossings are the counts. Over any fair table; two linked trees in memory are one.
use Prim.Native.Nat.{ℕ, pred, ◌≤◌}
use mathlib.Core.Path.{◌≡◌, refl, sym, ap, subst, ◌∙◌}
use mathlib.Core.List.Permᴰ
use mathlib.Core.List.{List, Permᴰ}
use lib.ListN.{take}
use Rattle.tanglegram.specs.Lists.{Each, range}
use Rattle.tanglegram.specs.Tree.{Tree, leaves, rows}
use Rattle.tanglegram.specs.Crossings.{end, inverted, cost, seen_left, seen_right}
use Rattle.tanglegram.specs.Freeing.{freed}
use Rattle.tanglegram.specs.declared.side.Side.{Side}
use Rattle.tanglegram.specs.declared.side.Side.TheVariants.{Left as left, Right as right}
use Rattle.tanglegram.specs.Table.{Table, Layouts, layout, put, crossings, seen, free}
use Rattle.tanglegram.proofs.Lists.{each-perm}
use Rattle.tanglegram.proofs.Tree.{leaves_once, rows_once}
use Rattle.tanglegram.proofs.Freeing.{freed_cong, cost_cong}
use Rattle.tanglegram.specs.Table.{Fair}
use Rattle.tanglegram.proofs.Table.{count-own, count-put, linked_fair}
use Rattle.work_trees.specs.Rows.{upper, lower, size, tree_of, GoodRows}
use Rattle.work_trees.specs.Exchange.{exchanged, given_tree, LaidOut}
use Rattle.work_trees.proofs.Laid.{exchanged-good, exchanged-size, laid_out_order}
use Rattle.work_places.specs.Arrays.{at, begin, Has, OneToN}
use Rattle.work_crossings.proofs.Count.{far_apart, near_apart}
use Rattle.work_orders.specs.Ends.{far_end}
use Rattle.work_freeing.specs.Rows.{Apart, RowsFreed}
use Rattle.work_linked_trees.specs.Memory.{layouts_from, table_from, InMemory, SideFreed, here}
use Rattle.work_linked_trees.specs.Sides.{seen_by}

-- ---- a side in memory is a tree over its leaves

module _ {t : Tree} {n : ℕ} {lay W : List ℕ} (side : LaidOut t n lay W) where
  given-good : GoodRows (exchanged W lay)
  given-good = exchanged-good W lay side.good

  given-size : size (exchanged W lay) ≡ n
  given-size = exchanged-size W lay side.good ∙ side.sized

  pub side_once : Permᴰ (leaves t) (range 1 n)
  unfolding given_tree
  side_once =
      let T = exchanged W lay in
      rw (← side.tree, ← given-size) (leaves_once (size T) (upper T) (lower T) given-good.rule given-good.some)

  pub side-rows : Permᴰ (rows t) (range 1 (pred n))
  unfolding given_tree
  side-rows =
      let T = exchanged W lay in
      rw (← side.tree, ← given-size) (rows_once (size T) (upper T) (lower T) given-good.rule given-good.some)

-- ---- by the far places

-- rows freed by the far places that an array has are freed by what the side sees
freed-by : {n : ℕ} {far W lay W' lay' : List ℕ} {before after : ℕ} (f : ℕ → ℕ) → Has n far f →
    Permᴰ (leaves (given_tree W lay)) (range 1 n) → RowsFreed (inverted (at far)) W lay before after W' lay' →
    RowsFreed (inverted f) W lay before after W' lay'
freed-by {n} {far} {W} {lay} {W'} {lay'} f holds once r =
    let Held : ℕ → Type 0 = λ a. at far a ≡ f a in
    let t = given_tree W lay in
    let held : Each Held (leaves t) = each-perm Held (Permᴰ.symm once) holds.each in
    let same : (a b : ℕ) → Held a → Held b → inverted (at far) a b ≡ inverted f a b = λ a b p q. rw (p, q) refl in
    record {
      afterwards = r.afterwards ∙ freed_cong (inverted (at far)) (inverted f) Held t lay same held;
      counted = r.counted ∙ cost_cong (inverted (at far)) (inverted f) Held t lay same held;
      recounted = r.recounted ∙ cost_cong (inverted (at far)) (inverted f) Held t lay' same held;
      laid = r.laid;
      counts = r.counts;
    }

-- by where the links end in an order of the other side
pub freed-seen : {n : ℕ} {far W lay W' lay' : List ℕ} {before after : ℕ} (ps τ σ : List ℕ) → τ ≡ σ →
    Permᴰ (leaves (given_tree W lay)) (range 1 n) → RowsFreed (inverted (at far)) W lay before after W' lay' →
    (side : Side) → Has n far (far_end side ps τ) → RowsFreed (seen_by side ps σ) W lay before after W' lay'
freed-seen {W} {lay} {W'} {lay'} {before} {after} ps τ σ same once r left h =
    subst (λ x. RowsFreed (seen_left ps x) W lay before after W' lay') same (freed-by (end ps τ) h once r)
freed-seen {W} {lay} {W'} {lay'} {before} {after} ps τ σ same once r right h =
    subst (λ x. RowsFreed (seen_right ps x) W lay before after W' lay') same (freed-by (begin ps τ) h once r)

-- such ends are apart
pub far-apart : {n : ℕ} {far : List ℕ} (links order : List ℕ) (side : Side) → OneToN n links → OneToN n order → n ≤ 512 →
    Has n far (far_end side (take n links) (take n order)) → Apart n far
far-apart _ _ left l o most h = far_apart _ _ _ _ h l o most
far-apart _ _ right l o most h = near_apart _ _ _ _ l h o most

-- ---- over a fair table

-- a side freed by what it sees: its sums are the counts
module _ (T : Table) (fair : Fair T) (side : Side) (s : Layouts) {lay' : List ℕ} {before after : ℕ}
    (leaves : lay' ≡ freed (seen T s side) (T.tree side) (layout s side))
    (counted : before ≡ cost (seen T s side) (layout s side) (T.tree side))
    (recounted : after ≡ cost (seen T s side) lay' (T.tree side)) where
  pub count_before : before ≡ crossings T s
  count_before = counted ∙ sym (count-own T fair side s)

  pub count-after : after ≡ crossings T (free T side s)
  count-after =
      recounted ∙ sym (count-put T fair side lay' s) ∙ ap (λ l. crossings T (put side l s)) leaves

-- ---- two linked trees in memory

module _ {t u : Tree} {n : ℕ} {links L l R r : List ℕ} (m : InMemory t u n links L l R r) where
  pub memory_fair : Fair (here t u n links)
  memory_fair =
      linked_fair n t u (take n links) (side_once m.left_side) (side_once m.right_side) (side-rows m.left_side)
      (side-rows m.right_side) m.one_to_one

  module _ {before after : ℕ} {W' lay' : List ℕ} where
    pub left_freed : RowsFreed (seen_left (take n links) (leaves (tree_of R))) L l before after W' lay' →
        SideFreed t u n links left (layouts_from l r) before after W' lay' R r
    left_freed f =
        let T = here t u n links in
        let e = laid_out_order m.right_side in
        let tree = m.left_side.tree in
        let g = subst (λ τ. RowsFreed (seen_left (take n links) τ) L l before after W' lay') e f in
        let new = rw tree at g.afterwards in
        let b = rw tree at g.counted in
        let a = rw tree at g.recounted in
        record {
          counted = count_before T memory_fair left (layouts_from l r) new b a;
          recounted = count-after T memory_fair left (layouts_from l r) new b a;
          afterwards = ap (λ x. layouts_from x r) new;
          in_memory =
              record {
                left_side = rw (m.left_side.sized, tree) at f.laid;
                right_side = m.right_side;
                one_to_one = m.one_to_one;
              };
        }

    pub right-freed : RowsFreed (seen_right (take n links) (leaves (tree_of L))) R r before after W' lay' →
        SideFreed t u n links right (layouts_from l r) before after L l W' lay'
    right-freed f =
        let T = here t u n links in
        let e = laid_out_order m.left_side in
        let tree = m.right_side.tree in
        let g = subst (λ τ. RowsFreed (seen_right (take n links) τ) R r before after W' lay') e f in
        let new = rw tree at g.afterwards in
        let b = rw tree at g.counted in
        let a = rw tree at g.recounted in
        record {
          counted = count_before T memory_fair right (layouts_from l r) new b a;
          recounted = count-after T memory_fair right (layouts_from l r) new b a;
          afterwards = ap (λ x. layouts_from l x) new;
          in_memory =
              record {
                left_side = m.left_side;
                right_side = rw (m.right_side.sized, tree) at f.laid;
                one_to_one = m.one_to_one;
              };
        }

-- ---- the trees as given, from the arrays as they are

module _ {t u : Tree} {n : ℕ} {links L l R r : List ℕ} (m : InMemory t u n links L l R r) where
  pub memory-now : InMemory (given_tree L l) (given_tree R r) (size L) links L l R r
  memory-now = rw (m.left_side.tree, m.right_side.tree, m.left_side.sized) m

  pub freed_then : {side : Side} {s : Layouts} {before after : ℕ} {L' l' R' r' : List ℕ} →
      SideFreed (given_tree L l) (given_tree R r) (size L) links side s before after L' l' R' r' →
      SideFreed t u n links side s before after L' l' R' r'
  freed_then f = rw (m.left_side.tree, m.right_side.tree, m.left_side.sized) at f

  pub count-now : (s : Layouts) → crossings (table_from (size L) links L l R r) s ≡ crossings (here t u n links) s
  count-now s = rw (m.left_side.tree, m.right_side.tree, m.left_side.sized) refl

-- the count after freeing a side is that of the arrays as they are then
pub count-freed : {t u : Tree} {n : ℕ} {links L l R r : List ℕ} {side : Side} {s : Layouts} {before after : ℕ} →
    SideFreed t u n links side s before after L l R r →
    after ≡ crossings (table_from (size L) links L l R r) (layouts_from l r)
count-freed {t} {u} {n} {links} {L} {l} {R} {r} f =
    f.recounted ∙ ap (crossings (here t u n links)) (sym f.afterwards) ∙ sym (count-now f.in_memory (layouts_from l r))

-- the arrays that were lent have what the sides left in them
pub lent-back : {t u : Tree} {n : ℕ} {links L l R r L' l' R' r' : List ℕ} {side : Side} {s : Layouts} {before after : ℕ} →
    SideFreed t u n links side s before after L l R r → L' ≡ L → l' ≡ l → R' ≡ R → r' ≡ r →
    SideFreed t u n links side s before after L' l' R' r'
lent-back f a b c d = rw (a, b, c, d) f
