-- A row's two parts, by the far places of their leaves' links in an array of those of all leaves, in the tree's order: where they stand
-- there, what they count the one way and the other, and that both ways together are as many as the pairs.
use Prim.Native.Nat.{ℕ, zero, suc, ◌+◌, ◌-◌, ◌*◌, ◌≤◌, ◌<◌}
use mathlib.Core.Path.{◌≡◌, refl, sym, ap, ap₂, ◌∙◌, subst}
use mathlib.Core.Logic.{◌≢◌}
use mathlib.Core.List.Permᴰ
use mathlib.Core.List.{List, [], ◌∷◌, ◌++◌, map, map-append, Permᴰ}
use native.Mathlib.Decide.{ℕ_discrete}
use native.Mathlib.Nat.{mul-le-mul}
use native.Mathlib.Omega.{arith}
use borrow.Author.Tests.{le-leb}
use lib.ListN.{length, get_or, set, take, drop, length-append, length-map, length-set}
use lib.Seq.{drop-cons, get_or-take, get_or-set_same, get_or-set_other}
use Rattle.tanglegram.specs.Lists.{Distinct, range, place}
use Rattle.tanglegram.specs.Tree.{Tree, leaf, fork, leaves}
use Rattle.tanglegram.specs.Crossings.{across, inverted, between}
use Rattle.tanglegram.proofs.Lists.{distinct_perm, mem-perm, mem-range, place-below}
use Rattle.tanglegram.proofs.Tree.{object-fork, leaves_once}
use Rattle.tanglegram.proofs.Turning.{leaf_product}
use Rattle.work_trees.specs.Rows.{upper, lower, size, object_of, tree_of, GoodRows, LeafCounts, count_of}
use Rattle.work_trees.proofs.LeafCounts.{count-is}
use Rattle.work_trees.proofs.ByNumber.{row_at}
use Rattle.work_trees.proofs.Walked.{length-leaves, leaves-leaf}
use Rattle.work_places.specs.Arrays.{at, falls}
use Rattle.work_places.proofs.OneToOne.{at-place-leaf}
use Rattle.work_crossings.proofs.Runs.{across-falls}
use Rattle.work_freeing.specs.Rows.{Apart, standing, turned_over}
use Rattle.work_deciding.specs.Row.{as_it_stands, the_other}
use Rattle.work_freeing.proofs.Under.{pairwise_unmapped}
use Rattle.work_freeing.proofs.Freed.{Own}
use Rattle.work_freeing.proofs.Stands.{Stands, Somewhere, stands_both, somewhere_under, together}

-- ---- the far places under each object

abbrev pub far_under : List ℕ → List ℕ → ℕ → List ℕ
far_under far W o = map (at far) (leaves (object_of W o))

some-leaf : (t : Tree) → 1 ≤ length (leaves t)
unfolding leaves
some-leaf (leaf a) = omega arith
some-leaf (fork i u l) = omega (arith, some-leaf u, length-append (leaves u) (leaves l))

-- where they stand is noted for the objects below `top`
pub record LinksNoted (far W seen from many : List ℕ) (top : ℕ) : Type 0 where
  pub from-long : length from ≡ 1024
  pub noted : (o : ℕ) → 1 ≤ o → o < top → Stands seen (size W) (far_under far W o) (get_or from o 0) (count_of many (size W) o)

-- a row's two parts, one after the other
pub record ChildrenStand (far W seen : List ℕ) (i k first second : ℕ) : Type 0 where
  pub fits : k + first + second ≤ size W
  pub both_ways : as_it_stands seen k first second + the_other seen k first second ≡ first * second
  pub stands : as_it_stands seen k first second ≡ standing (inverted (at far)) W i
  pub other : the_other seen k first second ≡ turned_over (inverted (at far)) W i
  pub few : first * second ≤ 262144

-- counting them one way gives its own crossings, and the pairs less those give the ones turned over
pub own-counted : {far W seen : List ℕ} {i k first second : ℕ} → ChildrenStand far W seen i k first second →
    {count : ℕ} → count ≡ as_it_stands seen k first second → Own (inverted (at far)) W i count (first * second - count)
own-counted p e = record {
  stands = e ∙ p.stands;
  over = omega (arith, e, p.both_ways, p.other);
  few = omega (arith, e, p.both_ways, p.few);
  few-over = omega (arith, p.few);
}

-- by numbers that were told
pub own-told : {far W seen : List ℕ} {i k first second k' f s x y : ℕ} → ChildrenStand far W seen i k first second →
    k' ≡ k → f ≡ first → s ≡ second → x ≡ first → y ≡ second → {count : ℕ} → count ≡ as_it_stands seen k' f s →
    Own (inverted (at far)) W i count (x * y - count)
own-told p a b c d e h = rw (d, e) (own-counted p (rw (a, b, c) at h))

pub parts-told : {far W seen : List ℕ} {i k first second f s : ℕ} → ChildrenStand far W seen i k first second → f ≡ first → s ≡ second →
    ChildrenStand far W seen i k f s
parts-told p e h = rw (e, h) p

get_d_mapped : (f : ℕ → ℕ) (xs : List ℕ) (k : ℕ) → k < length xs → get_or (map f xs) k 0 ≡ f (get_or xs k 0)
get_d_mapped f [] k h = absurd (omega arith)
get_d_mapped f (x ∷ xs) zero h = refl
get_d_mapped f (x ∷ xs) (suc k) h = get_d_mapped f xs k (omega arith)

module _ (W : List ℕ) (good : GoodRows W) (far : List ℕ) (apart : Apart (size W) far) where
  -- each leaf stands once in the tree
  once : Permᴰ (leaves (tree_of W)) (range 1 (size W))
  once = leaves_once (size W) (upper W) (lower W) good.rule good.some

  -- no two links end at one place
  distinct_leaves : Distinct (map (at far) (leaves (tree_of W)))
  distinct_leaves = distinct_perm (Permᴰ.symm (Permᴰ.map (at far) once)) apart.1

  -- both ways together are the leaf product
  row_product : (i : ℕ) → 1 ≤ i → i < size W →
      standing (inverted (at far)) W i + turned_over (inverted (at far)) W i
      ≡ length (leaves (object_of W (upper W i))) * length (leaves (object_of W (lower W i)))
  row_product =
      let w = inverted (at far) in
      row_at W good (λ i u l. between w u l + between w l u ≡ length (leaves u) * length (leaves l))
      (leaf_product (at far) (tree_of W) (pairwise_unmapped (λ x y. x ≢ y) (at far) (leaves (tree_of W)) distinct_leaves))

  -- the object that a row makes
  far_fork : (i : ℕ) → 1 ≤ i → i < size W →
      far_under far W (size W + i) ≡ far_under far W (upper W i) ++ far_under far W (lower W i)
  unfolding leaves
  far_fork i p q =
      ap (λ t. map (at far) (leaves t)) (object-fork (size W) (upper W) (lower W) good.rule i p q)
      ∙ map-append (at far) (leaves (object_of W (upper W i))) (leaves (object_of W (lower W i)))

  module _ (seen : List ℕ) (long : length seen ≡ 512) (is : take (size W) seen ≡ map (at far) (leaves (tree_of W))) where
    room : size W ≤ length seen
    room = let most = good.most in omega arith

    seen_apart : Distinct (take (size W) seen)
    seen_apart = rw is distinct_leaves

    all-long : length (map (at far) (leaves (tree_of W))) ≡ size W
    all-long = simp length-map (length-leaves W good)

    row_somewhere : (i : ℕ) → 1 ≤ i → i < size W →
        Somewhere seen (size W) (far_under far W (upper W i) ++ far_under far W (lower W i))
    row_somewhere =
        row_at W good (λ i u l. Somewhere seen (size W) (map (at far) (leaves u) ++ map (at far) (leaves l)))
        (somewhere_under seen (size W) room (at far) (tree_of W) (record {
          from = 0;
          stands = record { many = refl; within = omega (arith, all-long); stand = ap (λ m. take m seen) all-long ∙ is };
        }))

    -- ---- each leaf

    leaf_stands : (v : ℕ) → 1 ≤ v → v ≤ size W → Stands seen (size W) (far_under far W v) (place (leaves (tree_of W)) v) 1
    leaf_stands v p q =
        let O = leaves (tree_of W) in
        let k = place O v in
        let n = length-leaves W good in
        let below = place-below O v (mem-perm (Permᴰ.symm once) (mem-range v 1 (size W) p (omega arith))) in
        let here : get_or seen k 0 ≡ at far v =
        sym (get_or-take (size W) seen k 0 (omega arith)) ∙ ap (λ l. get_or l k 0) is ∙ get_d_mapped (at far) O k below
        ∙ ap (at far) (at-place-leaf (size W) O once v (p, q)) in
        let one : far_under far W v ≡ at far v ∷ [] = ap (map (at far)) (leaves-leaf W good v q) in record {
          many = ap length (sym one);
          within = omega arith;
          stand = ap (take 1) (drop-cons seen k 0 (omega (arith, room))) ∙ ap (λ x. x ∷ []) here ∙ sym one;
        }

    pub noted-leaves : (from many : List ℕ) → length from ≡ 1024 →
        ((v : ℕ) → v ≤ size W → get_or from v 0 ≡ place (leaves (tree_of W)) v) → LinksNoted far W seen from many (size W + 1)
    noted-leaves from many h e = record {
      from-long = h;
      noted = λ o p q.
          rw (e o (omega arith), le-leb o (size W) (omega arith)) (leaf_stands o p (omega arith));
    }

    -- ---- one row more

    module _ (from many : List ℕ) (i : ℕ) (p : 1 ≤ i) (q : i < size W) (before : LinksNoted far W seen from many (size W + i))
        (a b : ℕ) (is-a : a ≡ upper W i) (is_b : b ≡ lower W i) where
      abbrev us : List ℕ
      us = far_under far W (upper W i)

      abbrev ls : List ℕ
      ls = far_under far W (lower W i)

      abbrev k : ℕ
      k = get_or from a 0

      abbrev first : ℕ
      first = count_of many (size W) a

      abbrev second : ℕ
      second = count_of many (size W) b

      first_stands : Stands seen (size W) us k first
      first_stands =
          let c = good.rule i p q in
          subst (λ o. Stands seen (size W) (far_under far W o) k first) is-a (before.noted a (omega arith) (omega arith))

      second_stands : Stands seen (size W) ls (get_or from b 0) second
      second_stands =
          let c = good.rule i p q in
          subst (λ o. Stands seen (size W) (far_under far W o) (get_or from b 0) second) is_b (before.noted b (omega arith) (omega arith))

      both_stand : Stands seen (size W) (us ++ ls) k (first + second)
      both_stand =
          let some : 1 ≤ length us = simp length-map (some-leaf (object_of W (upper W i))) in
          rw (first_stands.many, second_stands.many)
          (together seen (size W) room seen_apart us ls k first first_stands some (row_somewhere i p q))

      pub parts : ChildrenStand far W seen i k first second
      parts =
          let w = inverted (at far) in
          let m = first_stands.many in
          let each = stands_both seen (size W) room us ls k (first + second) both_stand in
          let one : take first (drop k seen) ≡ us = rw m each.0.stand in
          let two : take second (drop (k + first) seen) ≡ ls = rw (m, second_stands.many) each.1.stand in
          let stands : as_it_stands seen k first second ≡ standing w W i =
          ap₂ (across falls) one two ∙ across-falls (at far) (leaves (object_of W (upper W i))) (leaves (object_of W (lower W i))) in
          let other : the_other seen k first second ≡ turned_over w W i =
          ap₂ (across falls) two one ∙ across-falls (at far) (leaves (object_of W (lower W i))) (leaves (object_of W (upper W i))) in
          record {
            fits = omega (arith, both_stand.within);
            both_ways =
                ap₂ ◌+◌ stands other ∙ row_product i p q
                ∙ sym (ap₂ ◌*◌ (m ∙ simp length-map refl) (second_stands.many ∙ simp length-map refl));
            stands = stands;
            other = other;
            few =
                let most = good.most in
                let p : first ≤ 512 = omega (arith, both_stand.within) in
                let q : second ≤ 512 = omega (arith, both_stand.within) in
                mul-le-mul p q;
          }

      pub noted_more : LeafCounts W many → LinksNoted far W seen (set from (size W + i) k) many (size W + (i + 1))
      noted_more counts = record {
        from-long = simp length-set before.from-long;
        noted = λ o c d. go o c d (ℕ_discrete o (size W + i));
      }
        where
          made : count_of many (size W) (size W + i) ≡ first + second
          made =
              count-is W good many counts (size W + i) (omega arith) (omega arith)
              ∙ sym (simp length-map refl)
              ∙ ap length (far_fork i p q)
              ∙ length-append us ls
              ∙ sym (ap₂ ◌+◌ first_stands.many second_stands.many)

          go : (o : ℕ) → 1 ≤ o → o < size W + (i + 1) → Dec (o ≡ size W + i) →
              Stands seen (size W) (far_under far W o) (get_or (set from (size W + i) k) o 0) (count_of many (size W) o)
          go o c d (yes e) =
              let most = good.most in
              let f = before.from-long in
              rw (e, get_or-set_same from (size W + i) k 0 (omega arith), made, far_fork i p q) both_stand
          go o c d (no e) = rw (get_or-set_other from (size W + i) o k 0 e) (before.noted o c (omega arith))
