-- The counts are those of the definition: by seen places along the left order and along the right one, and pair by pair; so
-- they agree. Likewise the displacement. The arrays are those that `leaves` fills from orders σ and τ and links ps.
use Prim.Native.Nat.{ℕ, pred, ◌≤◌, ◌<◌}
use mathlib.Core.Path.{◌≡◌, refl, sym, ap, ap₂, ◌∙◌}
use mathlib.Core.List.{List, map, Permᴰ}
use native.Mathlib.Omega.{arith}
use lib.ListN.{get_or, take}
use lib.Seq.{get_or-take}
use Rattle.tanglegram.specs.Lists.{Each, Distinct, place, range}
use Rattle.tanglegram.specs.Crossings.{pairs, across, inverted, to, back, end, count, left_cross, seen_left, seen_right}
use Rattle.tanglegram.specs.Entanglement.{sum, squared, displacement}
use Rattle.tanglegram.proofs.Lists.{each_map, each_zip, each_pairwise}
use Rattle.tanglegram.proofs.Sums.{pairs_ext}
use Rattle.tanglegram.proofs.Crossings.{count_left, count-right}
use Rattle.work_places.specs.Arrays.{at, begin, Leaf, Linked, OneToN, Has, filled, cross_at}
use Rattle.tanglegram.proofs.ListSums.{sum_ext}
use Rattle.work_places.proofs.OneToOne.{range-leaves, suc-pred, perm-leaves, place-leaf, at-place-leaf, to-leaf, back-leaf, back_to}
use Rattle.work_places.proofs.Has.{filled-has, has-at, has-linked, has_distinct, has-apart, has-pairs, has-across}

-- ---- the arrays

module _ (n : ℕ) (links : List ℕ) (one : OneToN n links) where
  -- the far ends, from the links and the places of the right leaves
  pub far_has : (τ right far out : List ℕ) → Has n right (place τ) → far ≡ filled (λ a. at right (to links a)) n out →
      Has n far (end (take n links) τ)
  far_has τ right far out holds e =
      let filled-far = filled-has (λ a. at right (to links a)) n far out e in
      record { each = each_zip (range 1 n) (λ a f h. f ∙ found a h) filled-far.each (range-leaves n) }
    where
      found : (a : ℕ) → Leaf n a → at right (to links a) ≡ end (take n links) τ a
      found a h =
          let kept : to (take n links) a ≡ to links a = get_or-take n links (pred a) 0 (omega (arith, suc-pred a h.0, h.1)) in
          ap (at right) (sym kept) ∙ has-at n right (place τ) holds (to (take n links) a) (to-leaf n (take n links) one a h)

  -- the near ends, from the links and the places of the left leaves
  pub near_has : (σ left near out : List ℕ) → Has n left (place σ) → near ≡ filled (λ c. at left (back (take n links) c)) n out →
      Has n near (begin (take n links) σ)
  near_has σ left near out holds e =
      let filled-near = filled-has (λ c. at left (back (take n links) c)) n near out e in
      record { each = each_zip (range 1 n) (λ c f h. f ∙ found c h) filled-near.each (range-leaves n) }
    where
      found : (c : ℕ) → Leaf n c → at left (back (take n links) c) ≡ begin (take n links) σ c
      found c h = has-at n left (place σ) holds (back (take n links) c) (back-leaf n (take n links) one c h)

-- ---- the left side sees the right one

module _ (n : ℕ) (ps τ far : List ℕ) (holds : Has n far (end ps τ)) where
  -- links of different leaves end at different places below 512
  module _ (one : Permᴰ ps (range 1 n)) (d : Permᴰ τ (range 1 n)) where
    end_below : (a : ℕ) → Leaf n a → end ps τ a < n
    end_below a h = place-leaf n τ d (to ps a) (to-leaf n ps one a h)

    end_undone : (a : ℕ) → Leaf n a → back ps (get_or τ (end ps τ a) 0) ≡ a
    end_undone a h = ap (back ps) (at-place-leaf n τ d (to ps a) (to-leaf n ps one a h)) ∙ back_to n ps one a h

    pub far_linked : n ≤ 512 → (ls : List ℕ) → Each (Leaf n) ls → Each (Linked far) ls
    far_linked few = has-linked n far (end ps τ) holds few end_below

    pub far_distinct : (ls : List ℕ) → Each (Leaf n) ls → Distinct ls → Distinct (map (at far) ls)
    far_distinct = has_distinct n far (end ps τ) holds (λ p. back ps (get_or τ p 0)) end_undone

    pub far_apart : n ≤ 512 → Each (λ a. at far a < 512) (range 1 n) × Distinct (map (at far) (range 1 n))
    far_apart few = has-apart n far (end ps τ) holds few end_below (λ p. back ps (get_or τ p 0)) end_undone

  -- by seen places along a left order
  pub count-seen-left : (σ : List ℕ) → Permᴰ σ (range 1 n) → pairs (inverted (at far)) σ ≡ count n ps σ τ
  count-seen-left σ d = has-pairs n far (end ps τ) holds σ (perm-leaves n σ d) ∙ sym (count_left n ps σ τ d)

  -- across two runs of left leaves
  pub across-left : (xs ys : List ℕ) → Each (Leaf n) xs → Each (Leaf n) ys →
      across (inverted (at far)) xs ys ≡ across (seen_left ps τ) xs ys
  across-left = has-across n far (end ps τ) holds

-- ---- the right side sees the left one

module _ (n : ℕ) (ps σ near : List ℕ) (one : Permᴰ ps (range 1 n)) (holds : Has n near (begin ps σ)) where
  -- links of different leaves begin at different places below 512
  module _ (d : Permᴰ σ (range 1 n)) where
    begin-below : (c : ℕ) → Leaf n c → begin ps σ c < n
    begin-below c h = place-leaf n σ d (back ps c) (back-leaf n ps one c h)

    begin_undone : (c : ℕ) → Leaf n c → to ps (get_or σ (begin ps σ c) 0) ≡ c
    begin_undone c h = ap (to ps) (at-place-leaf n σ d (back ps c) (back-leaf n ps one c h)) ∙ at-place-leaf n ps one c h

    pub near_linked : n ≤ 512 → (ls : List ℕ) → Each (Leaf n) ls → Each (Linked near) ls
    near_linked few = has-linked n near (begin ps σ) holds few begin-below

    pub near_distinct : (ls : List ℕ) → Each (Leaf n) ls → Distinct ls → Distinct (map (at near) ls)
    near_distinct = has_distinct n near (begin ps σ) holds (λ p. to ps (get_or σ p 0)) begin_undone

    pub near_apart : n ≤ 512 → Each (λ c. at near c < 512) (range 1 n) × Distinct (map (at near) (range 1 n))
    near_apart few = has-apart n near (begin ps σ) holds few begin-below (λ p. to ps (get_or σ p 0)) begin_undone

  -- by seen places along a right order
  pub count-seen-right : (τ : List ℕ) → Permᴰ τ (range 1 n) → pairs (inverted (at near)) τ ≡ count n ps σ τ
  count-seen-right τ d =
      has-pairs n near (begin ps σ) holds τ (perm-leaves n τ d) ∙ sym (count-right n ps one σ τ d)

  -- across two runs of right leaves
  pub across-right : (xs ys : List ℕ) → Each (Leaf n) xs → Each (Leaf n) ys →
      across (inverted (at near)) xs ys ≡ across (seen_right ps σ) xs ys
  across-right = has-across n near (begin ps σ) holds

-- ---- link by link

module _ (n : ℕ) (ps σ τ left far : List ℕ) (l : Has n left (place σ)) (f : Has n far (end ps τ)) where
  -- the two ends of a link
  abbrev CountEnds : ℕ → Type 0
  CountEnds a = (at left a ≡ place σ a) × (at far a ≡ end ps τ a)

  ends : Each CountEnds (range 1 n)
  ends = each_zip (range 1 n) (λ a p q. (p, q)) l.each f.each

  same_cross : (a b : ℕ) → CountEnds a → CountEnds b → cross_at left far a b ≡ left_cross ps σ τ a b
  same_cross a b p q = rw (p.0, p.1, q.0, q.1) refl

  -- pair by pair
  pub count_pair_by_pair : pairs (cross_at left far) (range 1 n) ≡ count n ps σ τ
  unfolding count
  count_pair_by_pair =
      pairs_ext (cross_at left far) (left_cross ps σ τ) (range 1 n) (each_pairwise (range 1 n) same_cross ends)

  pub displaced-is : sum (λ a. squared (at left a) (at far a)) (range 1 n) ≡ displacement n ps σ τ
  unfolding displacement
  displaced-is =
      sum_ext (λ a. squared (at left a) (at far a)) (λ a. squared (place σ a) (end ps τ a)) (range 1 n)
      (each_map (range 1 n) (λ a p. ap₂ squared p.0 p.1) ends)

  -- both ends of each link stand below 512, as `displaced` asks
  pub ends-below : Permᴰ ps (range 1 n) → Permᴰ σ (range 1 n) → Permᴰ τ (range 1 n) → n ≤ 512 →
      Each (λ a. (at left a < 512) × (at far a < 512)) (range 1 n)
  ends-below one dσ dτ few =
      each_zip (range 1 n)
      (λ a p h. (omega (arith, p.0, place-leaf n σ dσ a h), omega (arith, p.1, place-leaf n τ dτ (to ps a) (to-leaf n ps one a h))))
      ends (range-leaves n)

  -- the two ways of counting agree
  pub ways_agree : Permᴰ σ (range 1 n) → pairs (inverted (at far)) σ ≡ pairs (cross_at left far) (range 1 n)
  ways_agree d = count-seen-left n ps τ far f σ d ∙ sym count_pair_by_pair
