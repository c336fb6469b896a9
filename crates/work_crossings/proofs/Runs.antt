-- Counting along a list: what one leaf more adds to the sums over pairs, by seen places and pair by pair.
use Prim.Native.Nat.{ℕ, suc, ◌+◌, ◌≤◌, ◌<◌}
use mathlib.Core.Path.{◌≡◌, refl, sym, ap, ap₂, ◌∙◌}
use mathlib.Core.Bool.{Bool}
use mathlib.Core.List.Permᴰ
use mathlib.Core.List.{List, [], ◌∷◌, ◌++◌, map, map-append}
use native.Mathlib.Nat.{mul-le-mul}
use native.Mathlib.Numerals.{add-one}
use native.Mathlib.Omega.{arith}
use lib.Dec.{ltb}
use lib.ListN.{length, get_or, take, replicate, length-take}
use lib.Seq.{take-suc}
use Rattle.std.specs.List.{sum_by}
use Rattle.std.proofs.lemmas.List.Sums.{sum_by-cons}
use Rattle.tanglegram.specs.Lists.{Each, Distinct, range, bit}
use Rattle.tanglegram.specs.Entanglement.{sum}
use Rattle.tanglegram.specs.Crossings.{over, across, pairs, inverted}
use Rattle.tanglegram.proofs.Lists.{each_map, each_zip, distinct_perm, bit-most}
use Rattle.tanglegram.proofs.Sums.{over-append, pairs-snoc, pairs-most}
use Rattle.work_places.specs.Arrays.{at, Linked, OneToN, falls}
use Rattle.work_seen_places.specs.Seen.{mark_at, mark_all, past, above}
use Rattle.work_places.proofs.OneToOne.{perm-leaves, perm-each}
use Rattle.tanglegram.proofs.ListSums.{range_last}
use Rattle.work_seen_places.proofs.SeenPlaces.{past_words, mark_all-last}
use Rattle.work_places.proofs.Arrays.{each_entry, each_first, each_mapped, distinct_first, one_long}

-- ---- pair by pair

across-snoc : (w : ℕ → ℕ → ℕ) (xs : List ℕ) (x : ℕ) (ys : List ℕ) → across w (xs ++ (x ∷ [])) ys ≡ across w xs ys + over w x ys
unfolding across
across-snoc w [] x ys = omega arith
across-snoc w (z ∷ xs) x ys = omega (arith, across-snoc w xs x ys)

-- one leaf more in the first list
pub across-last : (w : ℕ → ℕ → ℕ) (j b : ℕ) → across w (range 1 (j + 1)) (b ∷ []) ≡ across w (range 1 j) (b ∷ []) + w (suc j) b
unfolding over
across-last w j b =
    let e : 1 + j ≡ suc j = omega arith in
    rw (add-one j, range_last 1 j, e) (omega (arith, across-snoc w (range 1 j) (suc j) (b ∷ [])))

pub pairs-last : (w : ℕ → ℕ → ℕ) (i : ℕ) → pairs w (range 1 (i + 1)) ≡ pairs w (range 1 i) + across w (range 1 i) (suc i ∷ [])
pairs-last w i =
    let e : 1 + i ≡ suc i = omega arith in
    rw (add-one i, range_last 1 i, e) (pairs-snoc w (range 1 i) (suc i))

-- 512 leaves make at most 131,072 pairs
pub pairs_fit : (t : ℕ → ℕ → Bool) (xs : List ℕ) → length xs ≤ 512 → pairs (λ a b. bit (t a b)) xs ≤ 131072
pairs_fit t xs l = omega (arith, pairs-most (λ a b. bit (t a b)) (λ a b. bit-most (t a b)) xs, mul-le-mul l l)

-- ---- by seen places

-- the crossings of y with those before it are their far places above its own
across-above : (R : ℕ → ℕ) (xs : List ℕ) (y : ℕ) → across (inverted R) xs (y ∷ []) ≡ above (R y) (map R xs)
unfolding across over above sum
across-above R [] y = refl
across-above R (x ∷ xs) y = omega (arith, across-above R xs y)

module _ (far xs : List ℕ) where
  abbrev R : ℕ → ℕ
  R = at far

  -- the far places of the leaves passed, and of one more
  seen_last : (i : ℕ) → i < length xs → map R (take (i + 1) xs) ≡ map R (take i xs) ++ (R (get_or xs i 0) ∷ [])
  seen_last i h = rw add-one (ap (map R) (take-suc xs i 0 h) ∙ map-append R (take i xs) (get_or xs i 0 ∷ []))

  pub marks_last : (w : List ℕ) (i : ℕ) → i < length xs →
      mark_at (mark_all w (map R (take i xs))) (R (get_or xs i 0)) ≡ mark_all w (map R (take (i + 1) xs))
  marks_last w i h = sym (ap (mark_all w) (seen_last i h) ∙ mark_all-last w (map R (take i xs)) (R (get_or xs i 0)))

  -- the seen places past a leaf's own are its crossings with the leaves passed
  past-seen : (k y : ℕ) → Each (Linked far) (take k xs) → Distinct (map R (take k xs)) →
      past (mark_all (replicate 8 0) (map R (take k xs))) (R y) ≡ across (inverted R) (take k xs) (y ∷ [])
  past-seen k y l d =
      past_words (map R (take k xs)) (R y) (each_mapped (λ p. p < 512) R (take k xs) (each_map (take k xs) (λ a h. h.2) l)) d
      ∙ sym (across-above R (take k xs) y)

-- ---- across two runs

across-append : (w : ℕ → ℕ → ℕ) (xs ys zs : List ℕ) → across w xs (ys ++ zs) ≡ across w xs ys + across w xs zs
unfolding across
across-append w [] ys zs = refl
across-append w (x ∷ xs) ys zs = omega (arith, across-append w xs ys zs, over-append w x ys zs)

-- a place is compared with each of a run
pub falls-sum : (xs : List ℕ) (q : ℕ) → sum_by (λ p. falls p q) xs ≡ across falls xs (q ∷ [])
unfolding across over
falls-sum [] q = refl
falls-sum (x ∷ xs) q = sum_by-cons (λ p. falls p q) x xs ∙ omega (arith, falls-sum xs q)

pub falls-most : (xs : List ℕ) (q : ℕ) → across falls xs (q ∷ []) ≤ length xs
unfolding across over
falls-most [] q = omega arith
falls-most (x ∷ xs) q = omega (arith, falls-most xs q, bit-most (ltb q x))

-- one more in the second
pub across-next : (w : ℕ → ℕ → ℕ) (xs ys : List ℕ) (j : ℕ) → j < length ys →
    across w xs (take (j + 1) ys) ≡ across w xs (take j ys) + across w xs (get_or ys j 0 ∷ [])
across-next w xs ys j h = rw (add-one j, take-suc ys j 0) (across-append w xs (take j ys) (get_or ys j 0 ∷ []))

-- the far places of leaves fall as the leaves' links cross
over-falls : (R : ℕ → ℕ) (x : ℕ) (ys : List ℕ) → over falls (R x) (map R ys) ≡ over (inverted R) x ys
unfolding over
over-falls R x [] = refl
over-falls R x (y ∷ ys) = omega (arith, over-falls R x ys)

pub across-falls : (R : ℕ → ℕ) (xs ys : List ℕ) → across falls (map R xs) (map R ys) ≡ across (inverted R) xs ys
unfolding across
across-falls R [] ys = refl
across-falls R (x ∷ xs) ys = omega (arith, over-falls R x ys, across-falls R xs ys)

-- ---- along an order

-- After i leaves of an order of n: their far places are seen, and their crossings counted.
pub record SeenRun (far order : List ℕ) (n : ℕ) (w : List ℕ) (count i : ℕ) : Type 0 where
  pub within : i ≤ n
  pub words : w ≡ mark_all (replicate 8 0) (map (at far) (take i order))
  pub counted : count ≡ pairs (inverted (at far)) (take i order)

pub run_none : (far order : List ℕ) (n : ℕ) → SeenRun far order n (replicate 8 0) 0 0
unfolding mark_all pairs
run_none far order n = record { within = omega arith; words = refl; counted = refl }

module _ (far order : List ℕ) (n : ℕ) (w : List ℕ) (count i : ℕ) (few : n ≤ 512) (one : OneToN n order)
    (below : Each (λ a. at far a < 512) (range 1 n)) (apart : Distinct (map (at far) (range 1 n)))
    (run : SeenRun far order n w count i) (h : i < n) where
  each-linked : Each (Linked far) (take n order)
  each-linked =
      let leaves = perm-leaves n (take n order) one in
      let far-below = perm-each n (take n order) one (λ a. at far a < 512) below in
      each_zip (take n order) (λ a l b. (l.0, omega (arith, l.1), b)) leaves far-below

  pub run-linked : Linked far (get_or order i 0)
  run-linked = each_entry (Linked far) order n i (one_long n order one) each-linked h

  run_past : past w (at far (get_or order i 0)) ≡ across (inverted (at far)) (take i order) (get_or order i 0 ∷ [])
  run_past =
      rw run.words (past-seen far order i (get_or order i 0) (each_first (Linked far) order i n run.within each-linked)
      (distinct_first (at far) order i n run.within (distinct_perm (Permᴰ.symm (Permᴰ.map (at far) one)) apart)))

  room : i < length order
  room = omega (arith, one_long n order one)

  pub run_more : SeenRun far order n (mark_at w (at far (get_or order i 0))) (count + past w (at far (get_or order i 0))) (i + 1)
  run_more = record {
    within = omega arith;
    words = rw run.words (marks_last far order (replicate 8 0) i room);
    counted =
        ap₂ ◌+◌ run.counted run_past
        ∙ sym (rw (add-one i, take-suc order i 0 room) (pairs-snoc (inverted (at far)) (take i order) (get_or order i 0)));
  }

  pub run_small : count + past w (at far (get_or order i 0)) ≤ 131072
  run_small =
      rw run_more.counted
      (pairs_fit (λ a b. ltb (at far b) (at far a)) (take (i + 1) order) (omega (arith, length-take (i + 1) order)))

pub run-all : (far order : List ℕ) (n : ℕ) (w : List ℕ) (count i : ℕ) → SeenRun far order n w count i → n ≤ i →
    count ≡ pairs (inverted (at far)) (take n order)
run-all far order n w count i run h =
    let all : i ≡ n = omega (arith, run.within) in run.counted ∙ ap (λ k. pairs (inverted (at far)) (take k order)) all
