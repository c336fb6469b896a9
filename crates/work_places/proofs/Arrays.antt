-- Arrays by leaf: what stands in the first n entries, an array filled from the front, and one filled at the places that a
-- one-to-one list names.
use Prim.Native.Nat.{ℕ, zero, suc, pred, ◌+◌, ◌-◌, ◌≤◌, ◌<◌}
use mathlib.Core.Path.{◌≡◌, refl, sym, ap, ◌∙◌, subst}
use mathlib.Core.List.{List, [], ◌∷◌, ◌++◌, map, map-append, map-map}
use mathlib.Core.Logic.{◌≢◌}
use native.Mathlib.Decide.{dec_lt}
use native.Mathlib.Numerals.{add-one, sub-one}
use native.Mathlib.Omega.{arith}
use lib.ListN.{length, get_or, set, take, drop, drop_of_length-le, length-append, length-take, length-drop, length-set}
use lib.ListN.{length-map, get_or-append}
use lib.Seq.{take-add, drop-cons, get_or-take, get_or-drop, get_or-append-add, append_snoc}
use lib.Seq.{length-take-le, get_or-set_same, get_or-set_other, set_at, get_or_at, take-suc, ext_get_or}
use Rattle.std.proofs.lemmas.List.{append-nil, take_all, take-append-le}
use Rattle.std.proofs.lemmas.Slice.{drop-append-drop}
use Rattle.tanglegram.specs.Lists.{Each, Distinct, range, place}
use Rattle.tanglegram.specs.Crossings.{to}
use Rattle.tanglegram.proofs.Lists.{each_map, each-mem, each-split, pairwise_split, range-each, length-range, mem-range, mem-at}
use Rattle.work_places.specs.Arrays.{Leaf, OneToN, along, filled}
use Rattle.work_places.proofs.OneToOne.{suc-pred, perm-length, perm-leaves, place-leaf, at-place-leaf, place-at-leaf}

-- ---- the first entries

pub each_entry : (P : ℕ → Type 0) (xs : List ℕ) (n i : ℕ) → n ≤ length xs → Each P (take n xs) → i < n → P (get_or xs i 0)
each_entry P xs n i h e l =
    subst P (get_or-take n xs i 0 l) (each-mem P e (mem-at (take n xs) i (omega (arith, length-take n xs))))

pub each_first : (P : ℕ → Type 0) (xs : List ℕ) (i n : ℕ) → i ≤ n → Each P (take n xs) → Each P (take i xs)
each_first P xs i n h e =
    let all : n ≡ i + (n - i) = omega arith in
    let parts = ap (λ m. take m xs) all ∙ take-add i (n - i) xs in
    (each-split P (take i xs) (take (n - i) (drop i xs)) (subst (Each P) parts e)).0

pub distinct_first : (f : ℕ → ℕ) (xs : List ℕ) (i n : ℕ) → i ≤ n → Distinct (map f (take n xs)) → Distinct (map f (take i xs))
distinct_first f xs i n h d =
    let all : n ≡ i + (n - i) = omega arith in
    let rest = take (n - i) (drop i xs) in
    let parts = ap (λ m. map f (take m xs)) all ∙ ap (map f) (take-add i (n - i) xs) ∙ map-append f (take i xs) rest in
    (pairwise_split (λ x y. x ≢ y) (map f (take i xs)) (map f rest) (subst Distinct parts d)).0

pub each_mapped : (P : ℕ → Type 0) (f : ℕ → ℕ) (xs : List ℕ) → Each (λ x. P (f x)) xs → Each P (map f xs)
each_mapped P f [] e = tt
each_mapped P f (x ∷ xs) e = (e.0, each_mapped P f xs e.1)

pub each-leaf : (P : ℕ → Type 0) (n i : ℕ) → Each P (range 1 n) → i < n → P (suc i)
each-leaf P n i e h = each-mem P e (mem-range (suc i) 1 n (omega arith) (omega arith))

module _ (n : ℕ) (xs : List ℕ) (one : OneToN n xs) where
  pub one_long : n ≤ length xs
  one_long = omega (arith, perm-length n (take n xs) one, length-take n xs)

  pub one_leaf : (i : ℕ) → i < n → Leaf n (get_or xs i 0)
  one_leaf i h = each_entry (Leaf n) xs n i one_long (perm-leaves n (take n xs) one) h

  pub one_to : Each (λ a. Leaf n (to xs a)) (range 1 n)
  one_to = range-each (λ a. Leaf n (to xs a)) 1 n (λ a l u. one_leaf (pred a) (omega (arith, suc-pred a l)))

  -- two entries are different leaves
  one_apart : (j i : ℕ) → j < i → i < n → get_or xs j 0 ≢ get_or xs i 0
  one_apart j i l h e =
      let spot : (k : ℕ) → k < n → place (take n xs) (get_or xs k 0) ≡ k =
      λ k u. ap (place (take n xs)) (sym (get_or-take n xs k 0 u)) ∙ place-at-leaf n (take n xs) one k u in
      omega (arith, spot j (omega arith), spot i h, ap (place (take n xs)) e)

  -- the leaf a stands at its place
  one_there : (a : ℕ) → Leaf n a → get_or xs (place (take n xs) a) 0 ≡ a
  one_there a h =
      sym (get_or-take n xs (place (take n xs) a) 0 (place-leaf n (take n xs) one a h)) ∙ at-place-leaf n (take n xs) one a h

-- ---- filled from the front

get_d_filled-range : (f : ℕ → ℕ) (b n k : ℕ) → k < n → get_or (map f (range b n)) k 0 ≡ f (b + k)
unfolding range
get_d_filled-range f b zero k h = absurd (omega arith)
get_d_filled-range f b (suc n) zero h = let e : b ≡ b + 0 = omega arith in ap f e
get_d_filled-range f b (suc n) (suc k) h =
    let e : suc b + k ≡ b + suc k = omega arith in get_d_filled-range f (suc b) n k (omega arith) ∙ ap f e

module _ (f : ℕ → ℕ) where
  front_length : (n : ℕ) → length (map f (range 1 n)) ≡ n
  front_length n = length-map (range 1 n) f ∙ length-range 1 n

  pub filled_at : (n : ℕ) (out : List ℕ) (k : ℕ) → k < n → get_or (filled f n out) k 0 ≡ f (suc k)
  filled_at n out k h =
      let e : 1 + k ≡ suc k = omega arith in
      get_or-append (map f (range 1 n)) (drop n out) 0 k (omega (arith, front_length n)) ∙ get_d_filled-range f 1 n k h ∙ ap f e

  pub filled-beyond : (n : ℕ) (out : List ℕ) (k : ℕ) → n ≤ k → get_or (filled f n out) k 0 ≡ get_or out k 0
  filled-beyond n out k h =
      let past-front : k ≡ length (map f (range 1 n)) + (k - n) = omega (arith, front_length n) in
      let back : n + (k - n) ≡ k = omega arith in
      ap (λ j. get_or (filled f n out) j 0) past-front
      ∙ get_or-append-add (map f (range 1 n)) (drop n out) (k - n) 0
      ∙ get_or-drop n out (k - n) 0
      ∙ ap (λ j. get_or out j 0) back

  pub length-filled : (n : ℕ) (out : List ℕ) → n ≤ length out → length (filled f n out) ≡ length out
  length-filled n out h = omega (arith, length-append (map f (range 1 n)) (drop n out), front_length n, length-drop n out)

-- ---- filled at named places

-- After i turns: for each of the first i keys a, the value of its place stands at a - 1, and beyond n the array is as it was.
pub record Written (n : ℕ) (keys : List ℕ) (v : ℕ → ℕ) (found out : List ℕ) (i : ℕ) : Type 0 where
  pub within : i ≤ n
  pub long : length out ≡ length found
  pub wrote : (j : ℕ) → j < i → get_or out (pred (get_or keys j 0)) 0 ≡ v j
  pub kept : (k : ℕ) → n ≤ k → get_or out k 0 ≡ get_or found k 0

module _ (n : ℕ) (keys : List ℕ) (v : ℕ → ℕ) (found out : List ℕ) (i : ℕ)
    (one : OneToN n keys) (room : n ≤ length found) (w : Written n keys v found out i) where
  pub written-more : i < n → Written n keys v found (set out (get_or keys i 0 - 1) (v i)) (i + 1)
  written-more h = record {
    within = omega arith;
    long = length-set out (get_or keys i 0 - 1) (v i) ∙ w.long;
    wrote = λ j l. go j (dec_lt j i) l;
    kept = λ k l. get_or-set_other out (get_or keys i 0 - 1) k (v i) 0 (λ e. omega (arith, leaf.0, leaf.1)) ∙ w.kept k l;
  }
    where
      leaf : Leaf n (get_or keys i 0)
      leaf = one_leaf n keys one i h

      go : (j : ℕ) → Dec (j < i) → j < i + 1 → get_or (set out (get_or keys i 0 - 1) (v i)) (pred (get_or keys j 0)) 0 ≡ v j
      go j (yes l) u =
          let other = one_apart n keys one j i l h in
          let before = one_leaf n keys one j (omega arith) in
          get_or-set_other out (get_or keys i 0 - 1) (pred (get_or keys j 0)) (v i) 0
          (λ e. other (omega (arith, leaf.0, before.0, sub-one (get_or keys j 0)))) ∙ w.wrote j l
      go j (no l) u =
          let same : j ≡ i = omega arith in
          rw same (subst (λ k. get_or (set out (get_or keys i 0 - 1) (v i)) k 0 ≡ v i) (sub-one (get_or keys i 0))
          (get_or-set_same out (get_or keys i 0 - 1) (v i) 0 (omega (arith, leaf.0, leaf.1, w.long))))

  pub written_all : n ≤ i → out ≡ filled (λ a. v (place (take n keys) a)) n found
  written_all h =
      let f : ℕ → ℕ = λ a. v (place (take n keys) a) in
      ext_get_or 0 out (filled f n found) (w.long ∙ sym (length-filled f n found room)) (λ k u. go k (dec_lt k n))
    where
      go : (k : ℕ) → Dec (k < n) → get_or out k 0 ≡ get_or (filled (λ a. v (place (take n keys) a)) n found) k 0
      go k (yes l) =
          let leaf : Leaf n (suc k) = omega arith in
          sym (ap (λ a. get_or out (pred a) 0) (one_there n keys one (suc k) leaf))
          ∙ w.wrote (place (take n keys) (suc k)) (omega (arith, place-leaf n (take n keys) one (suc k) leaf))
          ∙ sym (filled_at (λ a. v (place (take n keys) a)) n found k l)
      go k (no l) =
          let far : n ≤ k = omega arith in
          w.kept k far ∙ sym (filled-beyond (λ a. v (place (take n keys) a)) n found k far)

-- ---- a list written over from the front

module _ (f : ℕ → ℕ) (xs : List ℕ) (i : ℕ) (h : i < length xs) where
  over-long : length (map f (take i xs)) ≡ i
  over-long = simp length-map (omega (arith, length-take i xs))

  over-next : along f i xs ≡ map f (take i xs) ++ get_or xs i 0 ∷ drop (suc i) xs
  over-next = ap (λ l. map f (take i xs) ++ l) (drop-cons xs i 0 h)

  -- the next entry is still as it was
  pub along-next : get_or (along f i xs) i 0 ≡ get_or xs i 0
  along-next = rw over-next (get_or_at (map f (take i xs)) (get_or xs i 0) (drop (suc i) xs) 0 i over-long)

  pub along-more : set (along f i xs) i (f (get_or xs i 0)) ≡ along f (i + 1) xs
  along-more =
      let x = get_or xs i 0 in
      let rest = drop (suc i) xs in
      ap (λ l. set l i (f x)) over-next
      ∙ set_at (map f (take i xs)) x rest (f x) i over-long
      ∙ sym (append_snoc (map f (take i xs)) (f x) rest)
      ∙ ap (λ l. l ++ rest) (sym (map-append f (take i xs) (x ∷ [])))
      ∙ rw (add-one i, take-suc xs i 0 h) refl

-- all of the first n entries are written over, and what stands beyond them is as it was
pub along-all : (f : ℕ → ℕ) (n i : ℕ) (xs : List ℕ) → length (take n xs) ≤ i → along f i (take n xs) ++ drop n xs ≡ along f n xs
along-all f n i xs h =
    rw (take_all i (take n xs) h, drop_of_length-le (take n xs) h) (ap (λ l. l ++ drop n xs) (append-nil (map f (take n xs))))

-- ---- links copied over the front of an array

module _ (links out : List ℕ) (n : ℕ) (h : n ≤ length links) where
  links_along : map (to links) (range 1 n) ≡ take n links
  links_along =
      ext_get_or 0 (map (to links) (range 1 n)) (take n links) (front_length (to links) n ∙ sym (length-take-le n links h))
      (λ k u. let l : k < n = omega (arith, front_length (to links) n) in
      get_d_filled-range (to links) 1 n k l ∙ here k ∙ sym (get_or-take n links k 0 l))
    where
      here : (k : ℕ) → to links (1 + k) ≡ get_or links k 0
      here k = let e : 1 + k ≡ suc k = omega arith in ap (to links) e

  pub copied_front : take n (take n links ++ drop n out) ≡ take n links
  copied_front =
      let long = length-take-le n links h in
      take-append-le n (take n links) (drop n out) (omega arith) ∙ take_all n (take n links) (omega arith)

  pub copied_leaves : n ≤ 512 → Each (λ a. Leaf n (to links a)) (range 1 n) → Each (Leaf 512) (take n (take n links ++ drop n out))
  copied_leaves few each =
      rw (copied_front, ← links_along) (each_map (map (to links) (range 1 n)) (λ a l. (l.0, omega (arith, l.1)))
      (each_mapped (Leaf n) (to links) (range 1 n) each))

  pub copied_along : (f : ℕ → ℕ) → along f n (take n links ++ drop n out) ≡ filled (λ a. f (to links a)) n out
  copied_along f =
      rw (copied_front, drop-append-drop n out (take n links) n (omega arith) (length-take-le n links h), ← links_along)
      (ap (λ l. l ++ drop n out) (map-map f (to links) (range 1 n)))
