-- A run of stores, one place after the other: what is stored next, and lists that grow at their end.
use Prim.Native.Nat.{ℕ, zero, suc, ◌+◌, ◌-◌, ◌*◌, ◌/◌, ◌%◌, ◌≤◌, ◌<◌}
use mathlib.Core.Path.{◌≡◌, refl, sym, ap, ◌∙◌}
use mathlib.Core.List.{List, [], ◌∷◌, ◌++◌, append_assoc, map}
use native.Mathlib.Numerals.{add-one}
use native.Mathlib.Omega.{arith}
use lib.ListN.{length, get_or, set, take, drop, length-drop}
use lib.Seq.{sets, sets-eq, drop-drop, length-take-le}
use borrow.Rule.Slice.PartMut.{put_mid}
use Rattle.tanglegram.specs.Lists.{range}
use Rattle.tanglegram.proofs.Lists.{map_ext, range-each}
use Rattle.tanglegram.proofs.ListSums.{range_last}
use Rattle.work_trees.proofs.Stores.{sets-append, take_more}
use Rattle.record_fields.specs.Fields.{two, numbers, bytes, split}

-- numbers read at the same places are the same where each is
pub numbers_ext : (s s' : List ℕ) (k m : ℕ) → ((i : ℕ) → i < m → two s' (k + 2 * i) ≡ two s (k + 2 * i)) → numbers s' k m ≡ numbers s k m
unfolding numbers
numbers_ext s s' k m h =
    map_ext (λ i. two s' (k + 2 * i)) (λ i. two s (k + 2 * i)) (range 0 m)
    (range-each (λ i. two s' (k + 2 * i) ≡ two s (k + 2 * i)) 0 m (λ i p q. h i (omega arith)))

-- a run from the first place on
pub sets_front : {A : Type 0} (l vs : List A) → length vs ≤ length l → sets l 0 vs ≡ vs ++ drop (length vs) l
sets_front l vs h = let e : 0 + length vs ≡ length vs = omega arith in sets-eq vs l 0 (omega arith) ∙ ap (λ k. vs ++ drop k l) e

-- what is copied to the part that begins at `at` and is as long as xs is stored there
pub copied_in : (xs l : List ℕ) (at : ℕ) → at + length xs ≤ length l → put_mid at (at + length xs - at) l xs ≡ sets l at xs
copied_in xs l at h =
    let long : at + length xs - at ≡ length xs = omega arith in
    rw long (rw (drop-drop (length xs) at l) (sym (sets-eq xs l at h ∙ append_assoc (take at l) xs (drop (at + length xs) l))))

-- a range grows at its end, and so does what is made of it
pub map-append : (f : ℕ → ℕ) (xs ys : List ℕ) → map f (xs ++ ys) ≡ map f xs ++ map f ys
map-append f [] ys = refl
map-append f (x ∷ xs) ys = ap (λ r. f x ∷ r) (map-append f xs ys)

pub map-range-end : (f : ℕ → ℕ) (n : ℕ) → map f (range 0 (n + 1)) ≡ map f (range 0 n) ++ (f n ∷ [])
map-range-end f n =
    let e : 0 + n ≡ n = omega arith in
    ap (λ k. map f (range 0 k)) (add-one n) ∙ ap (map f) (range_last 0 n) ∙ map-append f (range 0 n) ((0 + n) ∷ []) ∙ rw e refl

pub length-map-range : (f : ℕ → ℕ) (k n : ℕ) → length (map f (range k n)) ≡ n
unfolding range
length-map-range f k zero = refl
length-map-range f k (suc n) = ap suc (length-map-range f (suc k) n)

pub get_d_made : (f : ℕ → ℕ) (n i : ℕ) → i < n → get_or (map f (range 0 n)) i 0 ≡ f i
unfolding range
get_d_made f n i h = from 0 n i h ∙ ap f (omega arith)
  where
    from : (k m j : ℕ) → j < m → get_or (map f (range k m)) j 0 ≡ f (k + j)
    from k zero j p = absurd (omega arith)
    from k (suc m) zero p = ap f (omega arith)
    from k (suc m) (suc j) p = from (suc k) m j (omega arith) ∙ ap f (omega arith)

-- the number at place k of those that stand from a place on
pub entry_at : (s : List ℕ) (at m k place : ℕ) → k < m → place ≡ at + 2 * k → two s place ≡ get_or (numbers s at m) k 0
unfolding numbers
entry_at s at m k place h e = ap (two s) e ∙ sym (get_d_made (λ i. two s (at + 2 * i)) m k h)

pub length-numbers : (s : List ℕ) (at n : ℕ) → length (numbers s at n) ≡ n
unfolding numbers
length-numbers s at n = length-map-range (λ i. two s (at + 2 * i)) 0 n

pub length-bytes : (s : List ℕ) (k m : ℕ) → k + m ≤ length s → length (bytes s k m) ≡ m
length-bytes s k m h = length-take-le m (drop k s) (omega (arith, length-drop k s))

-- the next number after the first i
pub numbers_more : (s : List ℕ) (at i : ℕ) → numbers s at (i + 1) ≡ numbers s at i ++ (two s (at + 2 * i) ∷ [])
unfolding numbers
numbers_more s at i = map-range-end (λ k. two s (at + 2 * k)) i

-- ---- what a loop stores next, at place k

-- the numbers that f gives
pub store_made : (f : ℕ → ℕ) (l : List ℕ) (at i k : ℕ) → k ≡ at + i →
    set (sets l at (map f (range 0 i))) k (f i) ≡ sets l at (map f (range 0 (i + 1)))
store_made f l at i k e =
    sym (ap (sets l at) (map-range-end f i) ∙ sets-append (map f (range 0 i)) (f i ∷ []) l at ∙ rw (length-map-range f 0 i, e) refl)

-- the two bytes of an entry
pub split-append : (xs ys : List ℕ) → split (xs ++ ys) ≡ split xs ++ split ys
unfolding split
split-append [] ys = refl
split-append (x ∷ xs) ys = ap (λ r. x / 256 ∷ x % 256 ∷ r) (split-append xs ys)

pub length-split : (xs : List ℕ) → length (split xs) ≡ 2 * length xs
unfolding split
length-split [] = refl
length-split (x ∷ xs) = omega (arith, length-split xs)

pub store_two : (xs l : List ℕ) (at i : ℕ) → i < length xs →
    sets (sets l at (split (take i xs))) (at + 2 * i) (split (get_or xs i 0 ∷ [])) ≡ sets l at (split (take (i + 1) xs))
store_two xs l at i h =
    let le : i ≤ length xs = omega arith in
    let x = get_or xs i 0 in
    let e : length (split (take i xs)) ≡ 2 * i = length-split (take i xs) ∙ ap (λ n. 2 * n) (length-take-le i xs le) in
    sym (ap (λ r. sets l at (split r)) (take_more xs i 0 h)
    ∙ ap (sets l at) (split-append (take i xs) (x ∷ []))
    ∙ sets-append (split (take i xs)) (split (x ∷ [])) l at
    ∙ rw e refl)
