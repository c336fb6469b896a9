-- Stores from a place on, one after the other (`sets`, of the library): a run of them in two parts is the first part and then the
-- second, from the place after it; what a loop stores next; and of two runs, the first before the second, either may be stored first.
use Prim.Native.Nat.{ℕ, suc, ◌+◌, ◌≤◌, ◌<◌}
use mathlib.Core.Path.{◌≡◌, refl, sym, ap, ◌∙◌}
use mathlib.Core.List.{List, [], ◌∷◌, ◌++◌}
use native.Mathlib.Nat.{add-zero, suc-add, add-suc}
use native.Mathlib.Numerals.{add-one}
use native.Mathlib.Omega.{arith}
use lib.ListN.{length, get_or, set, take}
use lib.Seq.{sets, set_comm, take-suc, length-take-le}

module _ {A : Type 0} where
  pub sets-append : (a b l : List A) (i : ℕ) → sets l i (a ++ b) ≡ sets (sets l i a) (i + length a) b
  sets-append [] b l i = rw add-zero
  sets-append (x ∷ a) b l i = sets-append a b (set l i x) (suc i) ∙ rw (suc-add, add-suc)

  -- the next entry of a list after its first i, and what a loop that stores its entries stores next, at place k
  pub take_more : (xs : List A) (i : ℕ) (d : A) → i < length xs → take (i + 1) xs ≡ take i xs ++ (get_or xs i d ∷ [])
  take_more xs i d h = rw (add-one i) (take-suc xs i d h)

  pub store_entry : (xs l : List A) (at i k : ℕ) (d : A) → k ≡ at + i → i < length xs →
      set (sets l at (take i xs)) k (get_or xs i d) ≡ sets l at (take (i + 1) xs)
  store_entry xs l at i k d e h =
      let le : i ≤ length xs = omega arith in
      sym (ap (sets l at) (take_more xs i d h) ∙ sets-append (take i xs) (get_or xs i d ∷ []) l at ∙ rw (length-take-le i xs le, e) refl)

set-sets : (b l : List ℕ) (i j x : ℕ) → i < j → sets (set l i x) j b ≡ set (sets l j b) i x
set-sets [] l i j x h = refl
set-sets (y ∷ b) l i j x h = rw (set_comm l i j x y (omega arith)) (set-sets b (set l j y) i (suc j) x (omega arith))

pub sets_comm : (a b l : List ℕ) (i j : ℕ) → i + length a ≤ j → sets (sets l i a) j b ≡ sets (sets l j b) i a
sets_comm [] b l i j h = refl
sets_comm (x ∷ a) b l i j h = sets_comm a b (set l i x) (suc i) j (omega arith) ∙ rw (set-sets b l i j x (omega arith)) refl
