-- The places of leaves in an order, noted from its last entry to its first, so that each leaf keeps its first place.
use Prim.Native.Nat.{ℕ, suc, ◌+◌, ◌≤◌, ◌<◌}
use mathlib.Core.Path.{◌≡◌, refl, sym, ◌∙◌}
use mathlib.Core.List.{List, ◌∷◌}
use native.Mathlib.Decide.{ℕ_discrete}
use native.Mathlib.Nat.{add-zero, add-suc, suc-add}
use native.Mathlib.Omega.{arith}
use lib.ListN.{length, get_or, set, take, drop, replicate, length-set, length-take, length-replicate, get_or-replicate, drop_of_length-le}
use lib.Seq.{drop-cons, get_or-take, get_or-set_same, get_or-set_other}
use Rattle.tanglegram.specs.Lists.{place}
use Rattle.tanglegram.proofs.Lists.{place-head, place_tail}

-- at each leaf to n stands its place among the first n entries from entry i on, counted from the first, or n
pub record PlacesNoted (xs : List ℕ) (n : ℕ) (at : List ℕ) (i : ℕ) : Type 0 where
  pub long : length at ≡ 1024
  pub right : (v : ℕ) → v ≤ n → get_or at v 0 ≡ i + place (drop i (take n xs)) v

module _ (xs : List ℕ) (n : ℕ) (few : n ≤ 512) (many : length xs ≡ 512) where
  pub noted-none : PlacesNoted xs n (replicate 1024 n) n
  unfolding place
  noted-none = record {
    long = length-replicate 1024 n;
    right = λ v h.
        let none = drop_of_length-le (take n xs) {i = n} (omega (arith, length-take n xs)) in
        get_or-replicate 1024 v n 0 (omega arith) ∙ rw (none, add-zero) refl;
  }

  module _ (at : List ℕ) (j : ℕ) (below : j < n) (after : PlacesNoted xs n at (suc j)) where
    first_entry : drop j (take n xs) ≡ get_or xs j 0 ∷ drop (suc j) (take n xs)
    first_entry = drop-cons (take n xs) j 0 (omega (arith, length-take n xs)) ∙ rw (get_or-take n xs j 0 below) refl

    other_entry : (v : ℕ) → v ≤ n → (get_or xs j 0 ≡ v → ⊥) → get_or at v 0 ≡ j + place (drop j (take n xs)) v
    other_entry v h e =
        after.right v h ∙ rw (first_entry, place_tail (get_or xs j 0) (drop (suc j) (take n xs)) v e, add-suc, suc-add) refl

    -- an entry that is no leaf changes nothing
    pub noted-kept : n < get_or xs j 0 → PlacesNoted xs n at j
    noted-kept h = record { long = after.long; right = λ v k. other_entry v k (λ e. omega arith) }

    pub noted-set : get_or xs j 0 ≤ n → PlacesNoted xs n (set at (get_or xs j 0) j) j
    noted-set h = record { long = simp length-set after.long; right = λ v k. go v k (ℕ_discrete v (get_or xs j 0)) }
      where
        go : (v : ℕ) → v ≤ n → Dec (v ≡ get_or xs j 0) → get_or (set at (get_or xs j 0) j) v 0 ≡ j + place (drop j (take n xs)) v
        go v k (yes e) =
            let x = get_or xs j 0 in
            let new = get_or-set_same at x j 0 (omega (arith, after.long)) in
            rw (e, new, first_entry, place-head x (drop (suc j) (take n xs)), add-zero) refl
        go v k (no e) = get_or-set_other at (get_or xs j 0) v j 0 e ∙ other_entry v k (λ z. e (sym z))
