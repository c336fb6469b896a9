-- Arrays that have the value of a function for each leaf: those that were filled with it, their far places where the function
-- can be undone, and the sums over pairs and runs of leaves, which may be read off the array.
use Prim.Native.Nat.{ℕ, pred, ◌+◌, ◌≤◌, ◌<◌}
use mathlib.Core.Path.{◌≡◌, sym, ap, ap₂, ◌∙◌}
use mathlib.Core.List.{List, [], ◌∷◌, map}
use mathlib.Core.Logic.{◌≢◌}
use native.Mathlib.Omega.{arith}
use lib.Dec.{ltb}
use Rattle.tanglegram.specs.Lists.{Each, Distinct, range, bit}
use Rattle.tanglegram.specs.Crossings.{pairs, across, inverted}
use Rattle.tanglegram.proofs.Lists.{each_map, each-mem, each_pairwise, range-each, range_distinct, mem-range}
use Rattle.tanglegram.proofs.Sums.{pairs_ext, across_ext}
use Rattle.work_places.specs.Arrays.{at, Leaf, Linked, Has, filled}
use Rattle.work_places.proofs.OneToOne.{suc-pred, range-leaves}
use Rattle.work_places.proofs.Arrays.{filled_at}

-- what is filled with f has f
pub filled-has : (f : ℕ → ℕ) (n : ℕ) (xs out : List ℕ) → xs ≡ filled f n out → Has n xs f
filled-has f n xs out e = record { each = range-each (λ a. at xs a ≡ f a) 1 n found }
  where
    found : (a : ℕ) → 1 ≤ a → a < 1 + n → at xs a ≡ f a
    found a l u = let s = suc-pred a l in ap (λ ys. at ys a) e ∙ filled_at f n out (pred a) (omega (arith, s)) ∙ ap f s

-- different under f, where g undoes it
pub distinct_map : (f g : ℕ → ℕ) (xs : List ℕ) → Each (λ a. g (f a) ≡ a) xs → Distinct xs → Distinct (map f xs)
distinct_map f g [] e d = tt
distinct_map f g (x ∷ xs) e d = (apart xs e.1 d.0, distinct_map f g xs e.1 d.1)
  where
    apart : (ys : List ℕ) → Each (λ a. g (f a) ≡ a) ys → Each (λ y. x ≢ y) ys → Each (λ q. f x ≢ q) (map f ys)
    apart [] e d = tt
    apart (y ∷ ys) u d = ((λ z. d.0 (sym e.0 ∙ ap g z ∙ u.0)), apart ys u.1 d.1)

module _ (n : ℕ) (xs : List ℕ) (f : ℕ → ℕ) (holds : Has n xs f) where
  pub has-at : (a : ℕ) → Leaf n a → at xs a ≡ f a
  has-at a h = each-mem (λ a. at xs a ≡ f a) holds.each (mem-range a 1 n h.0 (omega (arith, h.1)))

  -- leaves whose links end below 512, each at another place
  pub has-linked : n ≤ 512 → ((a : ℕ) → Leaf n a → f a < n) → (ls : List ℕ) → Each (Leaf n) ls → Each (Linked xs) ls
  has-linked few below ls = each_map ls (λ a h. (h.0, omega (arith, h.1), omega (arith, has-at a h, below a h)))

  pub has_distinct : (g : ℕ → ℕ) → ((a : ℕ) → Leaf n a → g (f a) ≡ a) → (ls : List ℕ) → Each (Leaf n) ls → Distinct ls →
      Distinct (map (at xs) ls)
  has_distinct g undoes ls h d = distinct_map (at xs) g ls (each_map ls (λ a l. ap g (has-at a l) ∙ undoes a l) h) d

  -- so all leaves, as `count_seen` asks
  pub has-apart : n ≤ 512 → ((a : ℕ) → Leaf n a → f a < n) → (g : ℕ → ℕ) → ((a : ℕ) → Leaf n a → g (f a) ≡ a) →
      Each (λ a. at xs a < 512) (range 1 n) × Distinct (map (at xs) (range 1 n))
  has-apart few below g undoes =
      let leaves = range-leaves n in (
        each_map (range 1 n) (λ a l. l.2) (has-linked few below (range 1 n) leaves),
        has_distinct g undoes (range 1 n) leaves (range_distinct 1 n),
      )

  -- by the array and by f the same leaves are inverted
  has-inverted : (a b : ℕ) → Leaf n a → Leaf n b → inverted (at xs) a b ≡ inverted f a b
  has-inverted a b h k = ap₂ (λ p q. bit (ltb q p)) (has-at a h) (has-at b k)

  pub has-pairs : (ls : List ℕ) → Each (Leaf n) ls → pairs (inverted (at xs)) ls ≡ pairs (inverted f) ls
  has-pairs ls h = pairs_ext (inverted (at xs)) (inverted f) ls (each_pairwise ls has-inverted h)

  pub has-across : (ls ms : List ℕ) → Each (Leaf n) ls → Each (Leaf n) ms →
      across (inverted (at xs)) ls ms ≡ across (inverted f) ls ms
  has-across ls ms h k =
      across_ext (inverted (at xs)) (inverted f) ls ms (each_map ls (λ a p. each_map ms (λ b q. has-inverted a b p q) k) h)
