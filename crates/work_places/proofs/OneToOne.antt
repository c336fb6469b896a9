-- A list of the numbers 1 to n, each once, in any order, as an order of leaves or a list of links: its entries are leaves, each
-- leaf has its place, and entries and places undo each other.
use Prim.Native.Nat.{ℕ, suc, pred, ◌≤◌, ◌<◌}
use mathlib.Core.Path.{◌≡◌, ap, ◌∙◌}
use mathlib.Core.List.Permᴰ
use mathlib.Core.List.{List, Permᴰ, Memᴰ}
use native.Mathlib.Numerals.{sub-one}
use native.Mathlib.Omega.{arith}
use lib.ListN.{length, get_or}
use Rattle.tanglegram.specs.Lists.{Each, Distinct, place, range}
use Rattle.tanglegram.specs.Crossings.{to, back}
use Rattle.tanglegram.proofs.Lists.{each-mem, each-perm, distinct_perm, length-perm, range-each, range_distinct, length-range, mem-range}
use Rattle.tanglegram.proofs.Lists.{mem-at, mem-perm, at_place, place_at, place-below}
use Rattle.work_places.specs.Arrays.{Leaf}

pub range-leaves : (n : ℕ) → Each (Leaf n) (range 1 n)
range-leaves n = range-each (Leaf n) 1 n (λ a l u. (l, omega arith))

-- a leaf comes after the place of its entry
pub suc-pred : (a : ℕ) → 1 ≤ a → suc (pred a) ≡ a
suc-pred a h = omega (arith, sub-one a)

module _ (n : ℕ) (xs : List ℕ) (one : Permᴰ xs (range 1 n)) where
  pub perm-length : length xs ≡ n
  perm-length = length-perm one ∙ length-range 1 n

  pub perm_distinct : Distinct xs
  perm_distinct = distinct_perm (Permᴰ.symm one) (range_distinct 1 n)

  pub perm-each : (P : ℕ → Type 0) → Each P (range 1 n) → Each P xs
  perm-each P = each-perm P (Permᴰ.symm one)

  pub perm-leaves : Each (Leaf n) xs
  perm-leaves = perm-each (Leaf n) (range-leaves n)

  leaf_in : (a : ℕ) → Leaf n a → Memᴰ a xs
  leaf_in a h = mem-perm (Permᴰ.symm one) (mem-range a 1 n h.0 (omega (arith, h.1)))

  pub place-leaf : (a : ℕ) → Leaf n a → place xs a < n
  place-leaf a h = omega (arith, perm-length, place-below xs a (leaf_in a h))

  -- the entry at a leaf's place
  pub at-place-leaf : (a : ℕ) → Leaf n a → get_or xs (place xs a) 0 ≡ a
  at-place-leaf a h = each-mem (λ c. get_or xs (place xs c) 0 ≡ c) (at_place xs perm_distinct) (leaf_in a h)

  -- the place of an entry
  pub place-at-leaf : (i : ℕ) → i < n → place xs (get_or xs i 0) ≡ i
  place-at-leaf i h = place_at xs i perm_distinct (omega (arith, perm-length))

  pub to-leaf : (a : ℕ) → Leaf n a → Leaf n (to xs a)
  to-leaf a h = each-mem (Leaf n) perm-leaves (mem-at xs (pred a) (omega (arith, perm-length, suc-pred a h.0, h.1)))

  pub back-leaf : (c : ℕ) → Leaf n c → Leaf n (back xs c)
  back-leaf c h = (omega arith, omega (arith, place-leaf c h))

  pub back_to : (a : ℕ) → Leaf n a → back xs (to xs a) ≡ a
  back_to a h = let s = suc-pred a h.0 in ap suc (place-at-leaf (pred a) (omega (arith, s, h.1))) ∙ s
