-- Arrays in memory. An array by leaf has leaf a, 1 to n, at place a - 1; only the first n entries count.
use Rattle.std.specs.Prelude.{ℕ, pred, ◌≤◌, ◌<◌, ◌≡◌, ltb, get_or, take, drop}
use mathlib.Core.List.{List, ◌++◌, map, Permᴰ}
use Rattle.tanglegram.specs.Lists.{Each, place, range, bit}
use Rattle.tanglegram.specs.Crossings.{back, crosses}

-- What an array by leaf has for leaf a.
abbrev pub at : List ℕ → ℕ → ℕ
at xs a = get_or xs (pred a) 0

-- One of the leaves 1 to n.
abbrev pub Leaf : ℕ → ℕ → Type 0
Leaf n a = (1 ≤ a) × (a ≤ n)

-- The first n entries are the leaves 1 to n, each once.
abbrev pub OneToN : ℕ → List ℕ → Type 0
OneToN n xs = Permᴰ (take n xs) (range 1 n)

-- A leaf whose link ends at a place below 512.
abbrev pub Linked : List ℕ → ℕ → Type 0
Linked far a = (1 ≤ a) × (a ≤ 512) × (at far a < 512)

-- An array with f 1 to f n in its first n places, and beyond them as it was.
abbrev pub filled : (ℕ → ℕ) → ℕ → List ℕ → List ℕ
filled f n out = map f (range 1 n) ++ drop n out

-- A list with f of each of its first n entries in its place, and beyond them as it was.
abbrev pub along : (ℕ → ℕ) → ℕ → List ℕ → List ℕ
along f n xs = map f (take n xs) ++ drop n xs

-- 1 if the links of leaves a and b cross, by the arrays of their left and right places.
abbrev pub cross_at : List ℕ → List ℕ → ℕ → ℕ → ℕ
cross_at left far a b = bit (crosses (at left) (at far) a b)

-- 1 if a link that ends at place p crosses one that stands after it and ends at place q.
abbrev pub falls : ℕ → ℕ → ℕ
falls p q = bit (ltb q p)

-- Where the link of right leaf c begins on the left, in the left order σ.
abbrev pub begin : List ℕ → List ℕ → ℕ → ℕ
begin ps σ c = place σ (back ps c)

-- An array by leaf has f a for each leaf a, 1 to n.
pub record Has (n : ℕ) (xs : List ℕ) (f : ℕ → ℕ) : Type 0 where
  pub each : Each (λ a. at xs a ≡ f a) (range 1 n)
