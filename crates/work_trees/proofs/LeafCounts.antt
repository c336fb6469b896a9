-- The leaves under the object that each row makes, counted row by row: those of its two children. They are the same in a row array whose
-- rows are exchanged.
use Prim.Native.Nat.{ℕ, pred, ◌+◌, ◌-◌, ◌*◌, ◌≤◌, ◌<◌}
use mathlib.Core.Path.{◌≡◌, sym, ap}
use mathlib.Core.Bool.{Bool}
use mathlib.Core.List.{List}
use native.Mathlib.Omega.{arith}
use lib.ListN.{length, get_or, set}
use Rattle.tanglegram.specs.Tree.{leaves}
use Rattle.work_trees.specs.Rows.{upper, lower, size, object_of, GoodRows, LeafCounts, count_of}
use Rattle.work_trees.specs.Exchange.{Exchanges}
use Rattle.work_trees.proofs.ByNumber.{children_within}
use Rattle.work_trees.proofs.Exchanged.{object-exchanged}
use Rattle.work_trees.proofs.LaidTree.{length-leaves-exchanged}
use Rattle.work_trees.proofs.RowArray.{upper-place, lower-place}
use Rattle.work_trees.proofs.RowNotes.{NotedTo, noted_more, note_is, entries-noted}
use Rattle.work_trees.proofs.Walked.{leaves-leaf, length-fork}

-- how many leaves an object has
abbrev pub under : List ℕ → ℕ → ℕ
under T o = length (leaves (object_of T o))

-- the rows before row i have their counts
abbrev pub CountedTo : List ℕ → List ℕ → ℕ → Type 0
CountedTo T many i = NotedTo T (under T) many i

module _ (T : List ℕ) (good : GoodRows T) where
  under_leaf : (o : ℕ) → o ≤ size T → under T o ≡ 1
  under_leaf o h = ap length (leaves-leaf T good o h)

  -- a row's two entries, by the places that the code reads, and the object that it makes
  module _ (i : ℕ) (p : 1 ≤ i) (q : i < size T) where
    pub first_below : (1 ≤ get_or T (2 * i - 2) 0) × (get_or T (2 * i - 2) 0 < size T + i)
    first_below = let c = good.rule i p q in rw (upper-place i p) (omega arith)

    pub second_below : (1 ≤ get_or T (2 * i - 1) 0) × (get_or T (2 * i - 1) 0 < size T + i)
    second_below = let c = good.rule i p q in rw (lower-place i p) (omega arith)

    under_row : under T (size T + i) ≡ under T (upper T i) + under T (lower T i)
    under_row =
        let place : size T + i - size T - 1 ≡ pred i = omega arith in
        rw place at (length-fork T good (size T + i) (omega arith) (omega arith))

    module _ (many : List ℕ) (before : CountedTo T many i) (a b : ℕ) (is-a : a ≡ count_of many (size T) (get_or T (2 * i - 2) 0))
        (is_b : b ≡ count_of many (size T) (get_or T (2 * i - 1) 0)) where
      both-counted : (a ≡ under T (upper T i)) × (b ≡ under T (lower T i))
      both-counted = entries-noted good (under T) (λ k. 1) under_leaf before q is-a is_b

      pub both-within : a + b ≤ size T
      both-within = rw (both-counted.0, both-counted.1) (children_within T good i p q)

      pub counted-more : CountedTo T (set many (i - 1) (a + b)) (i + 1)
      counted-more = noted_more good before q (rw (both-counted.0, both-counted.1) (sym under_row))

  -- once all rows are counted
  pub count-is : (many : List ℕ) → LeafCounts T many → (o : ℕ) → 1 ≤ o → o < 2 * size T → count_of many (size T) o ≡ under T o
  count-is many c o p q = note_is good (under T) (λ k. 1) under_leaf many (size T) c.counts o (omega arith)

-- where rows are exchanged, the counts stay
pub counts_stay : (W W' many : List ℕ) (g : ℕ → Bool) → GoodRows W → size W' ≡ size W →
    ((i : ℕ) → 1 ≤ i → i < size W → Exchanges (g i) (upper W i) (lower W i) (upper W' i) (lower W' i)) →
    LeafCounts W many → LeafCounts W' many
counts_stay W W' many g good same rows c = record {
  long = c.long;
  counts = λ i p q.
      let below : i < size W = rw same at q in
      let k = size W + i in
      let e = object-exchanged (size W) (upper W) (lower W) (upper W') (lower W') g good.rule rows k (omega arith) in
      rw (same, e, length-leaves-exchanged g (object_of W k)) (c.counts i p below);
}
