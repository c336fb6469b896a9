-- How many bytes the text of the object that each row makes has, noted row by row: those of its two children's texts, and three. The
-- loop's invariant, what one row more adds to it, and what the notes say once all rows are counted.
use Prim.Native.Nat.{ℕ, pred, ◌+◌, ◌-◌, ◌*◌, ◌≤◌, ◌<◌}
use mathlib.Core.Path.{◌≡◌, sym, ap, ◌∙◌}
use mathlib.Core.List.{List, []}
use native.Mathlib.Omega.{arith}
use lib.ListN.{length, get_or, set}
use Rattle.newick.specs.Writing.{decimal, sentence_of, text_of}
use Rattle.work_trees.specs.Rows.{upper, lower, size, object_of, tree_of, GoodRows}
use Rattle.work_trees.proofs.RowNotes.{NotedTo, noted_more, noted-all, note_is, entries-noted}
use Rattle.work_newick_writing.specs.Counts.{written, TextCounts, bytes_of}
use Rattle.work_newick_writing.proofs.Written.{length_grouped, leaf-written, row_written, row-most, length-tree}

-- how many bytes an object's text has
abbrev pub long : List ℕ → ℕ → ℕ
long T o = length (written (object_of T o))

long-leaf : {T : List ℕ} → GoodRows T → (o : ℕ) → o ≤ size T → long T o ≡ length (decimal o)
long-leaf good o h = ap length (leaf-written good o h)

-- the rows before row i have their counts
abbrev pub CountedTo : List ℕ → List ℕ → ℕ → Type 0
CountedTo T bytes i = NotedTo T (long T) bytes i

-- the two entries of row k + 1 are objects
pub entries_below : {T : List ℕ} (k : ℕ) → GoodRows T → k + 1 < size T →
    (get_or T (2 * k) 0 < 2 * size T) × (get_or T (2 * k + 1) 0 < 2 * size T)
entries_below {T} k good q =
    let c = good.rule (k + 1) (omega arith) q in
    let place : pred (k + 1) ≡ k = omega arith in
    (omega (arith, rw place at c.upper-below), omega (arith, rw place at c.lower-below))

-- they are counted, by the places that the code reads
module _ {T bytes : List ℕ} {a b : ℕ} (k : ℕ) (good : GoodRows T) (before : CountedTo T bytes (k + 1)) (q : k + 1 < size T)
    (is-a : a ≡ bytes_of bytes (size T) (get_or T (2 * k) 0)) (is_b : b ≡ bytes_of bytes (size T) (get_or T (2 * k + 1) 0)) where
  both-counted : (a ≡ long T (upper T (k + 1))) × (b ≡ long T (lower T (k + 1)))
  both-counted =
      let first : 2 * (k + 1) - 2 ≡ 2 * k = omega arith in
      let second : 2 * (k + 1) - 1 ≡ 2 * k + 1 = omega arith in
      entries-noted good (long T) (λ o. length (decimal o)) (long-leaf good) before q (rw first is-a) (rw second is_b)

  pub both_most : a + b + 3 ≤ 3069
  both_most = rw (both-counted.0, both-counted.1) (row-most good (k + 1) before.from q)

  row-counted : a + b + 3 ≡ long T (size T + (k + 1))
  row-counted =
      rw (both-counted.0, both-counted.1)
      (sym (ap length (row_written good (k + 1) before.from q)
      ∙ length_grouped (written (object_of T (upper T (k + 1)))) (written (object_of T (lower T (k + 1))))))

  pub counted-more : CountedTo T (set bytes k (a + b + 3)) (k + 1 + 1)
  counted-more = let place : k + 1 - 1 ≡ k = omega arith in rw place at (noted_more good before q row-counted)

pub counted-all : {T bytes : List ℕ} {i : ℕ} → CountedTo T bytes i → size T ≤ i → TextCounts T bytes
counted-all done h = record { long = done.long; counts = noted-all done h }

-- ---- once all rows are counted

module _ {T bytes : List ℕ} (good : GoodRows T) (c : TextCounts T bytes) where
  pub count-is : (o : ℕ) → o < 2 * size T → bytes_of bytes (size T) o ≡ long T o
  count-is o q = note_is good (long T) (λ k. length (decimal k)) (long-leaf good) bytes (size T) c.counts o (omega arith)

  -- the whole tree's, with its semicolon
  pub tree-counted : bytes_of bytes (size T) (2 * size T - 1) + 1 ≡ length (text_of (sentence_of [] (tree_of T)))
  tree-counted =
      let some = good.some in
      omega (arith, count-is (2 * size T - 1) (omega arith), length-tree good)
