-- A number of each object of a row array, noted row by row: the loop's invariant with its three laws, at the start, one row more and at
-- the end; and what the notes say of an object. So the leaves under an object are counted, and the bytes of its text.
use Prim.Native.Nat.{ℕ, pred, ◌+◌, ◌-◌, ◌*◌, ◌≤◌, ◌<◌}
use mathlib.Core.Path.{◌≡◌, sym, ap, ◌∙◌}
use mathlib.Core.Bool.{cond}
use mathlib.Core.List.{List}
use native.Mathlib.Decide.{dec_le, ℕ_discrete}
use native.Mathlib.Numerals.{sub-one}
use native.Mathlib.Omega.{arith}
use borrow.Author.Tests.{le-leb, lt-leb}
use lib.Dec.{leb}
use lib.ListN.{length, get_or, set, length-set}
use lib.Seq.{get_or-set_same, get_or-set_other}
use Rattle.work_trees.specs.Rows.{upper, lower, size, GoodRows}
use Rattle.work_trees.proofs.RowArray.{upper-place, lower-place}

-- each row before row i has f of the object that it makes noted
abbrev pub Noted : List ℕ → (ℕ → ℕ) → List ℕ → ℕ → Type 0
Noted T f notes i = (j : ℕ) → 1 ≤ j → j < i → get_or notes (pred j) 0 ≡ f (size T + j)

-- ---- the loop

pub record NotedTo (T : List ℕ) (f : ℕ → ℕ) (notes : List ℕ) (i : ℕ) : Type 0 where
  pub from : 1 ≤ i
  pub to : i ≤ size T
  pub long : length notes ≡ 512
  pub noted : Noted T f notes i

module _ {T : List ℕ} {f : ℕ → ℕ} {notes : List ℕ} where
  pub noted-none : GoodRows T → length notes ≡ 512 → NotedTo T f notes 1
  noted-none good h = record { from = omega arith; to = good.some; long = h; noted = λ j p q. absurd (omega arith) }

  -- row i's number is stored
  pub noted_more : {i v : ℕ} → GoodRows T → NotedTo T f notes i → i < size T → v ≡ f (size T + i) →
      NotedTo T f (set notes (i - 1) v) (i + 1)
  noted_more {i} {v} good before q is-v = record {
    from = omega arith;
    to = omega arith;
    long = simp length-set before.long;
    noted = λ j c d. go j c d (ℕ_discrete j i);
  }
    where
      go : (j : ℕ) → 1 ≤ j → j < i + 1 → Dec (j ≡ i) → get_or (set notes (i - 1) v) (pred j) 0 ≡ f (size T + j)
      go j c d (yes e) = rw (e, sub-one i) (get_or-set_same notes (pred i) v 0 (omega arith) ∙ is-v)
      go j c d (no e) = get_or-set_other notes (i - 1) (pred j) v 0 (omega arith) ∙ before.noted j c (omega arith)

  pub noted-all : {i : ℕ} → NotedTo T f notes i → size T ≤ i → Noted T f notes (size T)
  noted-all done h j p q = done.noted j p (omega arith)

-- ---- an object's number by the notes

-- among n leaves: l of a leaf, else what is noted for its row
abbrev pub note_of : (ℕ → ℕ) → List ℕ → ℕ → ℕ → ℕ
note_of l notes n o = cond (leb o n) (l o) (get_or notes (o - n - 1) 0)

module _ {T : List ℕ} (good : GoodRows T) (f l : ℕ → ℕ) (of-leaf : (o : ℕ) → o ≤ size T → f o ≡ l o) where
  pub note_is : (notes : List ℕ) (i : ℕ) → Noted T f notes i → (o : ℕ) → o < size T + i → note_of l notes (size T) o ≡ f o
  note_is notes i noted o q = go (dec_le o (size T))
    where
      go : Dec (o ≤ size T) → note_of l notes (size T) o ≡ f o
      go (yes h) = rw (le-leb o (size T) h) (sym (of-leaf o h))
      go (no h) =
          let e : size T + (o - size T) ≡ o = omega arith in
          rw (lt-leb o (size T) (omega arith), sub-one) (noted (o - size T) (omega arith) (omega arith) ∙ ap f e)

  -- of row i's two entries, by the places that the code reads
  pub entries-noted : {notes : List ℕ} {i a b : ℕ} → NotedTo T f notes i → i < size T →
      a ≡ note_of l notes (size T) (get_or T (2 * i - 2) 0) → b ≡ note_of l notes (size T) (get_or T (2 * i - 1) 0) →
      (a ≡ f (upper T i)) × (b ≡ f (lower T i))
  entries-noted {notes} {i} before q is-a is_b =
      let p = before.from in
      let c = good.rule i p q in (
        (rw (upper-place i p) at is-a) ∙ note_is notes i before.noted (upper T i) c.upper-below,
        (rw (lower-place i p) at is_b) ∙ note_is notes i before.noted (lower T i) c.lower-below,
      )
