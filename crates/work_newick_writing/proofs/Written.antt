-- The text of an object, each row's upper child first: of a leaf its digits, of a row's object its children's texts with a comma and two
-- parentheses. It has at most 6 bytes for each leaf, less 3.
use Prim.Native.Nat.{ℕ, ◌+◌, ◌-◌, ◌*◌, ◌≤◌, ◌<◌}
use mathlib.Core.Path.{◌≡◌, refl, sym, ap, ◌∙◌}
use mathlib.Core.List.{List, [], ◌∷◌, ◌++◌}
use native.Mathlib.Numerals.{sub-one}
use native.Mathlib.Omega.{arith}
use lib.ListN.{length, set, length-append}
use lib.Seq.{sets}
use Rattle.tanglegram.specs.Tree.{Tree, leaf, fork, leaves}
use Rattle.tanglegram.proofs.Lists.{append-nil}
use Rattle.tanglegram.proofs.Tree.{object-leaf, object-fork}
use Rattle.newick.specs.Sentence.{spell_length, spell, opening, closing, comma, semicolon}
use Rattle.newick.specs.Writing.{decimal, sentence_of, text_of}
use Rattle.work_trees.specs.Rows.{upper, lower, size, object_of, tree_of, GoodRows}
use Rattle.work_trees.proofs.ByNumber.{children_within}
use Rattle.work_trees.proofs.Stores.{sets-append}
use Rattle.work_trees.proofs.Walked.{upper_of, lower_of, last-object}
use Rattle.work_newick_writing.specs.Counts.{written}
use Rattle.work_newick_writing.proofs.Decimal.{decimal_most}

-- ---- trees

-- the text of a group with the texts a and b in it
abbrev pub grouped : List ℕ → List ℕ → List ℕ
grouped a b = opening ∷ (a ++ (comma ∷ (b ++ (closing ∷ []))))

pub length_grouped : (a b : List ℕ) → length (grouped a b) ≡ length a + length b + 3
length_grouped a b =
    let more = length-append b (closing ∷ []) in
    omega (arith, length-append a (comma ∷ (b ++ (closing ∷ []))))

written-leaf : (a : ℕ) → written (leaf a) ≡ decimal a
unfolding spell spell_length sentence_of
written-leaf a = append-nil (decimal a)

written-fork : (i : ℕ) (u l : Tree) → written (fork i u l) ≡ grouped (written u) (written l)
unfolding spell spell_length sentence_of
written-fork i u l = refl

written-most : (t : Tree) → length (written t) + 3 ≤ 6 * length (leaves t)
unfolding leaves
written-most (leaf a) = rw (written-leaf a) (omega (arith, decimal_most a))
written-most (fork i u l) =
    let x = written-most u in
    let y = written-most l in
    rw (written-fork i u l)
    (omega (arith, length_grouped (written u) (written l), length-append (leaves u) (leaves l)))

-- ---- the objects of a good row array

module _ {T : List ℕ} (good : GoodRows T) where
  pub leaf-written : (k : ℕ) → k ≤ size T → written (object_of T k) ≡ decimal k
  leaf-written k h = ap written (object-leaf (size T) (upper T) (lower T) good.rule k h) ∙ written-leaf k

  module _ (i : ℕ) (p : 1 ≤ i) (q : i < size T) where
    pub row_written : written (object_of T (size T + i)) ≡ grouped (written (object_of T (upper T i))) (written (object_of T (lower T i)))
    row_written =
        ap written (object-fork (size T) (upper T) (lower T) good.rule i p q)
        ∙ written-fork i (object_of T (upper T i)) (object_of T (lower T i))

    -- which is no more than 3,069 bytes
    pub row-most : length (written (object_of T (upper T i))) + length (written (object_of T (lower T i))) + 3 ≤ 3069
    row-most =
        let most = good.most in
        let u = written-most (object_of T (upper T i)) in
        let l = written-most (object_of T (lower T i)) in
        omega (arith, children_within T good i p q)

  -- by the entries of the row that makes object k
  module _ (k : ℕ) (above : size T < k) (below : k < 2 * size T) where
    pub object-written : written (object_of T k)
        ≡ grouped (written (object_of T (upper_of T good k above below))) (written (object_of T (lower_of T good k above below)))
    object-written =
        let i = k - size T in
        let e : k ≡ size T + i = omega arith in
        rw sub-one (ap (λ j. written (object_of T j)) e ∙ row_written i (omega arith) (omega arith))

  -- ---- the whole tree's, with its semicolon

  abbrev pub last : List ℕ
  last = written (object_of T (2 * size T - 1))

  tree-written : text_of (sentence_of [] (tree_of T)) ≡ last ++ (semicolon ∷ [])
  unfolding text_of
  tree-written = ap (λ t. written t ++ (semicolon ∷ [])) (sym (last-object T good))

  pub length-tree : length (text_of (sentence_of [] (tree_of T))) ≡ length last + 1
  length-tree = ap length tree-written ∙ length-append last (semicolon ∷ [])

  -- stored at the last of as many places
  pub tree_stored : (out : List ℕ) (k : ℕ) → k ≡ length (text_of (sentence_of [] (tree_of T))) →
      set (sets out 0 last) (k - 1) semicolon ≡ sets out 0 (text_of (sentence_of [] (tree_of T)))
  tree_stored out k e =
      let place : k - 1 ≡ 0 + length last = omega (arith, length-tree) in
      rw (place, tree-written) (sym (sets-append last (semicolon ∷ []) out 0))
