-- A group's text stored with its marks first: the two parentheses and the comma at their places, and then the two texts between them, in
-- either order.
use Prim.Native.Nat.{ℕ, ◌+◌}
use mathlib.Core.Path.{◌≡◌, sym, ap, ◌∙◌}
use mathlib.Core.List.{List, [], ◌∷◌, ◌++◌}
use native.Mathlib.Numerals.{add-one}
use native.Mathlib.Omega.{arith}
use lib.ListN.{length, set}
use lib.Seq.{sets}
use Rattle.work_trees.proofs.Stores.{sets-append, sets_comm}
use Rattle.newick.specs.Sentence.{opening, closing, comma}
use Rattle.work_newick_writing.proofs.Written.{grouped}

sets-cons : (x : ℕ) (xs out : List ℕ) (at : ℕ) → sets out at (x ∷ xs) ≡ sets (set out at x) (at + 1) xs
sets-cons x xs out at = ap (λ i. sets (set out at x) i xs) (sym (add-one at))

-- the marks of a group at place `at`, with room for `first` bytes before the comma and `second` behind it
abbrev pub marked : List ℕ → ℕ → ℕ → ℕ → List ℕ
marked out at first second =
    set (set (set out at opening) (at + 1 + first) comma) (at + 1 + first + 1 + second) closing

module _ (a b out : List ℕ) (at : ℕ) where
  -- where the comma stands
  abbrev mid : ℕ
  mid = at + 1 + length a

  -- all bytes one after the other
  in_turn : sets out at (grouped a b)
      ≡ set (sets (set (sets (set out at opening) (at + 1) a) mid comma) (mid + 1) b) (mid + 1 + length b) closing
  in_turn =
      let opened = set out at opening in
      let half = set (sets opened (at + 1) a) mid comma in
      sets-cons opening (a ++ (comma ∷ (b ++ (closing ∷ [])))) out at
      ∙ sets-append a (comma ∷ (b ++ (closing ∷ []))) opened (at + 1)
      ∙ sets-cons comma (b ++ (closing ∷ [])) (sets opened (at + 1) a) mid
      ∙ sets-append b (closing ∷ []) half (mid + 1)

  -- the marks, the first text, the second
  pub first_then_second : sets (sets (marked out at (length a) (length b)) (at + 1) a) (at + 1 + length a + 1) b ≡ sets out at (grouped a b)
  first_then_second =
      let opened = set out at opening in
      let end = mid + 1 + length b in
      rw (
        ← sets_comm a (closing ∷ []) (set opened mid comma) (at + 1) end (omega arith),
        ← sets_comm a (comma ∷ []) opened (at + 1) mid (omega arith),
        ← sets_comm b (closing ∷ []) (set (sets opened (at + 1) a) mid comma) (mid + 1) end (omega arith),
      ) (sym in_turn)

  -- the marks, the second text, the first
  pub second_then_first : sets (sets (marked out at (length a) (length b)) (at + 1 + length a + 1) b) (at + 1) a ≡ sets out at (grouped a b)
  second_then_first =
      sym (sets_comm a b (marked out at (length a) (length b)) (at + 1) (mid + 1) (omega arith)) ∙ first_then_second
