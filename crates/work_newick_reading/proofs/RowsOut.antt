-- Rows written to a buffer entry by entry, each as it is over n leaves.
use Prim.Native.Nat.{ℕ, ◌+◌, ◌<◌}
use mathlib.Core.Path.{◌≡◌, sym, ap, ◌∙◌}
use mathlib.Core.List.{List, [], ◌∷◌, ◌++◌, map, map-append}
use native.Mathlib.Nat.{zero-add}
use native.Mathlib.Numerals.{add-one}
use native.Mathlib.Omega.{arith}
use lib.ListN.{length, get_or, set, take, length-map}
use lib.Seq.{sets, take-suc, length-take-le}
use Rattle.work_trees.proofs.Stores.{sets-append}
use Rattle.newick.specs.Noted.{fixed}

module _ (T : List ℕ) (n : ℕ) (found : List ℕ) where
  -- the first i entries are written
  abbrev pub written : ℕ → List ℕ
  written i = sets found 0 (map (fixed n) (take i T))

  pub written-more : (out : List ℕ) (i : ℕ) → i < length T → out ≡ written i → set out i (fixed n (get_or T i 0)) ≡ written (i + 1)
  written-more out i h e =
      let L = map (fixed n) (take i T) in
      let x = fixed n (get_or T i 0) in
      let long : 0 + length L ≡ i = zero-add (length L) ∙ length-map (take i T) (fixed n) ∙ length-take-le i T (omega arith) in
      let one : sets found 0 (L ++ (x ∷ [])) ≡ set (sets found 0 L) i x =
      sets-append L (x ∷ []) found 0 ∙ ap (λ k. set (sets found 0 L) k x) long in
      let next : map (fixed n) (take (i + 1) T) ≡ L ++ (x ∷ []) =
      ap (λ k. map (fixed n) (take k T)) (add-one i) ∙ ap (map (fixed n)) (take-suc T i 0 h)
      ∙ map-append (fixed n) (take i T) (get_or T i 0 ∷ []) in
      ap (λ o. set o i x) e ∙ sym one ∙ ap (sets found 0) (sym next)
