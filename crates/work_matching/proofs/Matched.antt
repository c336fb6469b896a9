-- An order is compatible exactly if the layout read off it gives it, so comparing the two tells whether it is.
use Prim.Native.Nat.{ℕ, ◌+◌}
use mathlib.Core.Path.{◌≡◌, sym, ap, ◌∙◌, subst}
use mathlib.Core.Bool.{Bool, true≢false}
use mathlib.Core.List.{List, ◌++◌}
use lib.ListN.{length, take}
use lib.Seq.{take_at}
use Rattle.std.specs.Bool.{Decides}
use Rattle.tanglegram.specs.Order.{order, Compatible, reading}
use Rattle.tanglegram.proofs.Order.{order-compatible}
use Rattle.tanglegram.proofs.Compatible.{compatible-order}
use Rattle.work_trees.specs.Rows.{size, tree_of, GoodRows}
use Rattle.work_matching.specs.Match.{order_in, Tells}
use Rattle.work_trees.proofs.Walked.{length-order}
use Rattle.work_matching.proofs.Reading.{leaves_distinct, rows_distinct, rows-within}

module _ (T lay : List ℕ) (good : GoodRows T) where
  module _ (xs lay₀ rest : List ℕ) (long : length lay₀ + 1 ≡ size T) (read : lay ≡ reading (order_in T xs) (tree_of T) lay₀) where
    order-first : take (size T) (order lay (tree_of T) ++ rest) ≡ order lay (tree_of T)
    order-first = take_at (order lay (tree_of T)) rest (size T) (length-order T good lay)

    -- comparing what that layout gives with the order tells whether the order is compatible
    pub match_tells : (out : List ℕ) (answer : Bool) → out ≡ order lay (tree_of T) ++ rest →
        Decides answer (take (size T) out ≡ order_in T xs) → Tells T xs answer
    match_tells out answer e same =
        let t = tree_of T in
        let first : take (size T) out ≡ order lay t = ap (take (size T)) e ∙ order-first in
        let given : Compatible t (order_in T xs) → order lay t ≡ order_in T xs =
        λ c. ap (λ y. order y t) read
        ∙ compatible-order t (order_in T xs) lay₀ (leaves_distinct T good) (rows_distinct T good) (rows-within T good lay₀ long) c in
        record {
          accepts = λ a. subst (Compatible t) (sym first ∙ same.0 a) (order-compatible lay t);
          refuses = λ a c. true≢false (sym (same.1 (first ∙ given c)) ∙ a);
        }
