-- The leaves under an object of a good row array, as the walk meets them: a leaf itself, or the upper entry's leaves and then the lower
-- one's; and the leaves of the whole tree.
use Prim.Native.Nat.{ℕ, pred, ◌+◌, ◌-◌, ◌*◌, ◌≤◌, ◌<◌}
use mathlib.Core.Path.{◌≡◌, sym, ap, ◌∙◌}
use mathlib.Core.List.{List, [], ◌∷◌, ◌++◌}
use native.Mathlib.Numerals.{sub-one}
use native.Mathlib.Omega.{arith}
use lib.ListN.{length, get_or, set, drop, length-append}
use lib.Seq.{sets, sets-eq}
use Rattle.tanglegram.specs.Tree.{leaves}
use Rattle.tanglegram.specs.Order.{order}
use Rattle.tanglegram.proofs.Lists.{length-perm, length-range}
use Rattle.tanglegram.proofs.Order.{order-perm}
use Rattle.tanglegram.proofs.Tree.{object-leaf, object-fork, leaves_once}
use Rattle.work_trees.specs.Rows.{upper, lower, size, object_of, tree_of, GoodRows}
use Rattle.work_trees.proofs.Stores.{sets-append, sets_comm}

module _ (T : List ℕ) (good : GoodRows T) where
  pub leaves-leaf : (k : ℕ) → k ≤ size T → leaves (object_of T k) ≡ k ∷ []
  unfolding leaves
  leaves-leaf k h = ap leaves (object-leaf (size T) (upper T) (lower T) good.rule k h)

  -- a tree has n leaves
  pub length-leaves : length (leaves (tree_of T)) ≡ size T
  length-leaves = length-perm (leaves_once (size T) (upper T) (lower T) good.rule good.some) ∙ length-range 1 (size T)

  -- and so many entries each of its orders has
  pub length-order : (lay : List ℕ) → length (order lay (tree_of T)) ≡ size T
  length-order lay = length-perm (order-perm lay (tree_of T)) ∙ length-leaves

  -- the tree is that of object 2n - 1
  pub last-object : object_of T (2 * size T - 1) ≡ tree_of T
  last-object =
      let some = good.some in
      let e : 2 * size T - 1 ≡ size T + pred (size T) = omega arith in
      ap (object_of T) e

  -- the tree's leaves written from the first place on
  pub sets-leaves : (out : List ℕ) → length out ≡ 512 → sets out 0 (leaves (tree_of T)) ≡ leaves (tree_of T) ++ drop (size T) out
  sets-leaves out h =
      let n = length-leaves in
      let most = good.most in
      let L = leaves (tree_of T) in
      let e : 0 + length L ≡ size T = omega arith in
      sets-eq L out 0 (omega arith) ∙ ap (λ m. L ++ drop m out) e

  module _ (k : ℕ) (above : size T < k) (below : k < 2 * size T) where
    -- the entries of the row that makes object k
    abbrev pub upper_of : ℕ
    upper_of = get_or T (2 * (k - size T - 1)) 0

    abbrev pub lower_of : ℕ
    lower_of = get_or T (2 * (k - size T - 1) + 1) 0

    pub upper-falls : (1 ≤ upper_of) × (upper_of < k)
    upper-falls =
        let c = good.rule (k - size T) (omega arith) (omega arith) in
        rw sub-one (omega arith)

    pub lower-falls : (1 ≤ lower_of) × (lower_of < k)
    lower-falls =
        let c = good.rule (k - size T) (omega arith) (omega arith) in
        rw sub-one (omega arith)

    leaves-fork : leaves (object_of T k) ≡ leaves (object_of T upper_of) ++ leaves (object_of T lower_of)
    unfolding leaves
    leaves-fork =
        let i = k - size T in
        let e : k ≡ size T + i = omega arith in
        rw sub-one
        (ap (λ j. leaves (object_of T j)) e
        ∙ ap leaves (object-fork (size T) (upper T) (lower T) good.rule i (omega arith) (omega arith)))

    pub length-fork : length (leaves (object_of T k)) ≡ length (leaves (object_of T upper_of)) + length (leaves (object_of T lower_of))
    length-fork = ap length leaves-fork ∙ length-append (leaves (object_of T upper_of)) (leaves (object_of T lower_of))

    -- the upper entry's leaves written, and then the lower one's
    pub sets-fork : (out : List ℕ) (at : ℕ) →
        sets (sets out at (leaves (object_of T upper_of))) (at + length (leaves (object_of T upper_of))) (leaves (object_of T lower_of))
        ≡ sets out at (leaves (object_of T k))
    sets-fork out at = rw leaves-fork (sym (sets-append (leaves (object_of T upper_of)) (leaves (object_of T lower_of)) out at))

    -- the lower one's first, and then the upper one's
    pub sets-fork-back : (out : List ℕ) (at : ℕ) →
        sets (sets out (at + length (leaves (object_of T upper_of))) (leaves (object_of T lower_of))) at (leaves (object_of T upper_of))
        ≡ sets out at (leaves (object_of T k))
    sets-fork-back out at =
        let A = leaves (object_of T upper_of) in
        sym (sets_comm A (leaves (object_of T lower_of)) out at (at + length A) (omega arith)) ∙ sets-fork out at

    -- where the upper entry is a leaf: the leaf written, and then the lower one's leaves
    pub sets-upper-leaf : upper_of ≤ size T → (out : List ℕ) (at : ℕ) →
        sets (set out at upper_of) (at + 1) (leaves (object_of T lower_of)) ≡ sets out at (leaves (object_of T k))
    sets-upper-leaf h out at =
        rw (leaves-leaf upper_of h) at (sets-fork out at)

    -- where the lower entry is one: the leaf written after the room for the upper one's leaves, and then those
    pub sets-lower-leaf : lower_of ≤ size T → (out : List ℕ) (at : ℕ) →
        sets (set out (at + length (leaves (object_of T upper_of))) lower_of) at (leaves (object_of T upper_of))
        ≡ sets out at (leaves (object_of T k))
    sets-lower-leaf h out at = rw (leaves-leaf lower_of h) at (sets-fork-back out at)
