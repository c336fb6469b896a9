-- What is true at each row of a row array's tree is true of each row by its number; so a row's two children have at most n leaves together.
use Prim.Native.Nat.{ℕ, pred, ◌+◌, ◌≤◌, ◌<◌}
use mathlib.Core.Path.{◌≡◌, refl}
use mathlib.Core.List.{List}
use native.Mathlib.Omega.{arith}
use lib.ListN.{length, length-append}
use Rattle.tanglegram.specs.Tree.{Tree, leaf, fork, leaves, EachRow}
use Rattle.tanglegram.proofs.Lists.{each-mem, each-perm, mem-range}
use Rattle.tanglegram.proofs.Tree.{each_row_map, each_row_rows, each_row_zip, rows-each, rows_once}
use Rattle.work_trees.specs.Rows.{upper, lower, size, object_of, tree_of, GoodRows}
use Rattle.work_trees.proofs.Walked.{length-leaves}

-- what is true at each row of a good row array's tree is true of each row by its number
pub row_at : (T : List ℕ) → GoodRows T → (P : ℕ → Tree → Tree → Type 0) → EachRow P (tree_of T) →
    (i : ℕ) → 1 ≤ i → i < size T → P i (object_of T (upper T i)) (object_of T (lower T i))
row_at T good P all i p q =
    let n = size T in
    let some = good.some in
    let Here : ℕ → Type 0 = λ j. P j (object_of T (upper T j)) (object_of T (lower T j)) in
    let Made : ℕ → Tree → Tree → Type 0 = λ j u l. (u ≡ object_of T (upper T j)) × (l ≡ object_of T (lower T j)) in
    let made = rows-each n (upper T) (lower T) good.rule Made (λ j x y. (refl, refl)) (n + pred n) (n + pred n)
    (omega arith) (omega arith) in
    let here = each_row_rows Here (tree_of T) (each_row_zip (tree_of T) (λ j u l e h. rw (← e.0, ← e.1) h) made all) in
    each-mem Here (each-perm Here (rows_once n (upper T) (lower T) good.rule some) here)
    (mem-range i 1 (pred n) p (omega arith))

-- a row's children have no more leaves than the tree
leaves-within : (t : Tree) → EachRow (λ i u l. length (leaves u) + length (leaves l) ≤ length (leaves t)) t
unfolding leaves
leaves-within (leaf a) = tt
leaves-within (fork i u l) =
    let whole = length-append (leaves u) (leaves l) in (
      omega arith,
      each_row_map u (λ j v m h. omega arith) (leaves-within u),
      each_row_map l (λ j v m h. omega arith) (leaves-within l),
    )

pub children_within : (T : List ℕ) → GoodRows T → (i : ℕ) → 1 ≤ i → i < size T →
    length (leaves (object_of T (upper T i))) + length (leaves (object_of T (lower T i))) ≤ size T
children_within T good i p q =
    let all = length-leaves T good in
    omega (
      arith,
      row_at T good (λ j u l. length (leaves u) + length (leaves l) ≤ length (leaves (tree_of T))) (leaves-within (tree_of T)) i p q,
    )
