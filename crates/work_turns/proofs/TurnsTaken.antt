-- Turns from the arrays as they are are turns from the trees as given, and end in the arrays that were lent.
use Prim.Native.Nat.{ℕ}
use mathlib.Core.Path.{◌≡◌}
use mathlib.Core.List.{List}
use Rattle.tanglegram.specs.Tree.{Tree}
use Rattle.tanglegram.specs.Table.{Layouts}
use Rattle.work_trees.specs.Rows.{size}
use Rattle.work_trees.specs.Exchange.{given_tree}
use Rattle.work_linked_trees.specs.Memory.{InMemory}
use Rattle.work_turns.specs.Taken.{GoneOn, RunTaken}

module _ {t u : Tree} {n : ℕ} {links L l R r : List ℕ} (m : InMemory t u n links L l R r) where
  pub gone_then : {s : Layouts} {allowance last turns settled : ℕ} {L' l' R' r' : List ℕ} →
      GoneOn (given_tree L l) (given_tree R r) (size L) links s allowance last turns settled L' l' R' r' →
      GoneOn t u n links s allowance last turns settled L' l' R' r'
  gone_then g = rw (m.left_side.tree, m.right_side.tree, m.left_side.sized) at g

  pub run_then : {s : Layouts} {allowance first last turns settled : ℕ} {L' l' R' r' : List ℕ} →
      RunTaken (given_tree L l) (given_tree R r) (size L) links s allowance first last turns settled L' l' R' r' →
      RunTaken t u n links s allowance first last turns settled L' l' R' r'
  run_then f = rw (m.left_side.tree, m.right_side.tree, m.left_side.sized) at f

-- the arrays that were lent have what the sides left in them
pub lent-back : {t u : Tree} {n : ℕ} {links L l R r L' l' R' r' : List ℕ} {s : Layouts} {allowance first last turns settled : ℕ} →
    RunTaken t u n links s allowance first last turns settled L l R r → L' ≡ L → l' ≡ l → R' ≡ R → r' ≡ r →
    RunTaken t u n links s allowance first last turns settled L' l' R' r'
lent-back f a b c d = rw (a, b, c, d) f
