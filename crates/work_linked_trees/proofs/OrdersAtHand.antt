-- A side's order in an array: as the walk writes it, and as an order of the leaves 1 to n.
use Prim.Native.Nat.{ℕ, ◌+◌}
use mathlib.Core.Path.{◌≡◌, refl, ap, ◌∙◌}
use mathlib.Core.List.{List, ◌++◌}
use native.Mathlib.Omega.{arith}
use lib.ListN.{length, take, drop, length-append, length-drop}
use lib.Seq.{take_at}
use Rattle.tanglegram.specs.Tree.{leaves}
use Rattle.tanglegram.proofs.Tree.{leaves_once}
use Rattle.work_trees.specs.Rows.{upper, lower, size, tree_of, GoodRows}
use Rattle.work_trees.specs.Exchange.{given_tree, LaidOut}
use Rattle.work_trees.proofs.Walked.{length-leaves}
use Rattle.work_places.specs.Arrays.{OneToN}
use Rattle.work_freeing.specs.Rows.{InOrder}

module _ (W : List ℕ) (good : GoodRows W) where
  pub walked : (out : List ℕ) {out' : List ℕ} → length out ≡ 512 → out' ≡ leaves (tree_of W) ++ drop (size W) out → InOrder W out'
  walked out long e =
      let most = good.most in
      let all = length-leaves W good in
      record {
        long = ap length e ∙ omega (arith, length-append (leaves (tree_of W)) (drop (size W) out), length-drop (size W) out);
        first = ap (take (size W)) e ∙ take_at (leaves (tree_of W)) (drop (size W) out) (size W) all;
      }

  pub in_order_one : (order : List ℕ) → InOrder W order → OneToN (size W) order
  in_order_one order o = rw o.first (leaves_once (size W) (upper W) (lower W) good.rule good.some)

-- a good row array with a byte for each row is a side in memory
pub a_side : (W lay : List ℕ) → GoodRows W → length lay + 1 ≡ size W → LaidOut (given_tree W lay) (size W) lay W
a_side W lay good long = record { good = good; sized = refl; long = long; tree = refl }
