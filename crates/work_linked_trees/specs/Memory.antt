-- Two linked trees in memory: the arrays that they are laid out in, and what freeing a side makes of them. Stated over the
-- table that the trees and the links make (`tanglegram`).
use Rattle.std.specs.Prelude.{ℕ, ◌≡◌, List, take}
use Rattle.tanglegram.specs.Tree.{Tree}
use Rattle.tanglegram.specs.declared.side.Side.{Side}
use Rattle.tanglegram.specs.Table.{Table, Layouts, pick, linked, crossings, free}
use Rattle.work_trees.specs.Exchange.{given_tree, LaidOut}
use Rattle.work_places.specs.Arrays.{OneToN}
use Rattle.work_freeing.specs.Rows.{InOrder}

abbrev pub layouts_from : List ℕ → List ℕ → Layouts
layouts_from l r = record { left_bytes = l; right_bytes = r }

-- The table in the arrays.
abbrev pub table_from : ℕ → List ℕ → List ℕ → List ℕ → List ℕ → List ℕ → Table
table_from n links L l R r = linked n (given_tree L l) (given_tree R r) (take n links)

-- In the arrays are the trees t and u over n leaves, each with its layout applied, and links one to one.
pub record InMemory (t u : Tree) (n : ℕ) (links L l R r : List ℕ) : Type 0 where
  pub left_side : LaidOut t n l L
  pub right_side : LaidOut u n r R
  pub one_to_one : OneToN n links

-- A side's order is at hand: its array has the leaves in its first places.
abbrev pub OrderAtHand : Side → List ℕ → List ℕ → List ℕ → List ℕ → Type 0
OrderAtHand side L lo R ro = InOrder (pick L R side) (pick lo ro side)

-- A side freed, from the layouts `at`: the counts before and after, the layouts, and the arrays afterwards.
module _ (t u : Tree) (n : ℕ) (links : List ℕ) where
  abbrev pub here : Table
  here = linked n t u (take n links)

  pub record SideFreed (side : Side) (at : Layouts) (before after : ℕ) (L l R r : List ℕ) : Type 0 where
    pub counted : before ≡ crossings here at
    pub recounted : after ≡ crossings here (free here side at)
    pub afterwards : layouts_from l r ≡ free here side at
    pub in_memory : InMemory t u n links L l R r
