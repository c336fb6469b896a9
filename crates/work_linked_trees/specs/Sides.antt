-- Two linked trees in memory, as the code holds them: a side is the arrays of one tree, and two sides are linked.
use Rattle.std.specs.Prelude.{ℕ, ◌≡◌, List}
use Rattle.tanglegram.specs.declared.side.Side.{Side}
use Rattle.tanglegram.specs.Crossings.{seen_left, seen_right}
use Rattle.tanglegram.specs.Table.{Layouts, pick}
use Rattle.tanglegram.specs.Tree.{Tree}
use Rattle.work_trees.specs.Exchange.{given_tree}
use Rattle.work_trees.specs.Rows.{size}
use Rattle.work_linked_trees.specs.Memory.{InMemory, layouts_from, OrderAtHand, SideFreed}
use Rattle.work_linked_trees.specs.declared.sides.OneSide.{OneSide}

-- What a side sees of the other side's order: of a right order the left, of a left order the right.
abbrev pub seen_by : Side → List ℕ → List ℕ → ℕ → ℕ → ℕ
seen_by = pick seen_left seen_right

-- The tree of a side as given, and the layouts of both sides.
abbrev pub tree_in : OneSide → Tree
tree_in s = given_tree s.rows.now s.lay.now

abbrev pub layouts_in : OneSide → OneSide → Layouts
layouts_in l r = layouts_from l.lay.now r.lay.now

-- A side's arrays are those that another's were: its rows, its layout and its order are written where that one's would be, and
-- its leaf counts are that one's.
abbrev pub SameArrays : OneSide → OneSide → Type 0
SameArrays s s' =
    (s'.rows.ghost_name ≡ s.rows.ghost_name)
    × (s'.lay.ghost_name ≡ s.lay.ghost_name)
    × (s'.order.ghost_name ≡ s.order.ghost_name)
    × (s'.many.now ≡ s.many.now)

-- A side stands while another is freed: of its arrays at most the one for its order is written.
pub record Stands (s s' : OneSide) : Type 0 where
  pub arrays : SameArrays s s'
  pub rows : s'.rows.now ≡ s.rows.now
  pub lay : s'.lay.now ≡ s.lay.now

-- In the arrays of two sides are the trees as given, each with its layout applied, and links one to one.
abbrev pub Linked : OneSide → OneSide → List ℕ → Type 0
Linked l r links = InMemory (tree_in l) (tree_in r) (size l.rows.now) links l.rows.now l.lay.now r.rows.now r.lay.now

-- A side's order is at hand.
abbrev pub AtHand : Side → OneSide → OneSide → Type 0
AtHand side l r = OrderAtHand side l.rows.now l.order.now r.rows.now r.order.now

-- One of two sides freed: the counts before and after, and both sides afterwards.
abbrev pub Freed : OneSide → OneSide → List ℕ → Side → ℕ → ℕ → OneSide → OneSide → Type 0
Freed l r links side before after l' r' =
    SideFreed (tree_in l) (tree_in r) (size l.rows.now) links side (layouts_in l r) before after l'.rows.now l'.lay.now r'.rows.now
    r'.lay.now
