-- What an accepted record shows as it stands.
use Rattle.std.specs.Prelude.{ℕ, List}
use Rattle.tanglegram.specs.Entanglement.{displacement}
use Rattle.tanglegram.specs.Tree.{Tree}
use Rattle.tanglegram.specs.declared.side.Side.{Side}
use Rattle.tanglegram.specs.declared.side.Side.TheVariants.{Left as left, Right as right}
use Rattle.tanglegram.specs.Table.{Layouts, order_of, crossings, crossed_pairs}
use Rattle.record_fields.specs.Fields.{size_of, parts}
use Rattle.record_fields.specs.Meaning.{table_of, layouts_of}

-- A side's order, the count, and the displacement.
abbrev pub shown_order : List ℕ → Side → List ℕ
shown_order s side = order_of (table_of s) (layouts_of s) side

abbrev pub shown_count : List ℕ → ℕ
shown_count s = crossings (table_of s) (layouts_of s)

abbrev pub shown_displacement : List ℕ → ℕ
shown_displacement s = displacement (size_of s) (parts s).links (shown_order s left) (shown_order s right)

-- The own crossings of a side's row with the children u and l, at some layouts: the pairs of leaves, one under each child, whose links
-- cross.
abbrev pub own_crossings : List ℕ → Layouts → Side → Tree → Tree → ℕ
own_crossings s at side u l = crossed_pairs (parts s).links (order_of (table_of s) at left) (order_of (table_of s) at right) side u l
