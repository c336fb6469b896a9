-- The refusals of taking in an order, in their order (docs/CALLS.md): 13, then 1 to 10, 16, 23, 14. What is held plays no part.
use Rattle.std.specs.Prelude.{ℕ, ◌-◌, not, List, ltb, length}
use Rattle.tanglegram.specs.Order.{against_pins}
use Rattle.tanglegram.specs.declared.side.Side.{Side}
use Rattle.tanglegram.specs.Table.{layout}
use Rattle.record_fields.specs.Fields.{size_of}
use Rattle.record_fields.specs.Refusals.{◌when◌else◌, or_else, refusal}
use Rattle.record_fields.specs.Meaning.{table_of, layouts_of}
use Rattle.record_arrays.specs.Sides.{is_side, side_of}
use Rattle.record_orders.specs.Proposed.{is_order, shown_layout}

-- The layout that the first n entries of xs show on a side, no row pinned.
abbrev pub shown_on : List ℕ → Side → List ℕ → List ℕ
shown_on s side xs = shown_layout (size_of s) ((table_of s).tree side) xs

-- Taking in the order xs for a side, its layout bytes into a buffer.
unfoldable pub take_in_refusal : List ℕ → ℕ → List ℕ → List ℕ → ℕ
unfolding is_side refusal is_order against_pins
take_in_refusal s side xs out =
    13 when not (is_side side)
    else or_else (refusal s)
    (16 when not (is_order (size_of s) ((table_of s).tree (side_of side)) xs)
    else 23 when against_pins (layout (layouts_of s) (side_of side)) (shown_on s (side_of side) xs)
    else 14 when ltb (length out) (size_of s - 1)
    else 0)
