-- The refusals of better of two, in their order (docs/CALLS.md): 13, then 1 to 10, then 16.
use Rattle.std.specs.Prelude.{ℕ, not, List}
use Rattle.record_fields.specs.Fields.{size_of}
use Rattle.record_fields.specs.Refusals.{◌when◌else◌, or_else, refusal}
use Rattle.record_fields.specs.Meaning.{table_of}
use Rattle.record_arrays.specs.Sides.{is_side, side_of}
use Rattle.record_orders.specs.Proposed.{is_order}

-- Better of two: the first order before the second.
unfoldable pub better_refusal : List ℕ → ℕ → List ℕ → List ℕ → ℕ
unfolding is_side refusal is_order
better_refusal s side first second =
    13 when not (is_side side)
    else or_else (refusal s)
    (16 when not (is_order (size_of s) ((table_of s).tree (side_of side)) first)
    else 16 when not (is_order (size_of s) ((table_of s).tree (side_of side)) second)
    else 0)
