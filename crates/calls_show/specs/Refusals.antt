-- The refusals of asking for an order, in their order (docs/CALLS.md): 13, then 1 to 10, 14. Count, pairs,
-- squared entanglement and thousandths have the record's own.
use Rattle.std.specs.Prelude.{ℕ, not, List, ltb, length}
use Rattle.record_fields.specs.Fields.{size_of}
use Rattle.record_fields.specs.Refusals.{◌when◌else◌, or_else, refusal}
use Rattle.record_arrays.specs.Sides.{is_side}

-- The order of a side, into a buffer.
unfoldable pub order_refusal : List ℕ → ℕ → List ℕ → ℕ
unfolding is_side refusal
order_refusal s side out =
    13 when not (is_side side)
    else or_else (refusal s) (14 when ltb (length out) (size_of s) else 0)
