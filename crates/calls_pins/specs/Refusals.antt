-- The refusals of pinning a row and of unpinning it, in their order (docs/CALLS.md): 13, then 1 to 10, then 15. What is held, and what is
-- pinned already, is no matter.
use Rattle.std.specs.Prelude.{ℕ, not, List}
use Rattle.record_fields.specs.Fields.{size_of}
use Rattle.record_fields.specs.Refusals.{◌when◌else◌, or_else, refusal}
use Rattle.record_arrays.specs.Sides.{is_side}
use Rattle.record_arrays.specs.Rows.{no_row}

unfoldable pub pin_refusal : List ℕ → ℕ → ℕ → ℕ
unfolding is_side refusal no_row
pin_refusal s side row =
    13 when not (is_side side)
    else or_else (refusal s) (15 when no_row (size_of s) row else 0)
