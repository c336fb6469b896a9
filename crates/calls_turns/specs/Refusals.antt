-- The refusals of free and run, in their order (docs/CALLS.md): 12, then 13, then 1 to 10, 11.
use Rattle.std.specs.Prelude.{ℕ, Bool, not, ◌||◌, List, eqb, ltb}
use Rattle.tanglegram.specs.declared.side.Side.TheVariants.{Left as left, Right as right}
use Rattle.record_fields.specs.Fields.{hold_of}
use Rattle.record_fields.specs.Refusals.{◌when◌else◌, or_else, refusal}
use Rattle.record_arrays.specs.Sides.{is_side, side_of, holds}

-- Freeing a side.
unfoldable pub free_refusal : List ℕ → ℕ → ℕ
unfolding is_side refusal holds
free_refusal s side =
    13 when not (is_side side)
    else or_else (refusal s) (11 when holds (hold_of s) (side_of side) else 0)

-- A run under an allowance, which is from 1 to 130,818.
unfoldable pub no_allowance : ℕ → Bool
no_allowance k = eqb k 0 || ltb 130818 k

unfoldable pub run_refusal : List ℕ → ℕ → ℕ
unfolding no_allowance refusal holds
run_refusal s allowance =
    12 when no_allowance allowance
    else or_else (refusal s) (11 when holds (hold_of s) left else 11 when holds (hold_of s) right else 0)
