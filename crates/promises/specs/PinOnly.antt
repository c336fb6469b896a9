-- The customer: "One call pins or unpins a row, held side or not, keeping its turning." It changes one layout byte at most, so no order,
-- no count, no hold and no other byte; and its refusals are 13, then 1 to 10, then 15, in that order, and no other.
use Rattle.std.specs.Prelude.{ℕ, pred, ◌+◌, ◌≡◌, ◌≢◌, Bool, true, false, not, List, length, get_or}
use Rattle.tanglegram.specs.Order.{turned, may_change}
use Rattle.tanglegram.specs.declared.side.Side.{Side}
use Rattle.record_fields.specs.Refused.{NumberAndRow}
use Rattle.record_fields.specs.Fields.{hold_of, size_of}
use Rattle.record_fields.specs.Refusals.{refusal}
use Rattle.record_arrays.specs.Sides.{is_side, side_of, layout_at}
use Rattle.record_arrays.specs.Rows.{no_row, row_byte}
use Rattle.record_arrays.specs.Shown.{shown_order, shown_count, shown_displacement}
use Rattle.calls_better.specs.Refusals.{better_refusal}
use Rattle.calls_better.specs.Calls.{better_part}
use Rattle.calls_newick.specs.Refusals.{written_text}
use Rattle.calls_pins.specs.Calls.{Pins}
use Rattle.promises.specs.HeldStays.{SameTrees}

pub record PinOnly (s : List ℕ) (side row : ℕ) (pinned : Bool) (answer : NumberAndRow) (s' : List ℕ) : Type 0 where
  -- The row is pinned afterwards, or it is not, as asked; and turned as it was, as every row is.
  pub pins_the_row : answer.number ≡ 0 → may_change (row_byte s' (side_of side) row) ≡ not pinned
  pub keeps_the_turnings : (x : Side) (i : ℕ) → turned (row_byte s' x i) ≡ turned (row_byte s x i)
  -- Pinning what is pinned, and unpinning what is not, changes nothing.
  pub as_it_was : may_change (row_byte s (side_of side) row) ≡ not pinned → s' ≡ s
  -- No byte but that row's.
  pub keeps_the_others : (i : ℕ) → i ≢ layout_at (size_of s) (side_of side) + pred row → get_or s' i 0 ≡ get_or s i 0
  pub keeps_the_length : length s' ≡ length s
  pub keeps_the_hold : hold_of s' ≡ hold_of s
  -- So neither side moves, and an accepted record is accepted again.
  pub keeps_the_trees : SameTrees s s'
  pub keeps_the_orders : (x : Side) → shown_order s' x ≡ shown_order s x
  -- And nothing that is shown of it tells: not the count, nor D, nor a side's text, nor better of two.
  pub keeps_the_count : shown_count s' ≡ shown_count s
  pub keeps_the_displacement : shown_displacement s' ≡ shown_displacement s
  pub keeps_the_texts : (x : ℕ) → written_text s' x ≡ written_text s x
  pub keeps_better : (x : ℕ) (first second : List ℕ) →
      (better_refusal s' x first second ≡ better_refusal s x first second) × (better_part s' x first second ≡ better_part s x first second)
  -- Its refusals, test by test.
  pub bad_side_first : is_side side ≡ false → answer.number ≡ 13
  pub then_the_record : is_side side ≡ true → refusal s ≢ 0 → answer.number ≡ refusal s
  pub then_the_row : is_side side ≡ true → refusal s ≡ 0 → no_row (size_of s) row ≡ true → answer.number ≡ 15
  pub or_none : is_side side ≡ true → refusal s ≡ 0 → no_row (size_of s) row ≡ false → answer.number ≡ 0
  -- So never 11, whatever is held, and never 22.
  pub never_11 : answer.number ≢ 11
  pub never_22 : answer.number ≢ 22

abbrev pub PinPromise : Type 0
PinPromise =
    (s : List ℕ) (side row : ℕ) (pinned : Bool) (answer : NumberAndRow) (s' : List ℕ) → Pins s side row pinned answer s' →
    PinOnly s side row pinned answer s'
