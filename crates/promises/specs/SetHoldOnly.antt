-- The customer: "Setting the hold puts the letter given into byte 5 and changes nothing else." And of the order of its refusals: a bad
-- letter is 4 whatever the record is, after a good one the record is tested.
use Rattle.std.specs.Prelude.{ℕ, ◌≡◌, ◌≢◌, true, false, List, length, get_or}
use Rattle.record_fields.specs.Refused.{NumberAndRow}
use Rattle.record_fields.specs.Refusals.{is_hold, refusal}
use Rattle.tanglegram.specs.declared.side.Side.{Side}
use Rattle.record_arrays.specs.Shown.{shown_order}
use Rattle.record.specs.Calls.{SetsHold}
use Rattle.promises.specs.HeldStays.{SameTrees}

pub record SetHoldOnly (s : List ℕ) (letter : ℕ) (answer : NumberAndRow) (after : List ℕ) : Type 0 where
  pub puts_the_letter : answer.number ≡ 0 → get_or after 5 0 ≡ letter
  pub keeps_the_others : (i : ℕ) → i ≢ 5 → get_or after i 0 ≡ get_or s i 0
  pub keeps_the_length : length after ≡ length s
  -- So neither side moves, and an accepted record is accepted again.
  pub keeps_the_trees : SameTrees s after
  pub keeps_the_orders : (side : Side) → shown_order after side ≡ shown_order s side
  pub bad_letter_first : is_hold letter ≡ false → answer.number ≡ 4
  pub then_the_record : is_hold letter ≡ true → answer.number ≡ refusal s

abbrev pub SetHoldPromise : Type 0
SetHoldPromise =
    (s : List ℕ) (letter : ℕ) (answer : NumberAndRow) (after : List ℕ) → SetsHold s letter answer after → SetHoldOnly s letter answer after
