-- The customer, in the request for pins: "Freeing, runs and hand lists never change a pinned byte." For every call that may change a
-- record, in every outcome; and none of them pins a row or unpins it but the call that does, which turns no row over (`PinOnly`). So what
-- freeing may choose from is the same before and after, and a side of which every row is pinned stands as if it were held.
use Rattle.std.specs.Prelude.{ℕ, ◌≤◌, ◌<◌, ◌≡◌, Bool, false, ◌↔◌, List}
use Rattle.tanglegram.specs.Lists.{place}
use Rattle.tanglegram.specs.Tree.{EachAbove}
use Rattle.tanglegram.specs.Order.{turned, may_change, Choice}
use Rattle.tanglegram.specs.declared.side.Side.{Side}
use Rattle.tanglegram.specs.Table.{layout}
use Rattle.record_fields.specs.Refused.{NumberAndRow}
use Rattle.record_fields.specs.Fields.{size_of}
use Rattle.record_fields.specs.Refusals.{refusal}
use Rattle.record_fields.specs.Meaning.{table_of, layouts_of}
use Rattle.record_arrays.specs.Sides.{side_of}
use Rattle.record_arrays.specs.Rows.{row_byte}
use Rattle.record_arrays.specs.Shown.{shown_order}
use Rattle.record.specs.Calls.{SetsHold}
use Rattle.calls_turns.specs.Answers.{Freed}
use Rattle.calls_turns.specs.Answers.{Ran}
use Rattle.calls_turns.specs.Calls.{Frees, Runs}
use Rattle.calls_hands.specs.Refusals.{Hand}
use Rattle.calls_hands.specs.Calls.{Hands}
use Rattle.calls_pins.specs.Calls.{Pins}

-- Every row above leaf a of that side is pinned.
abbrev pub PinnedAbove : List ℕ → Side → ℕ → Type 0
PinnedAbove s side a = EachAbove (λ row. may_change (row_byte s side row) ≡ false) a ((table_of s).tree side)

-- What becomes of the pins of s, which becomes s'.
pub record PinsKept (s s' : List ℕ) : Type 0 where
  -- A pinned row's byte is the same, and so its turning.
  pub pinned_stays : (side : Side) (row : ℕ) → may_change (row_byte s side row) ≡ false → row_byte s' side row ≡ row_byte s side row
  -- So a tube stands still if every row above its leaf is pinned: its place in the order is the same.
  pub place_stays : refusal s ≡ 0 → (side : Side) (a : ℕ) → 1 ≤ a → a ≤ size_of s → PinnedAbove s side a →
      place (shown_order s' side) a ≡ place (shown_order s side) a
  -- A row is pinned exactly if it was.
  pub same_pins : (side : Side) (row : ℕ) → may_change (row_byte s' side row) ≡ may_change (row_byte s side row)
  -- The same choices of turnings are permitted.
  pub same_choices : (side : Side) (any : List ℕ) →
      Choice (layout (layouts_of s') side) any ↔ Choice (layout (layouts_of s) side) any

-- Every row of that side is pinned.
abbrev pub AllPinned : List ℕ → Side → Type 0
AllPinned s side = (row : ℕ) → 1 ≤ row → row < size_of s → may_change (row_byte s side row) ≡ false

-- A run that stood: settled after two turns, nothing gained.
pub record StoodStill (answer : Ran) : Type 0 where
  pub two_turns : answer.turns ≡ 2
  pub settled : answer.settled ≡ 1
  pub same_count : answer.last ≡ answer.first

pub record PinnedStays : Type 0 where
  pub free : (s : List ℕ) (side : ℕ) (answer : Freed) (s' : List ℕ) → Frees s side answer s' → PinsKept s s'
  pub run : (s : List ℕ) (allowance : ℕ) (answer : Ran) (s' : List ℕ) → Runs s allowance answer s' → PinsKept s s'
  pub hands : (s : List ℕ) (hands : List Hand) (answer : NumberAndRow) (s' : List ℕ) → Hands s hands answer s' → PinsKept s s'
  pub set_hold : (s : List ℕ) (letter : ℕ) (answer : NumberAndRow) (s' : List ℕ) → SetsHold s letter answer s' → PinsKept s s'
  -- Pinning and unpinning, whose byte it is to change, turns no row over, pinned or not.
  pub pin : (s : List ℕ) (side row : ℕ) (pinned : Bool) (answer : NumberAndRow) (s' : List ℕ) → Pins s side row pinned answer s' →
      (x : Side) (i : ℕ) → turned (row_byte s' x i) ≡ turned (row_byte s x i)
  -- Freeing a side of which every row is pinned changes nothing, and answers equal counts.
  pub free_all_pinned : (s : List ℕ) (side : ℕ) (answer : Freed) (s' : List ℕ) → Frees s side answer s' →
      AllPinned s (side_of side) → (s' ≡ s) × (answer.after ≡ answer.before)
  -- With every row of both sides pinned a run changes nothing; with two turns allowed it is settled after two.
  pub run_all_pinned : (s : List ℕ) (allowance : ℕ) (answer : Ran) (s' : List ℕ) → Runs s allowance answer s' →
      ((side : Side) → AllPinned s side) → s' ≡ s
  pub run_stood_still : (s : List ℕ) (allowance : ℕ) (answer : Ran) (s' : List ℕ) → Runs s allowance answer s' →
      ((side : Side) → AllPinned s side) → answer.refusal.number ≡ 0 → 2 ≤ allowance → StoodStill answer
