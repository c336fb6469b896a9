-- The customer: "For every input, refusals too, a public call's statement determines its answer and the final content of what was lent
-- to it. Prove that any two outcomes satisfying it are equal." Here for every call; for those of C, see `tangle`.
use Rattle.std.specs.Prelude.{ℕ, ◌≡◌, Bool, List, ℤ}
use Rattle.record_fields.specs.Fields.{Parts}
use Rattle.record_fields.specs.Fixes.{Fixes, FixesBoth}
use Rattle.record.specs.Calls.{Checks, Reads, SetsHold}
use Rattle.record_unpacking.specs.Answers.{Unpacked}
use Rattle.record_unpacking.specs.Calls.{Unpacks}
use Rattle.record_packing.specs.Calls.{Packs}
use Rattle.calls_show.specs.Calls.{Orders, Counts, SquaredEntangles, TellsThousandths}
use Rattle.calls_turns.specs.Calls.{Frees, Runs}
use Rattle.calls_hands.specs.Refusals.{Hand}
use Rattle.calls_hands.specs.Calls.{Hands}
use Rattle.calls_pins.specs.Calls.{Pins}
use Rattle.calls_better.specs.Calls.{Address, Betters, Compares, BetterChecks}
use Rattle.calls_take_in.specs.Calls.{TakesIn}
use Rattle.calls_newick.specs.Calls.{NewickReads, NewickWrites}
use Rattle.calls_merge.specs.Calls.{MergeReads, MergeWrites}

-- What unpacking comes to: its answer, and what is in the five buffers afterwards.
pub record UnpackOutcome : Type 0 where
  pub answer : Unpacked
  pub left : List ℕ
  pub right : List ℕ
  pub links : List ℕ
  pub left_layout : List ℕ
  pub right_layout : List ℕ

abbrev pub UnpacksTo : List ℕ → List ℕ → List ℕ → List ℕ → List ℕ → List ℕ → UnpackOutcome → Type 0
UnpacksTo s left right links left_layout right_layout o =
    Unpacks s left right links left_layout right_layout
    o.answer o.left o.right o.links o.left_layout o.right_layout

pub record Outcomes : Type 0 where
  pub check : (s : List ℕ) → Fixes (Checks s)
  pub read : (s : List ℕ) → Fixes (Reads s)
  pub set_hold : (s : List ℕ) (letter : ℕ) → FixesBoth (SetsHold s letter)
  pub unpack : (s left right links left_layout right_layout : List ℕ) → Fixes (UnpacksTo s left right links left_layout right_layout)
  pub pack : (P : Parts) (out : List ℕ) → FixesBoth (Packs P out)
  pub order : (s : List ℕ) (side : ℕ) (out : List ℕ) → FixesBoth (Orders s side out)
  -- Of count and of pairs, and of one against the other.
  pub count : (s : List ℕ) → Fixes (Counts s)
  pub squared_entanglement : (s : List ℕ) → Fixes (SquaredEntangles s)
  pub thousandths : (s : List ℕ) → Fixes (TellsThousandths s)
  pub free : (s : List ℕ) (side : ℕ) → FixesBoth (Frees s side)
  pub run : (s : List ℕ) (allowance : ℕ) → FixesBoth (Runs s allowance)
  -- Of both forms, and of one against the other.
  pub hands : (s : List ℕ) (hands : List Hand) → FixesBoth (Hands s hands)
  pub pin : (s : List ℕ) (side row : ℕ) (pinned : Bool) → FixesBoth (Pins s side row pinned)
  -- The part's entries and its address.
  pub better : (s : List ℕ) (side : ℕ) (first second : List ℕ) (first-at second_at : Address) (x y : List ℕ) (x-at y-at : Address) →
      Betters s side first second first-at second_at x x-at → Betters s side first second first-at second_at y y-at →
      (x ≡ y) × (x-at ≡ y-at)
  pub compare : (s : List ℕ) (side : ℕ) (first second : List ℕ) → Fixes (Compares s side first second)
  pub better_check : (s : List ℕ) (side : ℕ) (first second : List ℕ) → Fixes (BetterChecks s side first second)
  pub take_in : (s : List ℕ) (side : ℕ) (xs out : List ℕ) → FixesBoth (TakesIn s side xs out)
  pub newick_read : (text out : List ℕ) → FixesBoth (NewickReads text out)
  pub newick_write : (s : List ℕ) (side : ℕ) (out : List ℕ) → FixesBoth (NewickWrites s side out)
  pub merge_read : (n : ℕ) (table : List ℤ) (out : List ℕ) → FixesBoth (MergeReads n table out)
  pub merge_write : (s : List ℕ) (side : ℕ) (out : List ℤ) → FixesBoth (MergeWrites s side out)
