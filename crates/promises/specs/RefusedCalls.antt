-- The customer: "A refusal returns its number, with zero for every other number (better of two apart), and all lent memory stays as
-- found." For every call that has another number to answer, or writes to what is lent; of the row that comes with 7 and 8, see `RowTold`.
use Rattle.std.specs.Prelude.{ℕ, ◌≡◌, Bool, ◌≢◌, List, [], ℤ}
use Rattle.std.proofs.Math.Option.{none}
use Rattle.record_fields.specs.Refused.{NumberAndRow}
use Rattle.record_fields.specs.Fields.{Parts}
use Rattle.record.specs.Calls.{Reading}
use Rattle.record.specs.Calls.{Reads, reading_refusal, hold_in, size_in, SetsHold}
use Rattle.record_packing.specs.Calls.{Packs}
use Rattle.calls_show.specs.Answers.{Counted}
use Rattle.calls_show.specs.Answers.{SquaredEntanglement}
use Rattle.calls_show.specs.InThousandths.{InThousandths}
use Rattle.calls_show.specs.Calls.{Orders, Counts, SquaredEntangles, squared_refusal, displaced_in, worst_in, ratio_in}
use Rattle.calls_show.specs.Calls.{TellsThousandths, thousandths_refusal, thousandths_in}
use Rattle.calls_turns.specs.Answers.{Freed}
use Rattle.calls_turns.specs.Answers.{Ran}
use Rattle.calls_turns.specs.Calls.{Frees, Runs}
use Rattle.calls_hands.specs.Refusals.{Hand}
use Rattle.calls_hands.specs.Calls.{Hands}
use Rattle.calls_pins.specs.Calls.{Pins}
use Rattle.calls_better.specs.Refusals.{better_refusal}
use Rattle.calls_better.specs.Answers.{Compared}
use Rattle.calls_better.specs.Calls.{Address, Betters, Compares}
use Rattle.calls_take_in.specs.Answers.{TakenIn}
use Rattle.calls_take_in.specs.Calls.{TakesIn}
use Rattle.calls_newick.specs.Answers.{NewickRead}
use Rattle.calls_newick.specs.Answers.{NewickWritten}
use Rattle.calls_newick.specs.Calls.{NewickReads, NewickWrites}
use Rattle.calls_merge.specs.Calls.{MergeReads, MergeWrites}
use Rattle.promises.specs.Outcomes.{UnpackOutcome, UnpacksTo}

-- Unpacking came to nothing: hold and n are zero, and the five buffers are as found.
pub record NothingUnpacked (left right links left_layout right_layout : List ℕ) (o : UnpackOutcome) : Type 0 where
  pub no_hold : o.answer.hold ≡ 0
  pub no_size : o.answer.n ≡ 0
  pub left_as_found : o.left ≡ left
  pub right_as_found : o.right ≡ right
  pub links_as_found : o.links ≡ links
  pub left_layout_as_found : o.left_layout ≡ left_layout
  pub right_layout_as_found : o.right_layout ≡ right_layout

pub record RefusedCalls : Type 0 where
  pub read : (s : List ℕ) (answer : Reading) → Reads s answer → (reading_refusal answer).number ≢ 0 →
      (hold_in answer ≡ 0) × (size_in answer ≡ 0)
  pub set_hold : (s : List ℕ) (letter : ℕ) (answer : NumberAndRow) (s' : List ℕ) → SetsHold s letter answer s' → answer.number ≢ 0 → s' ≡ s
  pub unpack : (s left right links left_layout right_layout : List ℕ) (o : UnpackOutcome) →
      UnpacksTo s left right links left_layout right_layout o → o.answer.refusal.number ≢ 0 →
      NothingUnpacked left right links left_layout right_layout o
  pub pack : (P : Parts) (out : List ℕ) (answer : NumberAndRow) (out' : List ℕ) → Packs P out answer out' → answer.number ≢ 0 → out' ≡ out
  pub order : (s : List ℕ) (side : ℕ) (out : List ℕ) (answer : NumberAndRow) (out' : List ℕ) → Orders s side out answer out' →
      answer.number ≢ 0 → out' ≡ out
  pub count : (s : List ℕ) (answer : Counted) → Counts s answer → answer.refusal.number ≢ 0 → answer.count ≡ 0
  pub squared_entanglement : (s : List ℕ) (answer : SquaredEntanglement) → SquaredEntangles s answer → (squared_refusal answer).number ≢ 0 →
      (displaced_in answer ≡ 0) × (worst_in answer ≡ 0) × (ratio_in answer ≡ none)
  pub thousandths : (s : List ℕ) (answer : InThousandths) → TellsThousandths s answer → (thousandths_refusal answer).number ≢ 0 →
      thousandths_in answer ≡ none
  pub free : (s : List ℕ) (side : ℕ) (answer : Freed) (s' : List ℕ) → Frees s side answer s' → answer.refusal.number ≢ 0 →
      (s' ≡ s) × (answer.before ≡ 0) × (answer.after ≡ 0)
  pub run : (s : List ℕ) (allowance : ℕ) (answer : Ran) (s' : List ℕ) → Runs s allowance answer s' → answer.refusal.number ≢ 0 →
      (s' ≡ s) × (answer.first ≡ 0) × (answer.last ≡ 0) × (answer.turns ≡ 0) × (answer.settled ≡ 0)
  pub hands : (s : List ℕ) (hands : List Hand) (answer : NumberAndRow) (s' : List ℕ) → Hands s hands answer s' → answer.number ≢ 0 → s' ≡ s
  pub pin : (s : List ℕ) (side row : ℕ) (pinned : Bool) (answer : NumberAndRow) (s' : List ℕ) → Pins s side row pinned answer s' →
      answer.number ≢ 0 → s' ≡ s
  -- Better of two answers an empty part of the first order; its check call's number says why.
  pub better : (s : List ℕ) (side : ℕ) (first second : List ℕ) (first-at second_at : Address) (part : List ℕ) (part_at : Address) →
      Betters s side first second first-at second_at part part_at → better_refusal s side first second ≢ 0 →
      (part ≡ []) × (part_at ≡ first-at)
  pub compare : (s : List ℕ) (side : ℕ) (first second : List ℕ) (answer : Compared) → Compares s side first second answer →
      answer.refusal.number ≢ 0 → (answer.which ≡ 0) × (answer.length ≡ 0)
  pub take_in : (s : List ℕ) (side : ℕ) (xs out : List ℕ) (answer : TakenIn) (out' : List ℕ) → TakesIn s side xs out answer out' →
      answer.refusal.number ≢ 0 → (out' ≡ out) × (answer.count ≡ 0) × (answer.least ≡ 0)
  pub newick_read : (text out : List ℕ) (answer : NewickRead) (out' : List ℕ) → NewickReads text out answer out' →
      answer.refusal.number ≢ 0 → (out' ≡ out) × (answer.n ≡ 0)
  pub newick_write : (s : List ℕ) (side : ℕ) (out : List ℕ) (answer : NewickWritten) (out' : List ℕ) → NewickWrites s side out answer out' →
      answer.refusal.number ≢ 0 → (out' ≡ out) × (answer.length ≡ 0)
  pub merge_read : (n : ℕ) (table : List ℤ) (out : List ℕ) (answer : NumberAndRow) (out' : List ℕ) → MergeReads n table out answer out' →
      answer.number ≢ 0 → out' ≡ out
  pub merge_write : (s : List ℕ) (side : ℕ) (out : List ℤ) (answer : NumberAndRow) (out' : List ℤ) → MergeWrites s side out answer out' →
      answer.number ≢ 0 → out' ≡ out
