-- The customer, in the first request for changes: "The tree check answers the lowest row that breaks the rule, and refusals 7 and 8 carry
-- it through every call that reads or packs one." In every outcome of every such call 7 comes with a row from 1 to n - 1 of the left tree
-- that breaks the tree rule while each earlier row of that tree keeps it, 8 with one of the right tree, and any other number with row 0
-- (`SaysRow`, in `record_fields/specs/Told`). Better of two itself answers no refusal; its check call does.
use Rattle.std.specs.Prelude.{ℕ, Bool, List, ℤ}
use Rattle.record_fields.specs.Refused.{NumberAndRow}
use Rattle.record_fields.specs.Fields.{Parts, parts}
use Rattle.record_fields.specs.Told.{SaysRow}
use Rattle.record.specs.Calls.{Reading}
use Rattle.record.specs.Calls.{Checks, Reads, reading_refusal, SetsHold}
use Rattle.record_packing.specs.Calls.{Packs}
use Rattle.calls_show.specs.Answers.{Counted}
use Rattle.calls_show.specs.Answers.{SquaredEntanglement}
use Rattle.calls_show.specs.InThousandths.{InThousandths}
use Rattle.calls_show.specs.Calls.{Orders, Counts, SquaredEntangles, squared_refusal, TellsThousandths, thousandths_refusal}
use Rattle.calls_turns.specs.Answers.{Freed}
use Rattle.calls_turns.specs.Answers.{Ran}
use Rattle.calls_turns.specs.Calls.{Frees, Runs}
use Rattle.calls_hands.specs.Refusals.{Hand}
use Rattle.calls_hands.specs.Calls.{Hands}
use Rattle.calls_pins.specs.Calls.{Pins}
use Rattle.calls_better.specs.Answers.{Compared}
use Rattle.calls_better.specs.Calls.{Compares, BetterChecks}
use Rattle.calls_take_in.specs.Answers.{TakenIn}
use Rattle.calls_take_in.specs.Calls.{TakesIn}
use Rattle.calls_newick.specs.Answers.{NewickWritten}
use Rattle.calls_newick.specs.Calls.{NewickWrites}
use Rattle.calls_merge.specs.Calls.{MergeWrites}
use Rattle.promises.specs.Outcomes.{UnpackOutcome, UnpacksTo}

-- A refusal says the row of a record.
abbrev pub Says : List ℕ → NumberAndRow → Type 0
Says s r = SaysRow (parts s) r.number r.row

pub record RowTold : Type 0 where
  pub check : (s : List ℕ) (answer : NumberAndRow) → Checks s answer → Says s answer
  pub read : (s : List ℕ) (answer : Reading) → Reads s answer → Says s (reading_refusal answer)
  pub set_hold : (s : List ℕ) (letter : ℕ) (answer : NumberAndRow) (s' : List ℕ) → SetsHold s letter answer s' → Says s answer
  pub unpack : (s left right links left_layout right_layout : List ℕ) (o : UnpackOutcome) →
      UnpacksTo s left right links left_layout right_layout o → Says s o.answer.refusal
  -- The rows are the lists'.
  pub pack : (P : Parts) (out : List ℕ) (answer : NumberAndRow) (out' : List ℕ) → Packs P out answer out' →
      SaysRow P answer.number answer.row
  pub order : (s : List ℕ) (side : ℕ) (out : List ℕ) (answer : NumberAndRow) (out' : List ℕ) → Orders s side out answer out' → Says s answer
  -- Of count and of pairs.
  pub count : (s : List ℕ) (answer : Counted) → Counts s answer → Says s answer.refusal
  pub squared_entanglement : (s : List ℕ) (answer : SquaredEntanglement) → SquaredEntangles s answer → Says s (squared_refusal answer)
  pub thousandths : (s : List ℕ) (answer : InThousandths) → TellsThousandths s answer → Says s (thousandths_refusal answer)
  pub free : (s : List ℕ) (side : ℕ) (answer : Freed) (s' : List ℕ) → Frees s side answer s' → Says s answer.refusal
  pub run : (s : List ℕ) (allowance : ℕ) (answer : Ran) (s' : List ℕ) → Runs s allowance answer s' → Says s answer.refusal
  -- Of both forms.
  pub hands : (s : List ℕ) (hands : List Hand) (answer : NumberAndRow) (s' : List ℕ) → Hands s hands answer s' → Says s answer
  pub pin : (s : List ℕ) (side row : ℕ) (pinned : Bool) (answer : NumberAndRow) (s' : List ℕ) → Pins s side row pinned answer s' → Says s answer
  pub compare : (s : List ℕ) (side : ℕ) (first second : List ℕ) (answer : Compared) → Compares s side first second answer →
      Says s answer.refusal
  pub better_check : (s : List ℕ) (side : ℕ) (first second : List ℕ) (answer : NumberAndRow) → BetterChecks s side first second answer →
      Says s answer
  pub take_in : (s : List ℕ) (side : ℕ) (xs out : List ℕ) (answer : TakenIn) (out' : List ℕ) → TakesIn s side xs out answer out' →
      Says s answer.refusal
  -- Reading a text has no record: `Newick` says that its refusals come with row 0.
  pub newick_write : (s : List ℕ) (side : ℕ) (out : List ℕ) (answer : NewickWritten) (out' : List ℕ) → NewickWrites s side out answer out' →
      Says s answer.refusal
  -- Nor has reading a merge table, of which `Merge` says the same.
  pub merge_write : (s : List ℕ) (side : ℕ) (out : List ℤ) (answer : NumberAndRow) (out' : List ℤ) → MergeWrites s side out answer out' →
      Says s answer
