-- The customer, in the first request for changes: "The tree check answers the lowest row that breaks the rule, and refusals 7 and 8 carry
-- it through every call that reads or packs one." Here for the calls for C, of the refusal and the row in an answer (`SaysRow`, in
-- `record_fields/specs/Told`).
use Rattle.std.specs.Prelude.{ℕ, ◌≡◌, List, ℤ}
use Rattle.record_fields.specs.Fields.{Parts, parts}
use Rattle.record_fields.specs.Told.{SaysRow}
use Rattle.calls_hands.specs.Refusals.{Hand}
use Rattle.tangle.specs.declared.answers.TangleRefusal.{TangleRefusal}
use Rattle.tangle.specs.declared.answers.TangleCount.{TangleCount}
use Rattle.tangle.specs.declared.answers.TangleSquaredEntanglement.{TangleSquaredEntanglement}
use Rattle.tangle.specs.declared.answers.TangleThousandths.{TangleThousandths}
use Rattle.tangle.specs.declared.answers.TangleFree.{TangleFree}
use Rattle.tangle.specs.declared.answers.TangleRun.{TangleRun}
use Rattle.tangle.specs.declared.answers.TangleBetter.{TangleBetter}
use Rattle.tangle.specs.declared.answers.TangleTakeIn.{TangleTakeIn}
use Rattle.tangle.specs.declared.answers.TangleNewickRead.{TangleNewickRead}
use Rattle.tangle.specs.declared.answers.TangleNewickWrite.{TangleNewickWrite}
use Rattle.tangle.specs.ForC.{ChecksForC, OrdersForC, SetsHoldForC, PinsForC, HandsForC, BetterChecksForC, PacksForC, CountsForC}
use Rattle.tangle.specs.ForC.{SquaredEntanglesForC, TellsThousandthsForC, FreesForC, RunsForC, ComparesForC, TakesInForC}
use Rattle.tangle.specs.ForC.{NewickReadsForC, NewickWritesForC, MergeReadsForC, MergeWritesForC}
use Rattle.tangle.specs.Outcomes.{UnpackOutcomeForC, UnpacksToForC}

pub record RowsForC : Type 0 where
  pub check : (s : List ℕ) (answer : TangleRefusal) → ChecksForC s answer → SaysRow (parts s) answer.refusal answer.row
  pub order : (s : List ℕ) (side : ℕ) (out : List ℕ) (answer : TangleRefusal) (out' : List ℕ) → OrdersForC s side out answer out' →
      SaysRow (parts s) answer.refusal answer.row
  -- Of count and of pairs.
  pub count : (s : List ℕ) (answer : TangleCount) → CountsForC s answer → SaysRow (parts s) answer.refusal answer.row
  pub squared_entanglement : (s : List ℕ) (answer : TangleSquaredEntanglement) → SquaredEntanglesForC s answer →
      SaysRow (parts s) answer.refusal answer.row
  pub thousandths : (s : List ℕ) (answer : TangleThousandths) → TellsThousandthsForC s answer →
      SaysRow (parts s) answer.refusal answer.row
  pub free : (s : List ℕ) (side : ℕ) (answer : TangleFree) (s' : List ℕ) → FreesForC s side answer s' →
      SaysRow (parts s) answer.refusal answer.row
  pub run : (s : List ℕ) (allowance : ℕ) (answer : TangleRun) (s' : List ℕ) → RunsForC s allowance answer s' →
      SaysRow (parts s) answer.refusal answer.row
  pub hands : (s : List ℕ) (hands : List Hand) (answer : TangleRefusal) (s' : List ℕ) → HandsForC s hands answer s' →
      SaysRow (parts s) answer.refusal answer.row
  pub better : (s : List ℕ) (side : ℕ) (first second : List ℕ) (answer : TangleBetter) → ComparesForC s side first second answer →
      SaysRow (parts s) answer.refusal answer.row
  pub better_check : (s : List ℕ) (side : ℕ) (first second : List ℕ) (answer : TangleRefusal) →
      BetterChecksForC s side first second answer → SaysRow (parts s) answer.refusal answer.row
  pub take_in : (s : List ℕ) (side : ℕ) (xs out : List ℕ) (answer : TangleTakeIn) (out' : List ℕ) →
      TakesInForC s side xs out answer out' → SaysRow (parts s) answer.refusal answer.row
  pub hold : (s : List ℕ) (letter : ℕ) (answer : TangleRefusal) (s' : List ℕ) → SetsHoldForC s letter answer s' →
      SaysRow (parts s) answer.refusal answer.row
  -- The rows are the lists'.
  pub pin : (s : List ℕ) (side row pin : ℕ) (answer : TangleRefusal) (s' : List ℕ) → PinsForC s side row pin answer s' →
      SaysRow (parts s) answer.refusal answer.row
  pub pack : (P : Parts) (out : List ℕ) (answer : TangleRefusal) (out' : List ℕ) → PacksForC P out answer out' →
      SaysRow P answer.refusal answer.row
  pub unpack : (s left right links left_layout right_layout : List ℕ) (o : UnpackOutcomeForC) →
      UnpacksToForC s left right links left_layout right_layout o → SaysRow (parts s) o.answer.refusal o.answer.row
  -- A text has no bad row.
  pub newick_read : (text out : List ℕ) (answer : TangleNewickRead) (out' : List ℕ) → NewickReadsForC text out answer out' →
      answer.row ≡ 0
  pub newick_write : (s : List ℕ) (side : ℕ) (out : List ℕ) (answer : TangleNewickWrite) (out' : List ℕ) →
      NewickWritesForC s side out answer out' → SaysRow (parts s) answer.refusal answer.row
  -- Nor has a merge table.
  pub merge_read : (n : ℕ) (table : List ℤ) (out : List ℕ) (answer : TangleRefusal) (out' : List ℕ) →
      MergeReadsForC n table out answer out' → answer.row ≡ 0
  pub merge_write : (s : List ℕ) (side : ℕ) (out : List ℤ) (answer : TangleRefusal) (out' : List ℤ) →
      MergeWritesForC s side out answer out' → SaysRow (parts s) answer.refusal answer.row
