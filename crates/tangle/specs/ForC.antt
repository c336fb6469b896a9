-- What the calls for C answer, and what was lent to them is afterwards, for every input: as the call itself, its answer field by field as
-- the number that C has. Sides, rows, letters and n are the numbers that C hands over, of 32 bits.
use Rattle.std.specs.Prelude.{ℕ, ◌≡◌, false, not, List, eqb, ℤ, pos}
use Rattle.std.specs.Float.{fin}
use Rattle.record_fields.specs.Refused.{NumberAndRow}
use Rattle.record_fields.specs.Fields.{Parts}
use Rattle.record.specs.Calls.{Checks, SetsHold}
use Rattle.record_unpacking.specs.Answers.{Unpacked}
use Rattle.record_unpacking.specs.Calls.{Unpacks}
use Rattle.record_packing.specs.Calls.{Packs}
use Rattle.calls_show.specs.Answers.{Counted}
use Rattle.calls_show.specs.Answers.{SquaredEntanglement}
use Rattle.calls_show.specs.Answers.{Ratio, NoRatio, Refused}
use Rattle.calls_show.specs.InThousandths.{InThousandths}
use Rattle.calls_show.specs.InThousandths as in_thousandths
use Rattle.calls_show.specs.Calls.{Orders, Counts, SquaredEntangles, TellsThousandths}
use Rattle.calls_turns.specs.Answers.{Freed}
use Rattle.calls_turns.specs.Answers.{Ran}
use Rattle.calls_turns.specs.Calls.{Frees, Runs}
use Rattle.calls_hands.specs.Refusals.{Hand}
use Rattle.calls_hands.specs.Calls.{Hands}
use Rattle.calls_pins.specs.Calls.{Pins}
use Rattle.calls_better.specs.Answers.{Compared}
use Rattle.calls_better.specs.Calls.{Compares, BetterChecks}
use Rattle.calls_take_in.specs.Answers.{TakenIn}
use Rattle.calls_take_in.specs.Calls.{TakesIn}
use Rattle.calls_newick.specs.Answers.{NewickRead}
use Rattle.calls_newick.specs.Answers.{NewickWritten}
use Rattle.calls_newick.specs.Calls.{NewickReads, NewickWrites}
use Rattle.calls_merge.specs.Calls.{MergeReads, MergeWrites}
use Rattle.tangle.specs.declared.answers.TangleRefusal.{TangleRefusal}
use Rattle.tangle.specs.declared.answers.TangleCount.{TangleCount}
use Rattle.tangle.specs.declared.answers.TangleSquaredEntanglement.{TangleSquaredEntanglement}
use Rattle.tangle.specs.declared.answers.TangleThousandths.{TangleThousandths}
use Rattle.tangle.specs.declared.answers.TangleFree.{TangleFree}
use Rattle.tangle.specs.declared.answers.TangleRun.{TangleRun}
use Rattle.tangle.specs.declared.answers.TangleBetter.{TangleBetter}
use Rattle.tangle.specs.declared.answers.TangleTakeIn.{TangleTakeIn}
use Rattle.tangle.specs.declared.answers.TangleUnpack.{TangleUnpack}
use Rattle.tangle.specs.declared.answers.TangleNewickRead.{TangleNewickRead}
use Rattle.tangle.specs.declared.answers.TangleNewickWrite.{TangleNewickWrite}

-- The answer is a form of one that a call may give.
pub record Gives {A B : Type 0} (call : A → Type 0) (form : A → B) (answer : B) : Type 0 where
  pub given : A
  pub called : call given
  pub answers : answer ≡ form given

-- ---- check, order, hold, pin, hands, better_check, pack, merge_read, merge_write: the refusal and its row alone

abbrev pub refusal_for_c : NumberAndRow → TangleRefusal
refusal_for_c a = record { refusal = a.number; row = a.row }

abbrev pub ChecksForC : List ℕ → TangleRefusal → Type 0
ChecksForC s answer = Gives (Checks s) refusal_for_c answer

abbrev pub OrdersForC : List ℕ → ℕ → List ℕ → TangleRefusal → List ℕ → Type 0
OrdersForC s side out answer out' = Gives (λ a. Orders s side out a out') refusal_for_c answer

abbrev pub SetsHoldForC : List ℕ → ℕ → TangleRefusal → List ℕ → Type 0
SetsHoldForC s letter answer s' = Gives (λ a. SetsHold s letter a s') refusal_for_c answer

-- 0 unpins, and any other number pins.
abbrev pub PinsForC : List ℕ → ℕ → ℕ → ℕ → TangleRefusal → List ℕ → Type 0
PinsForC s side row pin answer s' = Gives (λ a. Pins s side row (not (eqb pin 0)) a s') refusal_for_c answer

abbrev pub HandsForC : List ℕ → List Hand → TangleRefusal → List ℕ → Type 0
HandsForC s hands answer s' = Gives (λ a. Hands s hands a s') refusal_for_c answer

abbrev pub BetterChecksForC : List ℕ → ℕ → List ℕ → List ℕ → TangleRefusal → Type 0
BetterChecksForC s side first second answer = Gives (BetterChecks s side first second) refusal_for_c answer

abbrev pub PacksForC : Parts → List ℕ → TangleRefusal → List ℕ → Type 0
PacksForC P out answer out' = Gives (λ a. Packs P out a out') refusal_for_c answer

abbrev pub MergeReadsForC : ℕ → List ℤ → List ℕ → TangleRefusal → List ℕ → Type 0
MergeReadsForC n table out answer out' = Gives (λ a. MergeReads n table out a out') refusal_for_c answer

abbrev pub MergeWritesForC : List ℕ → ℕ → List ℤ → TangleRefusal → List ℤ → Type 0
MergeWritesForC s side out answer out' = Gives (λ a. MergeWrites s side out a out') refusal_for_c answer

-- ---- count and pairs

abbrev pub count_for_c : Counted → TangleCount
count_for_c a = record { refusal = a.refusal.number; row = a.refusal.row; count = a.count }

abbrev pub CountsForC : List ℕ → TangleCount → Type 0
CountsForC s answer = Gives (Counts s) count_for_c answer

-- ---- squared entanglement

-- No ratio: the refusal's number and its row, and zero for every other number; as a ratio, +0.
abbrev pub no_squared : ℕ → ℕ → TangleSquaredEntanglement
no_squared k row = record { refusal = k; row = row; displacement = 0; worst = 0; has_ratio = 0; ratio = fin false 0 (pos 0) }

abbrev pub squared_for_c : SquaredEntanglement → TangleSquaredEntanglement
squared_for_c (Ratio d w x) = record { refusal = 0; row = 0; displacement = d; worst = w; has_ratio = 1; ratio = x }
squared_for_c NoRatio = no_squared 0 0
squared_for_c (Refused r) = no_squared r.number r.row

abbrev pub SquaredEntanglesForC : List ℕ → TangleSquaredEntanglement → Type 0
SquaredEntanglesForC s answer = Gives (SquaredEntangles s) squared_for_c answer

-- ---- entanglement in thousandths

abbrev pub told_thousandths : ℕ → ℕ → ℕ → ℕ → TangleThousandths
told_thousandths number row has_ratio k = record { refusal = number; row = row; has_ratio = has_ratio; thousandths = k }

-- With a ratio 1 and k; without one 0 and 0.
abbrev pub thousandths_for_c : InThousandths → TangleThousandths
thousandths_for_c (in_thousandths.Ratio k) = told_thousandths 0 0 1 k
thousandths_for_c in_thousandths.NoRatio = told_thousandths 0 0 0 0
thousandths_for_c (in_thousandths.Refused r) = told_thousandths r.number r.row 0 0

abbrev pub TellsThousandthsForC : List ℕ → TangleThousandths → Type 0
TellsThousandthsForC s answer = Gives (TellsThousandths s) thousandths_for_c answer

-- ---- free

abbrev pub free_for_c : Freed → TangleFree
free_for_c a = record { refusal = a.refusal.number; row = a.refusal.row; before = a.before; after = a.after }

abbrev pub FreesForC : List ℕ → ℕ → TangleFree → List ℕ → Type 0
FreesForC s side answer s' = Gives (λ a. Frees s side a s') free_for_c answer

-- ---- run

abbrev pub run_for_c : Ran → TangleRun
run_for_c a = record {
  refusal = a.refusal.number;
  row = a.refusal.row;
  first = a.first;
  last = a.last;
  turns = a.turns;
  settled = a.settled;
}

abbrev pub RunsForC : List ℕ → ℕ → TangleRun → List ℕ → Type 0
RunsForC s allowance answer s' = Gives (λ a. Runs s allowance a s') run_for_c answer

-- ---- better

abbrev pub better_for_c : Compared → TangleBetter
better_for_c a = record { refusal = a.refusal.number; row = a.refusal.row; which = a.which; length = a.length }

abbrev pub ComparesForC : List ℕ → ℕ → List ℕ → List ℕ → TangleBetter → Type 0
ComparesForC s side first second answer = Gives (Compares s side first second) better_for_c answer

-- ---- taking in an order

abbrev pub take_in_for_c : TakenIn → TangleTakeIn
take_in_for_c a = record { refusal = a.refusal.number; row = a.refusal.row; count = a.count; least = a.least }

abbrev pub TakesInForC : List ℕ → ℕ → List ℕ → List ℕ → TangleTakeIn → List ℕ → Type 0
TakesInForC s side xs out answer out' = Gives (λ a. TakesIn s side xs out a out') take_in_for_c answer

-- ---- unpack

abbrev pub unpack_for_c : Unpacked → TangleUnpack
unpack_for_c a = record { refusal = a.refusal.number; row = a.refusal.row; hold = a.hold; n = a.n }

abbrev pub UnpacksForC : List ℕ → List ℕ → List ℕ → List ℕ → List ℕ → List ℕ → TangleUnpack →
    List ℕ → List ℕ → List ℕ → List ℕ → List ℕ → Type 0
UnpacksForC s left right links left_layout right_layout answer left' right' links' left-layout' right-layout' =
    Gives
    (λ a. Unpacks s left right links left_layout right_layout a left' right' links' left-layout' right-layout')
    unpack_for_c answer

-- ---- reading a text

abbrev pub newick_read_for_c : NewickRead → TangleNewickRead
newick_read_for_c a = record { refusal = a.refusal.number; row = a.refusal.row; n = a.n }

abbrev pub NewickReadsForC : List ℕ → List ℕ → TangleNewickRead → List ℕ → Type 0
NewickReadsForC text out answer out' = Gives (λ a. NewickReads text out a out') newick_read_for_c answer

-- ---- writing a text

abbrev pub newick_write_for_c : NewickWritten → TangleNewickWrite
newick_write_for_c a = record { refusal = a.refusal.number; row = a.refusal.row; length = a.length }

abbrev pub NewickWritesForC : List ℕ → ℕ → List ℕ → TangleNewickWrite → List ℕ → Type 0
NewickWritesForC s side out answer out' = Gives (λ a. NewickWrites s side out a out') newick_write_for_c answer
