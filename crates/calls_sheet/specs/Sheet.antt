-- What a sheet says of any bytes, line by line: of a record that is accepted five lines as it stands, then a run with the largest
-- allowance and three lines of that, or why there is no run; of any other bytes why they are refused.
use Prim.Native.Char.{code}
use Rattle.std.specs.Prelude.{ℕ, ◌≡◌, Bool, cond, List, [], ◌++◌, eqb}
use Rattle.std.proofs.Math.Option.{get_or}
use Rattle.tanglegram.specs.Entanglement.{worst}
use Rattle.tanglegram.specs.declared.side.Side.TheVariants.{Left as left, Right as right}
use Rattle.tanglegram.specs.Table.{crossings}
use Rattle.record_fields.specs.Fields.{hold_of, size_of, most_turns}
use Rattle.record_fields.specs.Meaning.{table_of, relaid}
use Rattle.record_fields.specs.Refusals.{refusal}
use Rattle.record_fields.specs.Refused.{accepted}
use Rattle.record_fields.specs.Told.{told_of}
use Rattle.record_arrays.specs.Shown.{shown_order, shown_count, shown_displacement}
use Rattle.calls_show.specs.InThousandths.{InThousandths}
use Rattle.calls_show.specs.Calls.{TellsThousandths, thousandths_in}
use Rattle.calls_turns.specs.Refusals.{run_refusal}
use Rattle.calls_turns.specs.Calls.{ran_to}
use Rattle.calls_sheet.specs.Lines.{heading_line, order_line, count_line, entangled_line, turns_line, refused_line}

-- The third number of the `E` line: the entanglement in thousandths as the call tells it, and 0 where it tells none.
pub record ThirdNumber (s : List ℕ) (number : ℕ) : Type 0 where
  pub answer : InThousandths
  pub told : TellsThousandths s answer
  pub or_zero : number ≡ get_or (thousandths_in answer) 0

-- A run is made of the record: it is accepted, and neither side is held. The record after it; as it is where none is made.
abbrev pub is_run : List ℕ → Bool
is_run s = accepted (run_refusal s most_turns)

unfoldable pub after_run : List ℕ → List ℕ
unfolding run_refusal relaid
after_run s = cond (is_run s) (relaid s (ran_to s most_turns).last) s

-- A side's line, of a record as it stands.
abbrev pub left_line : List ℕ → List ℕ
left_line s = order_line (code "L") (shown_order s left)

abbrev pub right_line : List ℕ → List ℕ
right_line s = order_line (code "R") (shown_order s right)

-- The run's first line, or its refusal.
abbrev pub run_line : List ℕ → List ℕ
run_line s =
    cond (is_run s)
    (turns_line (ran_to s most_turns).turns (ran_to s most_turns).settled (crossings (table_of s) (ran_to s most_turns).last))
    (refused_line (told_of s (run_refusal s most_turns)))

-- ---- the whole sheet

-- The five lines of a record as it stands, and what stands below them.
abbrev pub as_it_stands : List ℕ → ℕ → List ℕ
as_it_stands s third =
    heading_line (hold_of s) (size_of s)
    ++ (left_line s
    ++ (right_line s
    ++ (count_line (shown_count s)
    ++ entangled_line (shown_displacement s) (worst (size_of s)) third)))

abbrev pub of_the_run : List ℕ → List ℕ
of_the_run s = run_line s ++ cond (is_run s) (left_line (after_run s) ++ right_line (after_run s)) []

unfoldable pub sheet_text : List ℕ → ℕ → List ℕ
unfolding refusal run_refusal after_run
sheet_text s third =
    cond (accepted (refusal s)) (as_it_stands s third ++ of_the_run s) (refused_line (told_of s (refusal s)))

-- The bytes are the sheet of s.
pub record Sheet (s text : List ℕ) : Type 0 where
  pub third : ℕ
  pub third_told : ThirdNumber s third
  pub says : text ≡ sheet_text s third

-- ---- the same line by line, each asked for of the record as it is then: line 6 makes the run

unfoldable pub line_of_record : List ℕ → ℕ → ℕ → List ℕ
unfolding run_refusal
line_of_record s third k =
    cond (eqb k 1) (heading_line (hold_of s) (size_of s))
    (cond (eqb k 2) (left_line s)
    (cond (eqb k 3) (right_line s)
    (cond (eqb k 4) (count_line (shown_count s))
    (cond (eqb k 5) (entangled_line (shown_displacement s) (worst (size_of s)) third)
    (cond (eqb k 6) (run_line s)
    (cond (eqb k 7) (cond (is_run s) (left_line s) [])
    (cond (eqb k 8) (cond (is_run s) (right_line s) [])
    [])))))))

unfoldable pub line_text : List ℕ → ℕ → ℕ → List ℕ
unfolding refusal line_of_record
line_text s third k =
    cond (accepted (refusal s)) (line_of_record s third k) (cond (eqb k 1) (refused_line (told_of s (refusal s))) [])

unfoldable pub after_line : List ℕ → ℕ → List ℕ
unfolding after_run
after_line s k = cond (eqb k 6) (after_run s) s
