-- The examples, by computation.
use Prim.Native.Nat.{ℕ, suc, ◌*◌}
use mathlib.Core.Path.{◌≡◌, refl}
use mathlib.Core.Bool.{Bool, true, not, ◌&&◌}
use mathlib.Core.List.{List, [], ◌∷◌}
use borrow.Author.Tests.{eqb-true, eqb-false, leb-true, ltb-true, not-true}
use lib.Dec.{eqb, leb, ltb}
use Rattle.tanglegram.specs.Lists.{place, range}
use Rattle.tanglegram.specs.Tree.{leaves, deep, object, used}
use Rattle.tanglegram.specs.Order.{order, write, uppermost, reading, pinned_as, against_pins}
use Rattle.tanglegram.specs.Crossings.{over, across, pairs, count}
use Rattle.tanglegram.specs.Freeing.{choose, freed}
use Rattle.tanglegram.specs.Run.{go, run, after}
use Rattle.tanglegram.specs.Entanglement.{sum, displacement, worst}
use Rattle.tanglegram.specs.Examples as list
use Rattle.tanglegram.specs.Examples.{Line}
use Rattle.tanglegram.proofs.Bools.{and_both}
use Rattle.tanglegram.proofs.Thousandths.{from_next}
use Rattle.work_tree_rule.specs.Rule.{among, first, bad_row}
use Rattle.record_fields.specs.Refused.{NumberAndRow}
use Rattle.record_fields.specs.Fields.{size_of, numbers, split, parts_of, packed}
use Rattle.record_fields.specs.Refusals.{all, is_mark, is_hold, no_size, breaks_rule, one_to_one, is_layout, contents_refusal, heading_refusal}
use Rattle.record_fields.specs.Refusals.{refusal}
use Rattle.record_fields.specs.Meaning.{relaid}
use Rattle.record_fields.specs.Told.{row_for, told_of}
use Rattle.record_arrays.specs.Sides.{is_side, holds}
use Rattle.record_arrays.specs.Rows.{no_row}
use Rattle.record_arrays.specs.Shown.{shown_displacement}
use Rattle.calls_turns.specs.Refusals.{no_allowance, free_refusal, run_refusal}
use Rattle.calls_hands.specs.Refusals.{hand_refusal, entries_refusal, hands_refusal}
use Rattle.calls_hands.specs.Calls.{handed}
use Rattle.calls_pins.specs.Refusals.{pin_refusal}
use Rattle.record_orders.specs.Proposed.{same, is_order}
use Rattle.calls_take_in.specs.Refusals.{take_in_refusal}
use Rattle.calls_show.specs.InThousandths.{InThousandths}
use Rattle.calls_show.specs.InThousandths as in_thousandths
use Rattle.calls_show.specs.Calls.{squared_entanglement, TellsThousandths}
use Rattle.newick.specs.Sentence.{leaf_numbers}
use Rattle.newick.specs.Reading.{text_read}
use Rattle.newick.specs.Rows.{rows_of}
use Rattle.newick.specs.Writing.{sentence_of, text_of}
use Rattle.calls_newick.specs.Refusals.{keeps_grammar, said, is_numbered, newick_read_refusal, written_text}
use Rattle.merge.specs.Entries.{named_by, entry_for, names_none}
use Rattle.merge.specs.Tables.{rows_in, table_for, any, some_none, among_entries, twice}
use Rattle.calls_merge.specs.Refusals.{merge_read_refusal, written_table}
use Rattle.work_text.specs.Decimal.{digits_within, decimal}
use Rattle.work_text.specs.Lines.{spaced, line}
use Rattle.calls_sheet.specs.Sheet.{after_run, sheet_text}
use Rattle.promises.specs.Cases.{record_of}
use Rattle.promises.specs.Examples.{thousandths_told, AllTold, Examples}

-- ---- thousandths: what an answer's numbers must be is a test

abbrev pub fits : List ℕ → InThousandths → Bool
fits s (in_thousandths.Ratio k) =
    eqb (refusal s) 0
    && (leb 2 (size_of s)
    && (leb (k * k * worst (size_of s)) (1000000 * shown_displacement s)
    && ltb (1000000 * shown_displacement s) (suc k * suc k * worst (size_of s))))
fits s in_thousandths.NoRatio = eqb (refusal s) 0 && eqb (size_of s) 1
fits s (in_thousandths.Refused r) =
    not (eqb (refusal s) 0) && (eqb r.number (refusal s) && eqb r.row (told_of s (refusal s)).row)

pub tells : (s : List ℕ) (answer : InThousandths) → fits s answer ≡ true → TellsThousandths s answer
tells s (in_thousandths.Ratio k) e =
    let a = and_both _ _ e in
    let b = and_both _ _ a.1 in
    let c = and_both _ _ b.1 in
    record {
      answers = (
        eqb-true (refusal s) 0 a.0,
        leb-true 2 (size_of s) b.0,
        from_next (shown_displacement s) (worst (size_of s)) k (leb-true _ _ c.0) (ltb-true _ _ c.1),
      );
    }
tells s in_thousandths.NoRatio e =
    let a = and_both _ _ e in record { answers = (eqb-true (refusal s) 0 a.0, eqb-true (size_of s) 1 a.1) }
tells s (in_thousandths.Refused r) e =
    let a = and_both _ _ e in
    let b = and_both _ _ a.1 in
    let number = eqb-true r.number (refusal s) b.0 in
    let row = eqb-true r.row (told_of s (refusal s)).row b.1 in
    record { answers = (eqb-false (refusal s) 0 (not-true _ a.0), same r number row) }
  where
    same : (r : NumberAndRow) → r.number ≡ refusal s → r.row ≡ (told_of s (refusal s)).row → r ≡ told_of s (refusal s)
    same r e f = rw (e, f) refl

abbrev all_fit : List Line → Bool
all_fit [] = true
all_fit (l ∷ ls) = fits (record_of l.from) (thousandths_told l) && all_fit ls

all_told : (ls : List Line) → all_fit ls ≡ true → AllTold ls
all_told [] e = tt
all_told (l ∷ ls) e = let a = and_both _ _ e in (tells (record_of l.from) (thousandths_told l) a.0, all_told ls a.1)

pub examples : Examples
unfolding order write leaves deep object count place range over across pairs choose freed go run after sum displacement
    used among first bad_row numbers split parts_of packed all is_mark is_hold no_size breaks_rule one_to_one is_layout contents_refusal
    heading_refusal refusal row_for is_side holds no_allowance free_refusal run_refusal squared_entanglement
    text_read leaf_numbers rows_of keeps_grammar said is_numbered newick_read_refusal sentence_of text_of written_text
    named_by entry_for names_none rows_in table_for any some_none among_entries twice merge_read_refusal written_table
    no_row pin_refusal hand_refusal entries_refusal hands_refusal handed
    uppermost reading pinned_as against_pins same is_order take_in_refusal
    digits_within decimal spaced line relaid after_run sheet_text
examples = record {
  table = refl;
  in_thousandths = all_told list.examples refl;
  texts_read = refl;
  texts_written = refl;
  tables_read = refl;
  tables-written = refl;
  pins = refl;
  hands = refl;
  orders_taken_in = refl;
  sheets = refl;
}
