-- Each wrong outcome contradicts a field of its promise, by computation.
use Prim.Native.Nat.{ℕ, pred, ◌-◌, ◌*◌, ◌<◌}
use mathlib.Core.Path.{◌≡◌, refl, sym, ap, ◌∙◌}
use mathlib.Core.Logic.{◌⊎◌, ⊎_elim}
use mathlib.Core.Bool.{true, false, true≢false, false≢true}
use mathlib.Core.List.{List, [], ◌∷◌}
use mathlib.Core.Option.{some-ne-none}
use native.Mathlib.Omega.{arith}
use borrow.Author.Tests.{ne_eqb}
use lib.ListN.{get_or}
use Rattle.tanglegram.specs.Lists.{place, range}
use Rattle.tanglegram.specs.Tree.{leaves, deep, object, used, Row}
use Rattle.tanglegram.specs.Order.{order, write, turned, may_change}
use Rattle.tanglegram.specs.Crossings.{over, across, pairs, count}
use Rattle.tanglegram.specs.Freeing.{choose, freed}
use Rattle.tanglegram.specs.declared.side.Side.TheVariants.{Left as left}
use Rattle.tanglegram.specs.Run.{after}
use Rattle.tanglegram.specs.Entanglement.{sum, displacement, worst}
use Rattle.tanglegram.specs.Examples.{case2, gains_in_turn2, one_leaf}
use Rattle.work_trees.specs.Rows.{upper, lower}
use Rattle.work_tree_rule.specs.Rule.{among, first, bad_row}
use Rattle.newick.specs.Sentence.{Sentence, number, group, none}
use Rattle.newick.specs.Reading.{broken, read, text_read}
use Rattle.newick.specs.Rows.{rows_of}
use Rattle.newick.specs.Writing.{text_length}
use Rattle.newick.proofs.Grammar.{read_spells, spells_read}
use Rattle.record_fields.specs.Fields.{size_of, parts, numbers, split, parts_of, packed}
use Rattle.record_fields.specs.Refusals.{all, is_mark, is_hold, no_size, breaks_rule, one_to_one, is_layout, contents_refusal, heading_refusal}
use Rattle.record_fields.specs.Refusals.{refusal}
use Rattle.record_fields.specs.Meaning.{relaid}
use Rattle.record_arrays.specs.Shown.{shown_count, shown_displacement}
use Rattle.calls_better.specs.Refusals.{better_refusal}
use Rattle.calls_better.specs.Calls.{better_which}
use Rattle.promises.specs.Demand2.{FreeKeeps}
use Rattle.promises.specs.Demand3.{count_after}
use Rattle.merge.specs.Entries.{Names, named_by, names_none}
use Rattle.merge.specs.Tables.{rows_in, any, some_none, among_entries, twice}
use Rattle.merge.proofs.Entries.{named_one}
use Rattle.record_fields.specs.Meaning.{rows_on}
use Rattle.record_arrays.specs.Sides.{side_of, is_side, holds}
use Rattle.record_arrays.specs.Rows.{no_row, row_byte}
use Rattle.calls_hands.specs.Refusals.{hand, hand_refusal, entries_refusal, hands_refusal}
use Rattle.calls_merge.specs.Refusals.{merge_read_refusal}
use Rattle.promises.specs.Cases.{record_of, case2_freed}
use Rattle.promises.specs.MergeExamples.{plus, example1}
use Rattle.promises.proofs.Merge.{told-number}
use Rattle.promises.specs.Newick.{ReadAs}
use Rattle.promises.proofs.TakeInTried.{tried as take-in-tried}
use Rattle.promises.proofs.SheetTried.{tried as sheet-tried}
use Rattle.promises.specs.Tried.{tied, byte4, tied_pinned, pinned_root, root_moved, pinned_held, case2_record, pinned_over, cleared}
use Rattle.promises.specs.Tried.{both_bad, good_text, bad_text, nines, twice_then_zero, own_row, leaf_twice, Tried}

-- the record is accepted, and with the byte 4 it is refused
refusals : (refusal tied ≡ 0) × (refusal byte4 ≡ 10)
unfolding range used among first bad_row numbers split parts_of packed relaid all is_mark is_hold no_size breaks_rule one_to_one is_layout
    contents_refusal heading_refusal refusal
refusals = (refl, refl)

-- the left root's byte
root : FreeKeeps tied left byte4 → (◌≡◌ {A = ℕ} 4 1) ⊎ (◌≡◌ {A = ℕ} 4 0)
unfolding deep object numbers split parts_of packed relaid range
root k = k.turned_or_kept.0

-- the same where it is pinned; and the left root of example 3 pinned, where it is the third row's byte
pinned-root : FreeKeeps tied left tied_pinned → (◌≡◌ {A = ℕ} 2 1) ⊎ (◌≡◌ {A = ℕ} 2 0)
unfolding deep object numbers split parts_of packed range
pinned-root k = k.turned_or_kept.0

third-row : FreeKeeps pinned_root left root_moved → false ≡ true
unfolding deep object numbers split parts_of packed range
third-row k = (k.turned_exactly.0.0 refl).0

-- what the records' bytes say
row-bytes : (row_byte pinned_root left 3 ≡ 2) × (row_byte root_moved left 3 ≡ 3) × (row_byte tied left 2 ≡ 0) × (row_byte tied_pinned left 2 ≡ 2)
    × (row_byte case2_record left 3 ≡ 0) × (row_byte pinned_over left 3 ≡ 3)
unfolding numbers split parts_of packed range
row-bytes = (refl, refl, refl, refl, refl, refl)

-- a held and pinned record is accepted, and has the row; what hand lists on it tell
pinned-numbers : (refusal pinned_held ≡ 0) × (no_row (size_of pinned_held) 3 ≡ false) × (is_side 1 ≡ true)
    × (hands_refusal pinned_root (hand 1 3 ∷ []) ≡ 22) × (hands_refusal pinned_held (hand 1 3 ∷ []) ≡ 11)
unfolding range used among first bad_row numbers split parts_of packed all is_mark is_hold no_size breaks_rule one_to_one is_layout
    contents_refusal heading_refusal refusal is_side holds no_row hand_refusal entries_refusal hands_refusal
pinned-numbers = (refl, refl, refl, refl, refl)

same : shown_count byte4 ≡ shown_count tied
unfolding order leaves deep object count place range over across pairs used numbers split parts_of packed relaid
same = refl

-- D and W of example 4; the leaves of a record over one, and of one where nothing crosses
measured : (shown_displacement (record_of case2) ≡ 18) × (worst (size_of (record_of case2)) ≡ 20)
unfolding order leaves deep object place range over across pairs sum displacement numbers split parts_of packed
measured = (refl, refl)

leaf-counts : (size_of (record_of (one_leaf 2)) ≡ 1) × (size_of cleared ≡ 3)
unfolding numbers split parts_of packed range
leaf-counts = (refl, refl)

counts : (count_after (record_of gains_in_turn2) 1 ≡ 1) × (count_after (record_of gains_in_turn2) 2 ≡ 0)
unfolding order write leaves deep object count place range over across pairs choose freed after used numbers split parts_of packed
counts = (refl, refl)

-- the first row of the right tree keeps the rule
first-right : Row 3 (upper both_bad.right_rows) (lower both_bad.right_rows) 1
unfolding used
first-right = record {
  upper_least = omega arith;
  upper-below = omega arith;
  lower_least = omega arith;
  lower-below = omega arith;
  apart = λ e. omega (arith, e);
  upper_new = tt;
  lower_new = tt;
}

-- what is read of the good text, and that the other is none
abbrev leaf_of : ℕ → Sentence
leaf_of d = number (d ∷ []) none

abbrev good_sentence : Sentence
good_sentence = group (group (leaf_of 50) (leaf_of 49) none) (group (leaf_of 52) (leaf_of 51) none) none

good-read : text_read good_text ≡ read good_sentence []
unfolding text_read
good-read = refl

bad_read : text_read bad_text ≡ broken
unfolding text_read
bad_read = refl

no_sentence : (s : Sentence) → text_read bad_text ≡ read s [] → ⊥
no_sentence s e = let f = sym bad_read ∙ e in let z : ◌≡◌ {A = ℕ} 0 1 = cc in omega (arith, z)

-- its rows begin with 2
first-row : (n : ℕ) (rows : List ℕ) → ReadAs good_sentence n rows → get_or rows 0 0 ≡ 2
unfolding rows_of
first-row n rows k = ap (λ r. get_or r 0 0) k.closing_order

ten_bytes : text_length (size_of tied) ≡ 10
unfolding text_length numbers split parts_of packed range
ten_bytes = refl

-- the numbers of the tables, and the first row of the good one
numbers-told : (merge_read_refusal 4 example1 nines ≡ 0) × (merge_read_refusal 3 twice_then_zero nines ≡ 20)
    × (merge_read_refusal 2 own_row nines ≡ 20) × (merge_read_refusal 3 leaf_twice nines ≡ 21)
unfolding range no_size names_none any some_none among_entries twice merge_read_refusal
numbers-told = (refl, refl, refl, refl)

rows-begin : get_or (rows_in 4 example1) 0 0 ≡ 1
unfolding named_by rows_in
rows-begin = refl

-- row 2 of case 2's left begins with leaf 3, which plus 1 does not name
row_2 : Names (size_of (record_of case2_freed)) (plus 1) (get_or (rows_on (parts (record_of case2_freed)) (side_of 1)) 2 0) → ◌≡◌ {A = ℕ} 5 3
unfolding named_by numbers split parts_of packed range
row_2 k = named_one k

room : 2 < 2 * (size_of (record_of case2_freed) - 1)
unfolding numbers split parts_of packed range
room = omega arith

pub tried : Tried
unfolding better_which
tried = record {
  last_bad_row = λ k. let first = ((k.left refl).earlier 1 (omega arith) (omega arith)).lower-below in omega (arith, first);
  no_bad_row = λ P k. let one = (k.left refl).is_row.0 in omega (arith, one);
  good_row = λ k. (k.right refl).broken first-right;
  row_left_over = λ P i h k. let none = k.no_row (λ e. omega (arith, e)) (λ e. omega (arith, e)) in omega (arith, none);
  no_record_afterwards = λ k. let again = k.same_trees.accepted_again refusals.0 in omega (arith, again, refusals.1);
  same_count = same;
  byte_neither_turned_nor_kept = λ k. ⊎_elim (λ e. omega (arith, e)) (λ e. omega (arith, e)) (root k);
  pinned_row_turned = λ k. false≢true (third-row k);
  pinned_row_moved = λ k.
      let e = k.pinned_stays left 3 (ap may_change row-bytes.0) in omega (arith, e, row-bytes.0, row-bytes.1);
  pinned_in_place_of_freed = λ k. ⊎_elim (λ e. omega (arith, e)) (λ e. omega (arith, e)) (pinned-root k);
  pinned_by_the_way = λ k. false≢true (sym (ap may_change row-bytes.3) ∙ k.same_pins left 2 ∙ ap may_change row-bytes.2);
  pins_nothing = λ k. true≢false (sym (ap may_change row-bytes.4) ∙ k.pins_the_row refl);
  pins_and_turns = λ k. true≢false (sym (ap turned row-bytes.5) ∙ k.keeps_the_turnings left 3 ∙ ap turned row-bytes.4);
  held_not_pinned = λ k. let e = k.or_none pinned-numbers.2 pinned-numbers.0 pinned-numbers.1 in omega (arith, e);
  hand_on_a_pin = λ s' k. let e = ap (λ r. r.number) k.answers in omega (arith, e, pinned-numbers.3);
  pin_before_hold = λ s' k. let e = ap (λ r. r.number) k.answers in omega (arith, e, pinned-numbers.4);
  settled_after_a_gain = λ answer s' t e k.
      let s = record_of gains_in_turn2 in
      let same = ap (count_after s) (sym t) ∙ k.last_gained_nothing e ∙ ap (λ j. count_after s (pred j)) t in
      omega (arith, same, counts.0, counts.1);
  settled_at_turn_1 = λ answer s' e k. let never = k.not_by_one refl in omega (arith, never);
  refused_part_of_second = λ s side first second first-at second_at ne h b.
      ne (sym (b.begins ∙ rw (ne_eqb (better_refusal s side first second) 0 h) refl));
  rounded = λ k. let h = (k.root 949 refl).largest.has in omega (arith, h, measured);
  no_root = λ k. let h = (k.root 900 refl).largest.most 901 (omega (arith, measured)) in omega (arith, h);
  thousand_for_million = λ k. let h = (k.root 30 refl).largest.most 31 (omega (arith, measured)) in omega (arith, h);
  one_leaf_told = λ k. some-ne-none 0 (k.no_ratio.1 leaf-counts.0);
  no_ratio_told = λ k. let e = k.no_ratio.0 refl in omega (arith, e, leaf-counts.1);
  refused_by_0 = λ s t. t.answers.0 (sym (ap (λ r. r.number) t.answers.1));
  refuses_good_text = λ k. k.breaks_grammar.0 refl good_sentence (read_spells good_text good_sentence [] good-read).1;
  leaf_twice_first = λ k. let p = k.not_numbered.0 refl in no_sentence p.0 (spells_read bad_text p.0 p.1);
  opening_order = λ k.
      let e = first-row _ _ (k.read_as refl good_sentence (read_spells good_text good_sentence [] good-read).1) in omega (arith, e);
  reads_nothing = λ k.
      let e = first-row _ _ (k.read_as refl good_sentence (read_spells good_text good_sentence [] good-read).1) in omega (arith, e);
  line_feed_written = λ out out' k. let e = k.long in omega (arith, e, ten_bytes);
  refuses_good_table = λ k. let e = told-number _ _ _ ((k.exactly 20).0 refl) in omega (arith, e, numbers-told.0);
  twice_before_zero = λ k. let e = told-number _ _ _ ((k.exactly 21).0 refl) in omega (arith, e, numbers-told.1);
  own_row_accepted = λ out k. let e = told-number _ _ _ ((k.exactly 0).0 refl) in omega (arith, e, numbers-told.2);
  leaf_in_two_rows = λ out k. let e = told-number _ _ _ ((k.exactly 0).0 refl) in omega (arith, e, numbers-told.3);
  signs_exchanged = λ k. let e = ap (λ r. get_or r 0 0) (k.rows_read refl) in omega (arith, e, rows-begin);
  no_rows_written = λ k. let e = ap (λ r. get_or r 0 0) (k.rows_read refl) in omega (arith, e, rows-begin);
  orders_taken_in = take-in-tried;
  sheets = sheet-tried;
  turned_over_in_table = λ out k. let e = row_2 (k.names_rows 2 room) in omega (arith, e);
  part_elsewhere = λ s side first second first-at second_at part part_at e ne b. ne (b.begins ∙ rw e refl);
}
