-- Wrong outcomes that the promises exclude: each was tried. Those of freeing, running and better of two met an earlier wording.
use Rattle.std.specs.Prelude.{ℕ, ◌≤◌, ◌≡◌, ◌≢◌, true, List, [], ◌∷◌, ℤ}
use Rattle.tanglegram.specs.declared.side.Side.TheVariants.{Left as left}
use Rattle.tanglegram.specs.Examples.{bytes_of, case2_with, case2, root_pinned, roots_tie, gains_in_turn2, one_leaf}
use Rattle.record_fields.specs.Fields.{Parts, given}
use Rattle.record_fields.specs.Meaning.{relaid}
use Rattle.record_fields.specs.Refused.{refused}
use Rattle.record_fields.specs.Told.{SaysRow}
use Rattle.record_arrays.specs.Shown.{shown_count}
use Rattle.calls_show.specs.InThousandths as in_thousandths
use Rattle.calls_show.specs.Calls.{TellsThousandths}
use Rattle.calls_turns.specs.Answers.{Ran}
use Rattle.calls_hands.specs.Refusals.{hand}
use Rattle.calls_hands.specs.Calls.{Hands}
use Rattle.calls_better.specs.Refusals.{better_refusal}
use Rattle.calls_better.specs.Calls.{better_which, Address, Betters}
use Rattle.promises.specs.HeldStays.{Keeps}
use Rattle.promises.specs.PinnedStays.{PinsKept}
use Rattle.promises.specs.PinOnly.{PinOnly}
use Rattle.promises.specs.Demand2.{FreeKeeps}
use Rattle.promises.specs.Demand3.{RunKeeps}
use Rattle.promises.specs.Entanglement.{ThousandthsKeeps}
use Rattle.promises.specs.Newick.{Reading, Writing}
use Rattle.promises.specs.Merge.{TableReading, TableWriting}
use Rattle.promises.specs.TakeInTried.{TakeInTried}
use Rattle.promises.specs.SheetTried.{SheetTried}
use Rattle.promises.specs.Cases.{held_record_of, record_of, case2_freed}
use Rattle.promises.specs.MergeExamples.{minus, plus, example1}

-- Example 5, whose roots tie, and the same with the left root's byte 4: not the byte that turns it over, though read as turned. The count
-- is the same, so that only what is said of the byte excludes it.
abbrev pub tied : List ℕ
tied = record_of (roots_tie (bytes_of (0 ∷ 0 ∷ []) (0 ∷ 0 ∷ [])))

abbrev pub byte4 : List ℕ
byte4 = relaid tied (bytes_of (0 ∷ 4 ∷ []) (0 ∷ 0 ∷ []))

-- The same with the left root pinned, which makes it the least by leaving no choice.
abbrev pub tied_pinned : List ℕ
tied_pinned = record_of (roots_tie (bytes_of (0 ∷ 2 ∷ []) (0 ∷ 0 ∷ [])))

-- Example 5 with the layouts at which nothing crosses.
abbrev pub cleared : List ℕ
cleared = record_of (roots_tie (bytes_of (1 ∷ 0 ∷ []) (0 ∷ 1 ∷ [])))

-- Example 3 with the left root pinned as given; and with row 2 and the root turned over, the root pinned as it was: nothing crosses, but
-- the rack's section has moved.
abbrev pub pinned_root : List ℕ
pinned_root = record_of root_pinned

abbrev pub root_moved : List ℕ
root_moved = record_of (case2_with (bytes_of (0 ∷ 1 ∷ 3 ∷ []) (0 ∷ 0 ∷ 0 ∷ [])))

-- And with its side held as well.
abbrev pub pinned_held : List ℕ
pinned_held = held_record_of 76 root_pinned

-- Example 3 itself, and with the root turned over and pinned.
abbrev pub case2_record : List ℕ
case2_record = record_of case2

abbrev pub pinned_over : List ℕ
pinned_over = record_of (case2_with (bytes_of (0 ∷ 0 ∷ 3 ∷ []) (0 ∷ 0 ∷ 0 ∷ [])))

-- Rows over three leaves of which both break the tree rule: the first by its range, the second by using its entry twice.
abbrev pub both_bad : Parts
both_bad = given 78 3 (1 ∷ 5 ∷ 2 ∷ 2 ∷ []) (1 ∷ 2 ∷ 4 ∷ 3 ∷ []) (1 ∷ 2 ∷ 3 ∷ []) (0 ∷ 0 ∷ []) (0 ∷ 0 ∷ [])

-- The text `((2,1),(4,3));`; the same leaves with a leaf twice and a parenthesis missing, `((1,1),(4,3);`; and a buffer for three rows.
abbrev pub good_text : List ℕ
good_text = 40 ∷ 40 ∷ 50 ∷ 44 ∷ 49 ∷ 41 ∷ 44 ∷ 40 ∷ 52 ∷ 44 ∷ 51 ∷ 41 ∷ 41 ∷ 59 ∷ []

abbrev pub bad_text : List ℕ
bad_text = 40 ∷ 40 ∷ 49 ∷ 44 ∷ 49 ∷ 41 ∷ 44 ∷ 40 ∷ 52 ∷ 44 ∷ 51 ∷ 41 ∷ 59 ∷ []

abbrev pub nines : List ℕ
nines = 9 ∷ 9 ∷ 9 ∷ 9 ∷ 9 ∷ 9 ∷ []

-- Tables over three, two and three leaves: leaf 1 twice and then a zero; row 1 in row 1; leaf 1 in two rows. And the table that case 2's
-- left would have if its layout after freeing played a part.
abbrev pub twice_then_zero : List ℤ
twice_then_zero = minus 1 ∷ minus 1 ∷ minus 0 ∷ plus 1 ∷ []

abbrev pub own_row : List ℤ
own_row = plus 1 ∷ minus 2 ∷ []

abbrev pub leaf_twice : List ℤ
leaf_twice = minus 1 ∷ minus 2 ∷ minus 1 ∷ plus 1 ∷ []

abbrev pub as_it_stands : List ℤ
as_it_stands = minus 1 ∷ minus 2 ∷ plus 1 ∷ minus 3 ∷ plus 2 ∷ minus 4 ∷ []

pub record Tried : Type 0 where
  -- A refusal 7 that says the last bad row in place of the lowest; one that says no row;
  pub last_bad_row : SaysRow both_bad 7 2 → ⊥
  pub no_bad_row : (P : Parts) → SaysRow P 7 0 → ⊥
  -- that says the left tree's row with 8, where the right tree has none;
  pub good_row : SaysRow both_bad 8 1 → ⊥
  -- and a row that is left over beside 9.
  pub row_left_over : (P : Parts) (i : ℕ) → 1 ≤ i → SaysRow P 9 i → ⊥
  -- A call that makes a record one that is refused.
  pub no_record_afterwards : Keeps tied byte4 → ⊥
  -- Freeing after which a row's byte is neither the other one nor the same, at the same count.
  pub same_count : shown_count byte4 ≡ shown_count tied
  pub byte_neither_turned_nor_kept : FreeKeeps tied left byte4 → ⊥
  -- Freeing that turns a pinned row over, though that leaves nothing crossing; and any call that does.
  pub pinned_row_turned : FreeKeeps pinned_root left root_moved → ⊥
  pub pinned_row_moved : PinsKept pinned_root root_moved → ⊥
  -- Freeing that pins a row where it should choose: no choice is then less; and any call that does.
  pub pinned_in_place_of_freed : FreeKeeps tied left tied_pinned → ⊥
  pub pinned_by_the_way : PinsKept tied tied_pinned → ⊥
  -- A row said to be pinned that is as it was; one that is pinned and turned over; 11 for a row of a held side, which is pinned already.
  pub pins_nothing : PinOnly case2_record 1 3 true (refused 0) case2_record → ⊥
  pub pins_and_turns : PinOnly case2_record 1 3 true (refused 0) pinned_over → ⊥
  pub held_not_pinned : PinOnly pinned_held 1 3 true (refused 11) pinned_held → ⊥
  -- A hand list over a pinned row that is accepted, whatever becomes of the record; and 22 told where its side is held.
  pub hand_on_a_pin : (s' : List ℕ) → Hands pinned_root (hand 1 3 ∷ []) (refused 0) s' → ⊥
  pub pin_before_hold : (s' : List ℕ) → Hands pinned_held (hand 1 3 ∷ []) (refused 22) s' → ⊥
  -- A run of example 6 that stops at turn 2, which gained, and calls it settled.
  pub settled_after_a_gain : (answer : Ran) (s' : List ℕ) → answer.turns ≡ 2 → answer.settled ≡ 1 →
      RunKeeps (record_of gains_in_turn2) 130818 answer s' → ⊥
  -- A run of one leaf that calls one turn settled.
  pub settled_at_turn_1 : (answer : Ran) (s' : List ℕ) → answer.settled ≡ 1 → RunKeeps (record_of (one_leaf 1)) 1 answer s' → ⊥
  -- Better of two that answers an empty part of the second order where it is refused;
  pub refused_part_of_second : (s : List ℕ) (side : ℕ) (first second : List ℕ) (first-at second_at : Address) → first-at ≢ second_at →
      better_refusal s side first second ≢ 0 → Betters s side first second first-at second_at [] second_at → ⊥
  -- that answers any other place than the first order's first one, where that is better or both cross alike: the same entries in the
  -- second, or later in the first.
  pub part_elsewhere : (s : List ℕ) (side : ℕ) (first second : List ℕ) (first-at second_at : Address) (part : List ℕ) (part_at : Address) →
      better_which s side first second ≡ 1 → part_at ≢ first-at → Betters s side first second first-at second_at part part_at → ⊥
  -- Example 4 told as 949, rounded to the nearest or up; as 900, with no root; as 30, the root in thousands.
  pub rounded : ThousandthsKeeps (record_of case2) (in_thousandths.Ratio 949) → ⊥
  pub no_root : ThousandthsKeeps (record_of case2) (in_thousandths.Ratio 900) → ⊥
  pub thousand_for_million : ThousandthsKeeps (record_of case2) (in_thousandths.Ratio 30) → ⊥
  -- One leaf told as 0; no ratio where nothing crosses; a refusal by the number 0.
  pub one_leaf_told : ThousandthsKeeps (record_of (one_leaf 2)) (in_thousandths.Ratio 0) → ⊥
  pub no_ratio_told : ThousandthsKeeps cleared in_thousandths.NoRatio → ⊥
  pub refused_by_0 : (s : List ℕ) → TellsThousandths s (in_thousandths.Refused (refused 0)) → ⊥
  -- Reading that refuses a good text by 18; that tells 19 of a text that breaks the grammar, which has a leaf twice;
  pub refuses_good_text : Reading good_text nines (record { refusal = refused 18; n = 0 }) nines → ⊥
  pub leaf_twice_first : Reading bad_text nines (record { refusal = refused 19; n = 0 }) nines → ⊥
  -- that numbers rows in the order in which groups open: the root is row 1, and makes object 5;
  pub opening_order : Reading good_text nines (record { refusal = refused 0; n = 4 }) (6 ∷ 7 ∷ 2 ∷ 1 ∷ 4 ∷ 3 ∷ []) → ⊥
  -- and that accepts it and writes nothing.
  pub reads_nothing : Reading good_text nines (record { refusal = refused 0; n = 4 }) nines → ⊥
  -- Writing that ends in a line feed.
  pub line_feed_written : (out out' : List ℕ) → Writing tied 1 out (record { refusal = refused 0; length = 11 }) out' → ⊥
  -- Reading a table: a good one refused by 20; 21 told of one that has a zero later on;
  pub refuses_good_table : TableReading 4 example1 nines (refused 20) nines → ⊥
  pub twice_before_zero : TableReading 3 twice_then_zero nines (refused 21) nines → ⊥
  -- one accepted that has row 1 in row 1, or leaf 1 in two rows, whatever is written;
  pub own_row_accepted : (out : List ℕ) → TableReading 2 own_row nines (refused 0) out → ⊥
  pub leaf_in_two_rows : (out : List ℕ) → TableReading 3 leaf_twice nines (refused 0) out → ⊥
  -- minus and plus exchanged; and nothing written.
  pub signs_exchanged : TableReading 4 example1 nines (refused 0) (5 ∷ 6 ∷ 7 ∷ 1 ∷ 8 ∷ 2 ∷ []) → ⊥
  pub no_rows_written : TableReading 4 example1 nines (refused 0) nines → ⊥
  -- Those of taking in an order.
  pub orders_taken_in : TakeInTried
  -- Wrong sheets.
  pub sheets : SheetTried
  -- Writing a table of the left as its layout stands, rows 2 and 3 turned over, and not as its rows are given.
  pub turned_over_in_table : (out : List ℤ) → TableWriting (record_of case2_freed) 1 out as_it_stands → ⊥
