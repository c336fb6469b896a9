-- The list of examples (`tanglegram`), over the calls' definitions: each line's case is a record of bytes with hold `N`, and what the
-- calls answer of it is what the line shows; those of example 9 are refused. And texts and merge tables, read into a buffer, and written
-- of a case's side; rows pinned, and hand lists over pinned rows; orders taken in; and sheets.
use Rattle.std.specs.Prelude.{ℕ, suc, ◌≡◌, Bool, true, false, cond, ◌&&◌, List, [], ◌∷◌, map, Float}
use Rattle.std.proofs.Math.Option.{Option, some, none}
use Rattle.tanglegram.specs.Lists.{range}
use Rattle.tanglegram.specs.declared.side.Side.TheVariants.{Left as left, Right as right}
use Rattle.tanglegram.specs.Table.{order_of, crossings}
use Rattle.tanglegram.specs.Examples.{Case, Shown, Line, bytes_of, case_own, case2, one_leaf, examples}
use Rattle.newick.specs.Sentence.{leaf_count}
use Rattle.newick.specs.Rows.{rows_of}
use Rattle.record_fields.specs.Refusals.{refusal}
use Rattle.record_fields.specs.Refused.{NumberAndRow, refused_row, accepted, lent, or_zero}
use Rattle.record_fields.specs.Told.{told_of}
use Rattle.record_fields.specs.Meaning.{table_of}
use Rattle.record_arrays.specs.Shown.{shown_order, shown_count}
use Rattle.calls_show.specs.InThousandths.{InThousandths}
use Rattle.calls_show.specs.InThousandths as in_thousandths
use Rattle.calls_show.specs.Calls.{squared_entanglement, displaced_in, worst_in, ratio_in, TellsThousandths}
use Rattle.calls_turns.specs.Refusals.{free_refusal, run_refusal}
use Rattle.calls_turns.specs.Calls.{freed_layouts, ran_to}
use Rattle.calls_newick.specs.Refusals.{said, newick_read_refusal, written_text}
use Rattle.merge.specs.Tables.{rows_in}
use Rattle.calls_merge.specs.Refusals.{merge_read_refusal, written_table}
use Rattle.promises.specs.Demand3.{count_after}
use Rattle.promises.specs.Cases.{record_of, case2_freed}
use Rattle.promises.specs.MergeExamples.{TableLine, table_examples, tables_written}
use Rattle.promises.specs.PinExamples.{pin_to, pin_examples, hand_to, hand_examples}
use Rattle.promises.specs.TakeInExamples.{taken_to, taken_examples}
use Rattle.promises.specs.SheetExamples.{sheets_are, sheets_told}

-- What the calls' definitions say of a case's record: the refusals, with their rows, of reading it, of freeing its left and of running it;
-- then what a line shows, which is nothing but the number and the row where it is refused.
pub record Called : Type 0 where
  pub read_refused : NumberAndRow
  pub free_refused : NumberAndRow
  pub run_refused : NumberAndRow
  pub shown : Shown

abbrev is_ratio : Option Float → Bool
is_ratio none = false
is_ratio (some x) = true

abbrev called : Case → Called
called g =
    let s = record_of g in
    let k = refusal s in
    let e = ran_to s g.allowance in
    let listed : List ℕ → List ℕ = λ xs. cond (accepted k) xs [] in
    record {
      read_refused = told_of s k;
      free_refused = told_of s (free_refusal s 1);
      run_refused = told_of s (run_refusal s g.allowance);
      shown = record {
        refused = k;
        bad_row = (told_of s k).row;
        left_order = listed (shown_order s left);
        right_order = listed (shown_order s right);
        crossed = or_zero k (shown_count s);
        left_own = listed (case_own g left);
        right_own = listed (case_own g right);
        displaced = displaced_in (squared_entanglement s);
        worst_displaced = worst_in (squared_entanglement s);
        has_ratio = is_ratio (ratio_in (squared_entanglement s));
        left_freed = listed (freed_layouts s 1).left_bytes;
        left_freed_order = listed (order_of (table_of s) (freed_layouts s 1) left);
        left_freed_crossed = or_zero k (crossings (table_of s) (freed_layouts s 1));
        turns = or_zero k e.turns;
        settled = accepted k && e.settled;
        counts = listed (map (count_after s) (range 0 (suc e.turns)));
        last_layouts = cond (accepted k) e.last (bytes_of [] []);
      };
    }

abbrev told : Line → Called
told l =
    let r = refused_row l.shows.refused l.shows.bad_row in
    record { read_refused = r; free_refused = r; run_refused = r; shown = l.shows }

-- Its entanglement in thousandths is the line's: k; without one, no ratio, or the line's refusal.
abbrev pub thousandths_told : Line → InThousandths
thousandths_told l = answered l.thousandths
  where
    answered : Option ℕ → InThousandths
    answered (some k) = in_thousandths.Ratio k
    answered none =
        cond (accepted l.shows.refused) in_thousandths.NoRatio
        (in_thousandths.Refused (refused_row l.shows.refused l.shows.bad_row))

abbrev pub AllTold : List Line → Type 0
AllTold [] = Unit {0}
AllTold (l ∷ ls) = TellsThousandths (record_of l.from) (thousandths_told l) × AllTold ls

-- ---- Newick text

-- What reading a text into a buffer comes to: the refusal, n, and the buffer afterwards.
pub record TextRead : Type 0 where
  pub refused : ℕ
  pub leaf_count : ℕ
  pub buffer : List ℕ

abbrev read_to : List ℕ → List ℕ → TextRead
read_to text out =
    let k = newick_read_refusal text out in
    record { refused = k; leaf_count = or_zero k (leaf_count (said text)); buffer = lent k (rows_of (said text)) out }

-- A text, a buffer, and what should come of it.
pub record TextLine : Type 0 where
  pub text : List ℕ
  pub buffer : List ℕ
  pub comes_to : TextRead

abbrev text_line : List ℕ → List ℕ → ℕ → ℕ → List ℕ → TextLine
text_line text out k n after = record { text = text; buffer = out; comes_to = record { refused = k; leaf_count = n; buffer = after } }

abbrev pub text_examples : List TextLine
text_examples =
    -- `(4,(3,(1,2)));`, example 1, into a buffer of seven places: four leaves, and rows in the order in which groups close.
    text_line (40 ∷ 52 ∷ 44 ∷ 40 ∷ 51 ∷ 44 ∷ 40 ∷ 49 ∷ 44 ∷ 50 ∷ 41 ∷ 41 ∷ 41 ∷ 59 ∷ [])
    (9 ∷ 9 ∷ 9 ∷ 9 ∷ 9 ∷ 9 ∷ 9 ∷ []) 0 4 (1 ∷ 2 ∷ 3 ∷ 5 ∷ 4 ∷ 6 ∷ 9 ∷ [])
    -- `((2,1),(4,3));`
    ∷ text_line (40 ∷ 40 ∷ 50 ∷ 44 ∷ 49 ∷ 41 ∷ 44 ∷ 40 ∷ 52 ∷ 44 ∷ 51 ∷ 41 ∷ 41 ∷ 59 ∷ [])
    (9 ∷ 9 ∷ 9 ∷ 9 ∷ 9 ∷ 9 ∷ []) 0 4 (2 ∷ 1 ∷ 4 ∷ 3 ∷ 5 ∷ 6 ∷ [])
    -- `(1:5.,2:.5):007;` and a line feed: lengths are read and dropped.
    ∷ text_line (40 ∷ 49 ∷ 58 ∷ 53 ∷ 46 ∷ 44 ∷ 50 ∷ 58 ∷ 46 ∷ 53 ∷ 41 ∷ 58 ∷ 48 ∷ 48 ∷ 55 ∷ 59 ∷ 10 ∷ []) (9 ∷ 9 ∷ []) 0 2 (1 ∷ 2 ∷ [])
    -- `1;`, one leaf, and `2;`, which is not leaf 1.
    ∷ text_line (49 ∷ 59 ∷ []) ([]) 0 1 ([])
    ∷ text_line (50 ∷ 59 ∷ []) ([]) 19 0 ([])
    -- `0;`, `01;`, no text, `(1:.,2);`, `(1,2)`, two line feeds: no texts.
    ∷ text_line (48 ∷ 59 ∷ []) ([]) 18 0 ([])
    ∷ text_line (48 ∷ 49 ∷ 59 ∷ []) ([]) 18 0 ([])
    ∷ text_line ([]) ([]) 18 0 ([])
    ∷ text_line (40 ∷ 49 ∷ 58 ∷ 46 ∷ 44 ∷ 50 ∷ 41 ∷ 59 ∷ []) (9 ∷ 9 ∷ []) 18 0 (9 ∷ 9 ∷ [])
    ∷ text_line (40 ∷ 49 ∷ 44 ∷ 50 ∷ 41 ∷ []) (9 ∷ 9 ∷ []) 18 0 (9 ∷ 9 ∷ [])
    ∷ text_line (40 ∷ 49 ∷ 44 ∷ 50 ∷ 41 ∷ 59 ∷ 10 ∷ 10 ∷ []) (9 ∷ 9 ∷ []) 18 0 (9 ∷ 9 ∷ [])
    -- `(1,1);`, a leaf twice; without its last parenthesis, no text.
    ∷ text_line (40 ∷ 49 ∷ 44 ∷ 49 ∷ 41 ∷ 59 ∷ []) (9 ∷ 9 ∷ []) 19 0 (9 ∷ 9 ∷ [])
    ∷ text_line (40 ∷ 49 ∷ 44 ∷ 49 ∷ 59 ∷ []) (9 ∷ 9 ∷ []) 18 0 (9 ∷ 9 ∷ [])
    -- `(1,2);` into a buffer of one place.
    ∷ text_line (40 ∷ 49 ∷ 44 ∷ 50 ∷ 41 ∷ 59 ∷ []) (9 ∷ []) 14 0 (9 ∷ [])
    ∷ []

-- A case's side and the text that should be written of it.
pub record WrittenLine : Type 0 where
  pub from : Case
  pub side : ℕ
  pub text : List ℕ

abbrev written_line : Case → ℕ → List ℕ → WrittenLine
written_line g side text = record { from = g; side = side; text = text }

abbrev pub written_examples : List WrittenLine
written_examples =
    -- example 1's left, its right, and its left as freeing leaves it: `(4,(3,(1,2)));`, `((1,2),(3,4));`, `(((1,2),3),4);`
    written_line case2 1 (40 ∷ 52 ∷ 44 ∷ 40 ∷ 51 ∷ 44 ∷ 40 ∷ 49 ∷ 44 ∷ 50 ∷ 41 ∷ 41 ∷ 41 ∷ 59 ∷ [])
    ∷ written_line case2 2 (40 ∷ 40 ∷ 49 ∷ 44 ∷ 50 ∷ 41 ∷ 44 ∷ 40 ∷ 51 ∷ 44 ∷ 52 ∷ 41 ∷ 41 ∷ 59 ∷ [])
    ∷ written_line case2_freed 1 (40 ∷ 40 ∷ 40 ∷ 49 ∷ 44 ∷ 50 ∷ 41 ∷ 44 ∷ 51 ∷ 41 ∷ 44 ∷ 52 ∷ 41 ∷ 59 ∷ [])
    -- one leaf: `1;`
    ∷ written_line (one_leaf 2) 1 (49 ∷ 59 ∷ [])
    ∷ []

-- ---- merge tables

-- What reading a table comes to, as a line shows it.
abbrev table_read : TableLine → TableLine
table_read l =
    let k = merge_read_refusal l.size l.table l.buffer in
    record {
      size = l.size;
      table = l.table;
      buffer = l.buffer;
      refused = k;
      afterwards = lent k (rows_in l.size l.table) l.buffer;
    }

-- All examples: the customer's list; texts and tables read, and written; pins; orders taken in.
pub record Examples : Type 0 where
  pub table : map (λ l. called l.from) examples ≡ map told examples
  pub in_thousandths : AllTold examples
  pub texts_read : map (λ l. read_to l.text l.buffer) text_examples ≡ map (λ l. l.comes_to) text_examples
  pub texts_written : map (λ l. written_text (record_of l.from) l.side) written_examples ≡ map (λ l. l.text) written_examples
  pub tables_read : map table_read table_examples ≡ table_examples
  pub tables-written :
      map (λ l. written_table (record_of l.from) l.side) tables_written ≡ map (λ l. l.table) tables_written
  pub pins : map pin_to pin_examples ≡ map (λ l. l.comes_to) pin_examples
  pub hands : map hand_to hand_examples ≡ map (λ l. l.comes_to) hand_examples
  pub orders_taken_in : map taken_to taken_examples ≡ map (λ l. l.comes_to) taken_examples
  pub sheets : sheets_are ≡ sheets_told
