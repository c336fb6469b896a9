-- The customer, in the fourth request for changes: "Read n and a table of n-1 pairs of 32-bit signed numbers into rows; write the table of
-- one side of a record. Minus a means leaf a, plus i means object n+i of ours. Rows to table and back gives the rows again, and so the
-- other way. Refusals: 20 an entry is zero, or names no leaf, or no earlier row; 21 an entry is used twice. 5 and 6 come first, 20 over
-- the whole table comes before 21, 14 last." For every outcome of the calls.
use Rattle.std.specs.Prelude.{ℕ, ◌-◌, ◌*◌, ◌≤◌, ◌<◌, ◌≡◌, ◌≢◌, ◌↔◌, ◌⊎◌, not, List, eqb, ltb, ℤ, pos, length, get_or, take, drop}
use Rattle.tanglegram.specs.Tree.{Rule}
use Rattle.work_trees.specs.Rows.{upper, lower}
use Rattle.merge.specs.Entries.{Names}
use Rattle.merge.specs.Tables.{rows_in, Pairs, EntryNone, EntryTwice}
use Rattle.record_fields.specs.Fields.{size_of, length_of, Parts, parts}
use Rattle.record_fields.specs.Meaning.{rows_on}
use Rattle.record_fields.specs.Refusals.{◌when◌else◌, is_hold, one_to_one, is_layout}
use Rattle.record_fields.specs.Refused.{NumberAndRow, refused}
use Rattle.record_arrays.specs.Sides.{side_of}
use Rattle.record_packing.specs.Calls.{Packs}
use Rattle.calls_merge.specs.Calls.{MergeReads, MergeWrites}

-- ---- reading

-- When reading a table over n leaves into a buffer tells the number k.
pub data Tells (n : ℕ) (table : List ℤ) (out : List ℕ) : ℕ → Type 0 where
  -- n is 0 or above 512; or it is not, and the table hasn't n - 1 pairs;
  tells_5 : (n ≡ 0) ⊎ (512 < n) → Tells n table out 5
  tells_6 : (1 ≤ n) × (n ≤ 512) → length table ≢ 2 * (n - 1) → Tells n table out 6
  -- or it has, and an entry is zero, or names no leaf, or no earlier row; or none is so, and one is used twice;
  tells_20 : Pairs n table → EntryNone n table → Tells n table out 20
  tells_21 : Pairs n table → (EntryNone n table → ⊥) → EntryTwice table → Tells n table out 21
  -- or none is, and the buffer has fewer than 2(n - 1) places; or it has as many.
  tells_14 : Pairs n table → (EntryNone n table → ⊥) → (EntryTwice table → ⊥) → length out < 2 * (n - 1) → Tells n table out 14
  tells_0 : Pairs n table → (EntryNone n table → ⊥) → (EntryTwice table → ⊥) → 2 * (n - 1) ≤ length out → Tells n table out 0

-- Rows keep the tree rule.
abbrev pub KeepsRule : ℕ → List ℕ → Type 0
KeepsRule n rows = Rule n (upper rows) (lower rows)

pub record TableReading (n : ℕ) (table : List ℤ) (out : List ℕ) (answer : NumberAndRow) (out' : List ℕ) : Type 0 where
  -- Each number is told exactly then; there is no other, and none comes with a row.
  pub exactly : (k : ℕ) → (answer.number ≡ k) ↔ Tells n table out k
  pub no_row : answer.row ≡ 0
  -- 20 and 21 are what the tree rule refuses, and nothing else of a table is refused: a table of n - 1 pairs is refused by one of them
  -- exactly if its rows break the rule, and accepted exactly if they keep it and there is room.
  pub rule_broken : Pairs n table → ((answer.number ≡ 20) ⊎ (answer.number ≡ 21)) ↔ (KeepsRule n (rows_in n table) → ⊥)
  pub rule_kept : Pairs n table → (answer.number ≡ 0) ↔ (KeepsRule n (rows_in n table) × (2 * (n - 1) ≤ length out))
  -- Where it is accepted, the buffer has the objects that the entries name (`Names`), and is as found beyond.
  pub named : answer.number ≡ 0 → (k : ℕ) → k < 2 * (n - 1) → Names n (get_or table k (pos 0)) (get_or out' k 0)
  pub rows_read : answer.number ≡ 0 → take (2 * (n - 1)) out' ≡ rows_in n table
  pub beyond : answer.number ≡ 0 → drop (2 * (n - 1)) out' ≡ drop (2 * (n - 1)) out

-- ---- writing

pub record TableWriting (s : List ℕ) (side : ℕ) (out out' : List ℤ) : Type 0 where
  -- The entries name the objects of the side's rows as they are given, place by place; the buffer is as found beyond.
  pub names_rows : (k : ℕ) → k < 2 * (size_of s - 1) → Names (size_of s) (get_or out' k (pos 0)) (get_or (rows_on (parts s) (side_of side)) k 0)
  pub beyond : drop (2 * (size_of s - 1)) out' ≡ drop (2 * (size_of s - 1)) out

-- ---- packing rows that were read

-- What packing refuses if n and the rows are good: 5, 7, 8, and 6 for the rows are left out.
unfoldable pub pack_refusal_but_rows : Parts → List ℕ → ℕ
pack_refusal_but_rows P out =
    4 when not (is_hold P.hold)
    else 6 when not (eqb (length P.links) P.size)
    else 6 when not (eqb (length P.left_layout) (P.size - 1))
    else 6 when not (eqb (length P.right_layout) (P.size - 1))
    else 9 when not (one_to_one P.size P.links)
    else 10 when not (is_layout P.left_layout)
    else 10 when not (is_layout P.right_layout)
    else 14 when ltb (length out) (length_of P.size)
    else 0

-- ---- all of it

pub record Merge : Type 0 where
  pub reading : (n : ℕ) (table : List ℤ) (out : List ℕ) (answer : NumberAndRow) (out' : List ℕ) → MergeReads n table out answer out' →
      TableReading n table out answer out'
  pub writing : (s : List ℕ) (side : ℕ) (out : List ℤ) (answer : NumberAndRow) (out' : List ℤ) → MergeWrites s side out answer out' →
      answer.number ≡ 0 → TableWriting s side out out'
  -- The rows alone decide a table: two sides with the same rows are written alike, whatever their records' layouts, holds, links and other
  -- sides are.
  pub rows_alone : (s : List ℕ) (side : ℕ) (out : List ℤ) (answer : NumberAndRow) (out' : List ℤ) → MergeWrites s side out answer out' →
      answer.number ≡ 0 → (s₂ : List ℕ) (side₂ : ℕ) (out₂ : List ℤ) (answer₂ : NumberAndRow) (out₂' : List ℤ) →
      MergeWrites s₂ side₂ out₂ answer₂ out₂' → answer₂.number ≡ 0 → size_of s₂ ≡ size_of s →
      rows_on (parts s₂) (side_of side₂) ≡ rows_on (parts s) (side_of side) →
      take (2 * (size_of s - 1)) out₂' ≡ take (2 * (size_of s - 1)) out'
  -- "Rows to table and back gives the rows again": a side written, and its table read into a buffer with room.
  pub rows_back : (s : List ℕ) (side : ℕ) (out : List ℤ) (written : NumberAndRow) (out' : List ℤ) → MergeWrites s side out written out' →
      written.number ≡ 0 → (buffer : List ℕ) → 2 * (size_of s - 1) ≤ length buffer → (answer : NumberAndRow) (after : List ℕ) →
      MergeReads (size_of s) (take (2 * (size_of s - 1)) out') buffer answer after →
      (answer.number ≡ 0) × (take (2 * (size_of s - 1)) after ≡ rows_on (parts s) (side_of side))
  -- "and so the other way": a table read, its rows packed as a side's, and that side of the record written into a buffer with room.
  pub table_back : (n : ℕ) (table : List ℤ) (out : List ℕ) (read : NumberAndRow) (out' : List ℕ) → MergeReads n table out read out' →
      read.number ≡ 0 → (P : Parts) (side : ℕ) → P.size ≡ n → rows_on P (side_of side) ≡ take (2 * (n - 1)) out' → (side ≡ 1) ⊎ (side ≡ 2) →
      (buffer : List ℕ) (packed : NumberAndRow) (buffer' : List ℕ) → Packs P buffer packed buffer' → packed.number ≡ 0 →
      (places : List ℤ) → 2 * (n - 1) ≤ length places → (answer : NumberAndRow) (after : List ℤ) →
      MergeWrites (take (length_of n) buffer') side places answer after →
      (answer.number ≡ 0) × (take (2 * (n - 1)) after ≡ table)
  -- Rows read of two tables over n leaves are packed as far as rows go: packing refuses them only for the rest.
  pub packs : (n : ℕ) (left right : List ℤ) (out out₂ : List ℕ) (read read₂ : NumberAndRow) (out' out₂' : List ℕ) →
      MergeReads n left out read out' → read.number ≡ 0 → MergeReads n right out₂ read₂ out₂' → read₂.number ≡ 0 →
      (P : Parts) → P.size ≡ n → P.left_rows ≡ take (2 * (n - 1)) out' → P.right_rows ≡ take (2 * (n - 1)) out₂' →
      (buffer : List ℕ) (answer : NumberAndRow) (after : List ℕ) → Packs P buffer answer after →
      answer ≡ refused (pack_refusal_but_rows P buffer)
