-- The refusals of the calls on Newick text, in their order (docs/CALLS.md): reading 18, 19, 14; writing 13, then 1 to 10, 14.
use Rattle.std.specs.Prelude.{ℕ, Bool, true, false, not, ◌&&◌, List, [], leb, ltb, length}
use Rattle.tanglegram.specs.Table.{layout}
use Rattle.newick.specs.Sentence.{Sentence, number, none, leaf_numbers, leaf_count}
use Rattle.newick.specs.Reading.{Read, broken, read, text_read}
use Rattle.newick.specs.Rows.{rows_of}
use Rattle.newick.specs.Writing.{sentence_of, text_of}
use Rattle.record_fields.specs.Fields.{most_leaves}
use Rattle.record_fields.specs.Meaning.{table_of, layouts_of}
use Rattle.record_fields.specs.Refusals.{◌when◌else◌, or_else, one_to_one, refusal}
use Rattle.record_arrays.specs.Sides.{is_side, side_of}

-- ---- reading

-- A text was read, and the sentence that it is; one of no digits, where there is none.
abbrev pub is_read : Read → Bool
is_read broken = false
is_read (read s rest) = true

abbrev pub said_in : Read → Sentence
said_in broken = number [] none
said_in (read s rest) = s

-- A text keeps the grammar, and the sentence that it spells.
unfoldable pub keeps_grammar : List ℕ → Bool
keeps_grammar text = is_read (text_read text)

unfoldable pub said : List ℕ → Sentence
said text = said_in (text_read text)

-- A sentence's leaves are 1 to n, each once, and n is at most 512.
unfoldable pub is_numbered : Sentence → Bool
is_numbered s = leb (leaf_count s) most_leaves && one_to_one (leaf_count s) (leaf_numbers s)

unfoldable pub newick_read_refusal : List ℕ → List ℕ → ℕ
newick_read_refusal text out =
    18 when not (keeps_grammar text)
    else 19 when not (is_numbered (said text))
    else 14 when ltb (length out) (length (rows_of (said text)))
    else 0

-- ---- writing

-- The text of a record's side, as its layout stands.
unfoldable pub written_text : List ℕ → ℕ → List ℕ
written_text s side = text_of (sentence_of (layout (layouts_of s) (side_of side)) ((table_of s).tree (side_of side)))

unfoldable pub newick_write_refusal : List ℕ → ℕ → List ℕ → ℕ
newick_write_refusal s side out =
    13 when not (is_side side)
    else or_else (refusal s) (14 when ltb (length out) (length (written_text s side)) else 0)
