-- What each call on Newick text answers, and what was lent to it is afterwards, for every input.
use Rattle.std.specs.Prelude.{ℕ, ◌≡◌, List, ltb, length}
use Rattle.newick.specs.Sentence.{leaf_count}
use Rattle.newick.specs.Rows.{rows_of}
use Rattle.record_fields.specs.Refusals.{◌when◌else◌}
use Rattle.record_fields.specs.Refused.{refused, lent, or_zero}
use Rattle.record_fields.specs.Told.{told_of}
use Rattle.calls_newick.specs.Answers.{NewickRead}
use Rattle.calls_newick.specs.Answers.{NewickWritten}
use Rattle.calls_newick.specs.Refusals.{said, newick_read_refusal, written_text, newick_write_refusal}

-- A text read: its n, and its rows in the buffer.
pub record NewickReads (text out : List ℕ) (answer : NewickRead) (out' : List ℕ) : Type 0 where
  pub answers : answer ≡ record {
    refusal = refused (newick_read_refusal text out);
    n = or_zero (newick_read_refusal text out) (leaf_count (said text));
  }
  pub afterwards : out' ≡ lent (newick_read_refusal text out) (rows_of (said text)) out

-- A side written: the text's length, and the text in the buffer.
pub record NewickWrites (s : List ℕ) (side : ℕ) (out : List ℕ) (answer : NewickWritten) (out' : List ℕ) : Type 0 where
  pub answers : answer ≡ record {
    refusal = told_of s (newick_write_refusal s side out);
    length = or_zero (newick_write_refusal s side out) (length (written_text s side));
  }
  pub afterwards : out' ≡ lent (newick_write_refusal s side out) (written_text s side) out

-- The same of an accepted record and a good side: only the room is left to test.
abbrev pub room_refusal : List ℕ → ℕ → List ℕ → ℕ
room_refusal s side out = 14 when ltb (length out) (length (written_text s side)) else 0

pub record WritesSide (s : List ℕ) (side : ℕ) (out : List ℕ) (answer : NewickWritten) (out' : List ℕ) : Type 0 where
  pub answers : answer ≡ record {
    refusal = refused (room_refusal s side out);
    length = or_zero (room_refusal s side out) (length (written_text s side));
  }
  pub afterwards : out' ≡ lent (room_refusal s side out) (written_text s side) out
