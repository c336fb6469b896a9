-- What each call on merge tables answers, and what was lent to it is afterwards, for every input.
use Rattle.std.specs.Prelude.{ℕ, ◌≡◌, List, ℤ}
use Rattle.merge.specs.Tables.{rows_in}
use Rattle.record_fields.specs.Refused.{NumberAndRow, refused, lent}
use Rattle.record_fields.specs.Told.{told_of}
use Rattle.calls_merge.specs.Refusals.{merge_read_refusal, written_table, merge_write_refusal}

-- A table over n leaves read: its rows in the buffer.
pub record MergeReads (n : ℕ) (table : List ℤ) (out : List ℕ) (answer : NumberAndRow) (out' : List ℕ) : Type 0 where
  pub answers : answer ≡ refused (merge_read_refusal n table out)
  pub afterwards : out' ≡ lent (merge_read_refusal n table out) (rows_in n table) out

-- A side written: its table in the buffer.
pub record MergeWrites (s : List ℕ) (side : ℕ) (out : List ℤ) (answer : NumberAndRow) (out' : List ℤ) : Type 0 where
  pub answers : answer ≡ told_of s (merge_write_refusal s side out)
  pub afterwards : out' ≡ lent (merge_write_refusal s side out) (written_table s side) out
