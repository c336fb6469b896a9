-- What unpacking answers beside the buffers, in numbers: the refusal, and the hold's letter and n, 0 where it refuses. And what the call's
-- result says of that.
use Rattle.std.specs.Prelude.{ℕ, Result, Ok, Err}
use Rattle.record.specs.declared.heading.Header.{Header}
use Rattle.record_fields.specs.declared.refusal.Refusal.{Refusal}
use Rattle.record_fields.specs.Holds.{letter_of}
use Rattle.record_fields.specs.Refused.{NumberAndRow, refused, refused_row, number_of, row_of}

pub record Unpacked : Type 0 where
  pub refusal : NumberAndRow
  pub hold : ℕ
  pub n : ℕ

abbrev pub unpacked : Result Header Refusal → Unpacked
unpacked (Ok h) = record { refusal = refused 0; hold = letter_of h.hold; n = h.n }
unpacked (Err r) = record { refusal = refused_row (number_of r) (row_of r); hold = 0; n = 0 }
