-- What the calls answer, in numbers: each carries its refusal, and zero for its other number where it refuses. And what a call's result
-- says of that.
use Rattle.std.specs.Prelude.{ℕ, Result, Ok, Err}
use Rattle.record_fields.specs.declared.refusal.Refusal.{Refusal}
use Rattle.record_fields.specs.Refused.{NumberAndRow, refused, refused_row, number_of, row_of}

-- A text read: how many leaves its tree has.
pub record NewickRead : Type 0 where
  pub refusal : NumberAndRow
  pub n : ℕ

abbrev pub read_as : Result ℕ Refusal → NewickRead
read_as (Ok x) = record { refusal = refused 0; n = x }
read_as (Err r) = record { refusal = refused_row (number_of r) (row_of r); n = 0 }

-- A side written: how many bytes its text has.
pub record NewickWritten : Type 0 where
  pub refusal : NumberAndRow
  pub length : ℕ

abbrev pub written_as : Result ℕ Refusal → NewickWritten
written_as (Ok x) = record { refusal = refused 0; length = x }
written_as (Err r) = record { refusal = refused_row (number_of r) (row_of r); length = 0 }
