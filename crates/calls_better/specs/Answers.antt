-- What comparing two orders answers, in numbers: the refusal; 1 or 2 for the first or the second order, the one that crosses less; n; zero
-- for each where it refuses. And what the call's result says of that.
use Rattle.std.specs.Prelude.{ℕ, Result, Ok, Err}
use Rattle.calls_better.specs.declared.answers.Better.{Better}
use Rattle.calls_better.specs.declared.answers.Which.{Which}
use Rattle.calls_better.specs.declared.answers.Which.TheVariants.{First, Second}
use Rattle.record_fields.specs.declared.refusal.Refusal.{Refusal}
use Rattle.record_fields.specs.Refused.{NumberAndRow, refused, refused_row, number_of, row_of}

pub record Compared : Type 0 where
  pub refusal : NumberAndRow
  pub which : ℕ
  pub length : ℕ

abbrev pub number_for : Which → ℕ
number_for First = 1
number_for Second = 2

abbrev pub compared : Result Better Refusal → Compared
compared (Ok x) = record { refusal = refused 0; which = number_for x.which; length = x.length }
compared (Err r) = record { refusal = refused_row (number_of r) (row_of r); which = 0; length = 0 }
