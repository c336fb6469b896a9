-- What the calls answer, in numbers: each carries its refusal, and zero for every other number where it refuses. And what a call's result
-- says of that.
use Rattle.std.specs.Prelude.{ℕ, Float, Option, Some, None, Result, Ok, Err}
use Rattle.calls_show.specs.declared.answers.Measured.{Measured}
use Rattle.record_fields.specs.declared.refusal.Refusal.{Refusal}
use Rattle.record_fields.specs.Refused.{NumberAndRow, refused, refused_row, number_of, row_of}

-- A count of crossings.
pub record Counted : Type 0 where
  pub refusal : NumberAndRow
  pub count : ℕ

abbrev pub counted : Result ℕ Refusal → Counted
counted (Ok x) = record { refusal = refused 0; count = x }
counted (Err r) = record { refusal = refused_row (number_of r) (row_of r); count = 0 }

-- Squared entanglement: D, W and D divided by W; or, for a single leaf, no ratio; or the refusal.
pub data SquaredEntanglement : Type 0 where
  Ratio : ℕ → ℕ → Float → SquaredEntanglement
  NoRatio : SquaredEntanglement
  Refused : NumberAndRow → SquaredEntanglement

abbrev pub squared : Result (Option Measured) Refusal → SquaredEntanglement
squared (Ok (Some m)) = Ratio m.displacement m.worst m.ratio
squared (Ok None) = NoRatio
squared (Err r) = Refused (refused_row (number_of r) (row_of r))
