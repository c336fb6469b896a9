-- Entanglement in thousandths, in numbers: k; or, for a single leaf, no ratio; or the refusal.
use Rattle.std.specs.Prelude.{ℕ, Option, Some, None, Result, Ok, Err}
use Rattle.record_fields.specs.declared.refusal.Refusal.{Refusal}
use Rattle.record_fields.specs.Refused.{NumberAndRow, refused_row, number_of, row_of}

pub data InThousandths : Type 0 where
  Ratio : ℕ → InThousandths
  NoRatio : InThousandths
  Refused : NumberAndRow → InThousandths

-- What a call's result says of it.
abbrev pub in_thousandths : Result (Option ℕ) Refusal → InThousandths
in_thousandths (Ok (Some k)) = Ratio k
in_thousandths (Ok None) = NoRatio
in_thousandths (Err r) = Refused (refused_row (number_of r) (row_of r))
