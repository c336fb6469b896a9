-- What taking in an order answers, in numbers: the refusal; the count with the order on that side; 1 if no permitted choice on that side
-- crosses less, or 0; zero for each where it refuses. And what the call's result says of that.
use Rattle.std.specs.Prelude.{ℕ, Result, Ok, Err}
use Rattle.tanglegram.specs.Lists.{bit}
use Rattle.calls_take_in.specs.declared.answers.Weight.{Weight}
use Rattle.record_fields.specs.declared.refusal.Refusal.{Refusal}
use Rattle.record_fields.specs.Refused.{NumberAndRow, refused, refused_row, number_of, row_of}

pub record TakenIn : Type 0 where
  pub refusal : NumberAndRow
  pub count : ℕ
  pub least : ℕ

abbrev pub taken_in : Result Weight Refusal → TakenIn
taken_in (Ok x) = record { refusal = refused 0; count = x.count; least = bit x.least }
taken_in (Err r) = record { refusal = refused_row (number_of r) (row_of r); count = 0; least = 0 }
