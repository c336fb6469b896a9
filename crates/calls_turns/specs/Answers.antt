-- What the calls answer, in numbers: each carries its refusal, and zero for every other number where it refuses. And what a call's result
-- says of that.
use Rattle.std.specs.Prelude.{ℕ, Result, Ok, Err}
use Rattle.tanglegram.specs.Lists.{bit}
use Rattle.work_freeing.specs.declared.rows.Sums.{Sums}
use Rattle.work_turns.specs.declared.running.Taken.{Taken}
use Rattle.record_fields.specs.declared.refusal.Refusal.{Refusal}
use Rattle.record_fields.specs.Refused.{NumberAndRow, refused, refused_row, number_of, row_of}

-- The counts before and after freeing a side.
pub record Freed : Type 0 where
  pub refusal : NumberAndRow
  pub before : ℕ
  pub after : ℕ

abbrev pub freed : Result Sums Refusal → Freed
freed (Ok x) = record { refusal = refused 0; before = x.before; after = x.after }
freed (Err r) = record { refusal = refused_row (number_of r) (row_of r); before = 0; after = 0 }

-- A run: the first and the last count, the turns taken, and 1 if it settled or 0 if not.
pub record Ran : Type 0 where
  pub refusal : NumberAndRow
  pub first : ℕ
  pub last : ℕ
  pub turns : ℕ
  pub settled : ℕ

abbrev pub ran : Result Taken Refusal → Ran
ran (Ok x) = record { refusal = refused 0; first = x.first; last = x.last; turns = x.turns; settled = bit x.settled }
ran (Err r) = record { refusal = refused_row (number_of r) (row_of r); first = 0; last = 0; turns = 0; settled = 0 }
