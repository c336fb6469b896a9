-- A refusal as a value, and what a call that is refused answers and keeps: every other number is 0, and what was lent is as found. Which
-- row comes with a number is `Told`.
use Rattle.std.specs.Prelude.{ℕ, Bool, cond, List, ◌++◌, eqb, length, drop, Result, Ok, Err}
use Rattle.record_fields.specs.declared.refusal.Refusal.{Refusal}
use Rattle.record_fields.specs.declared.refusal.Refusal.TheVariants as refusal

-- The number of a refusal (docs/CALLS.md), and the row that it tells, or 0.
abbrev pub number_of : Refusal → ℕ
number_of refusal.Short = 1
number_of refusal.Mark = 2
number_of refusal.Version = 3
number_of refusal.Hold = 4
number_of refusal.Size = 5
number_of refusal.Length = 6
number_of (refusal.LeftRow i) = 7
number_of (refusal.RightRow i) = 8
number_of refusal.Links = 9
number_of refusal.Layout = 10
number_of refusal.Held = 11
number_of refusal.Allowance = 12
number_of refusal.Side = 13
number_of refusal.Room = 14
number_of refusal.Row = 15
number_of refusal.Order = 16
number_of refusal.Hands = 17
number_of refusal.Grammar = 18
number_of refusal.Leaves = 19
number_of refusal.Entry = 20
number_of refusal.Twice = 21
number_of refusal.Pinned = 22
number_of refusal.AgainstPin = 23

abbrev pub row_of : Refusal → ℕ
row_of refusal.Short = 0
row_of refusal.Mark = 0
row_of refusal.Version = 0
row_of refusal.Hold = 0
row_of refusal.Size = 0
row_of refusal.Length = 0
row_of (refusal.LeftRow i) = i
row_of (refusal.RightRow i) = i
row_of refusal.Links = 0
row_of refusal.Layout = 0
row_of refusal.Held = 0
row_of refusal.Allowance = 0
row_of refusal.Side = 0
row_of refusal.Room = 0
row_of refusal.Row = 0
row_of refusal.Order = 0
row_of refusal.Hands = 0
row_of refusal.Grammar = 0
row_of refusal.Leaves = 0
row_of refusal.Entry = 0
row_of refusal.Twice = 0
row_of refusal.Pinned = 0
row_of refusal.AgainstPin = 0

-- What is told of a refusal: its number, 0 for none, and its row.
pub record NumberAndRow : Type 0 where
  pub number : ℕ
  pub row : ℕ

-- By its number, 0 for none: with a row, and without; what is told of a call's result; whether a call with that number is accepted.
abbrev pub refused_row : ℕ → ℕ → NumberAndRow
refused_row k i = record { number = k; row = i }

abbrev pub refused : ℕ → NumberAndRow
refused k = refused_row k 0

abbrev pub told : {A : Type 0} → Result A Refusal → NumberAndRow
told (Ok a) = refused 0
told (Err r) = refused_row (number_of r) (row_of r)

abbrev pub accepted : ℕ → Bool
accepted k = eqb k 0

-- What is in a lent buffer afterwards: if accepted, the part in its first places and beyond as found; if refused, as found.
abbrev pub lent : {A : Type 0} → ℕ → List A → List A → List A
lent k part found = cond (accepted k) (part ++ drop (length part) found) found

-- A number that a refused call answers by zero.
abbrev pub or_zero : ℕ → ℕ → ℕ
or_zero k x = cond (accepted k) x 0
