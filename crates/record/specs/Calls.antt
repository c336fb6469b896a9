-- What each call on a record's bytes answers, and what was lent to it is afterwards, for every input.
use Rattle.std.specs.Prelude.{ℕ, ◌≡◌, cond, List, set, Result, Ok, Err}
use Rattle.record_fields.specs.declared.refusal.Refusal.{Refusal}
use Rattle.record.specs.declared.heading.Header.{Header}
use Rattle.record_fields.specs.Fields.{hold_at, hold_of, size_of}
use Rattle.record_fields.specs.Holds.{letter_of}
use Rattle.record_fields.specs.Refusals.{refusal, set_hold_refusal}
use Rattle.record_fields.specs.Refused.{NumberAndRow, refused, refused_row, number_of, row_of, accepted}
use Rattle.record_fields.specs.Told.{told_of}

-- ---- checking and reading

pub record Checks (s : List ℕ) (answer : NumberAndRow) : Type 0 where
  pub answers : answer ≡ told_of s (refusal s)

-- What reading finds, in numbers: the hold's letter and n, or the refusal.
pub record Heading : Type 0 where
  pub hold : ℕ
  pub n : ℕ

pub data Reading : Type 0 where
  Accepted : Heading → Reading
  Refused : NumberAndRow → Reading

abbrev pub reading : Result Header Refusal → Reading
reading (Ok h) = Accepted (record { hold = letter_of h.hold; n = h.n })
reading (Err r) = Refused (refused_row (number_of r) (row_of r))

unfoldable pub reading_of : List ℕ → Reading
unfolding refusal
reading_of s = cond (accepted (refusal s)) (Accepted (record { hold = hold_of s; n = size_of s })) (Refused (told_of s (refusal s)))

-- The refusal and the values of each case of a reading.
abbrev pub reading_refusal : Reading → NumberAndRow
reading_refusal (Accepted h) = refused 0
reading_refusal (Refused r) = r

abbrev pub hold_in : Reading → ℕ
hold_in (Accepted h) = h.hold
hold_in (Refused r) = 0

abbrev pub size_in : Reading → ℕ
size_in (Accepted h) = h.n
size_in (Refused r) = 0

pub record Reads (s : List ℕ) (answer : Reading) : Type 0 where
  pub answers : answer ≡ reading_of s

-- ---- setting the hold: the record, and what it is afterwards

pub record SetsHold (s : List ℕ) (letter : ℕ) (answer : NumberAndRow) (s' : List ℕ) : Type 0 where
  pub answers : answer ≡ told_of s (set_hold_refusal s letter)
  pub afterwards : s' ≡ cond (accepted (set_hold_refusal s letter)) (set s hold_at letter) s
