-- What unpacking answers, and what the five buffers lent to it are afterwards, for every input.
use Rattle.std.specs.Prelude.{ℕ, ◌≡◌, List}
use Rattle.record_fields.specs.Fields.{hold_of, size_of, parts}
use Rattle.record_fields.specs.Refused.{NumberAndRow, lent, or_zero}
use Rattle.record_fields.specs.Told.{told_of}
use Rattle.record_unpacking.specs.Answers.{Unpacked}
use Rattle.record_unpacking.specs.Refusals.{unpack_refusal}

-- What it answers if refused.
abbrev pub unpacked_none : NumberAndRow → Unpacked
unpacked_none r = record { refusal = r; hold = 0; n = 0 }

pub record Unpacks (s left right links left_layout right_layout : List ℕ) (answer : Unpacked)
    (left' right' links' left-layout' right-layout' : List ℕ) : Type 0 where
  pub answers :
      let k = unpack_refusal s left right links left_layout right_layout in
      answer ≡ record { refusal = told_of s k; hold = or_zero k (hold_of s); n = or_zero k (size_of s) }
  pub afterwards_left : left' ≡ lent (unpack_refusal s left right links left_layout right_layout) (parts s).left_rows left
  pub afterwards_right : right' ≡ lent (unpack_refusal s left right links left_layout right_layout) (parts s).right_rows right
  pub afterwards_links : links' ≡ lent (unpack_refusal s left right links left_layout right_layout) (parts s).links links
  pub afterwards-left-layout :
      left-layout' ≡ lent (unpack_refusal s left right links left_layout right_layout) (parts s).left_layout left_layout
  pub afterwards-right-layout :
      right-layout' ≡ lent (unpack_refusal s left right links left_layout right_layout) (parts s).right_layout right_layout
