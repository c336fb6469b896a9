-- What a heading says, as the code has it.
use Rattle.std.specs.Prelude.{ℕ, ◌≡◌, List}
use Rattle.record.specs.declared.heading.Header.{Header}
use Rattle.record_fields.specs.Fields.{hold_of, size_of}
use Rattle.record_fields.specs.Holds.{letter_of}

pub record HeadingSays (s : List ℕ) (h : Header) : Type 0 where
  pub holds : letter_of h.hold ≡ hold_of s
  pub counts : h.n ≡ size_of s
