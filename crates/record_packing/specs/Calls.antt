-- What packing answers, and what the buffer lent to it is afterwards, for every input.
use Rattle.std.specs.Prelude.{◌≡◌, List, ℕ}
use Rattle.record_fields.specs.Fields.{Parts, packed}
use Rattle.record_fields.specs.Refused.{NumberAndRow, lent}
use Rattle.record_fields.specs.Told.{told_in}
use Rattle.record_packing.specs.Refusals.{pack_refusal}

pub record Packs (P : Parts) (out : List ℕ) (answer : NumberAndRow) (out' : List ℕ) : Type 0 where
  pub answers : answer ≡ told_in P (pack_refusal P out)
  pub afterwards : out' ≡ lent (pack_refusal P out) (packed P) out
