-- `test`: what the test of parts tells, whatever the hold is.
use Rattle.std.proofs.Common.{subst}
use Rattle.record_fields.specs.Holds.{letter_of}
use Rattle.record_fields.specs.Refused.{told}
use Rattle.record_fields.specs.Told.{ToldContents}
use Rattle.record_packing.proofs.packing.Parts.test.Goals as goal

pub returns : goal.returns
returns c =
    subst (λ P. ToldContents P (told c.test_parts.result)) c.self.view_is (c.test_parts.ensures (letter_of c.self.inside.hold))
