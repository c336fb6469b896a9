-- `number_in` stores the two bytes of a number.
use Rattle.std.proofs.Common.{add-one, refl}
use Rattle.record_fields.specs.Fields.{split}
use Rattle.record_fields.proofs.copying.number_in.Goals as goal

pub returns : goal.returns
unfolding split
returns c = rw add-one refl
