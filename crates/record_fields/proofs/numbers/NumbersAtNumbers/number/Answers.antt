-- `number`: the number at place k is that of two bytes at twice k.
use Rattle.std.proofs.Common.{arith, refl, ◌<◌, ◌∙◌}
use Rattle.record_fields.proofs.Stores.{length-numbers, entry_at}
use Rattle.record_fields.proofs.numbers.NumbersAtNumbers.number.Goals.{Start}
use Rattle.record_fields.proofs.numbers.NumbersAtNumbers.number.Goals as goal

below : (c : Start) → c.args.k < c.args.self.now.many
below c = rw length-numbers at c.requires

pub overflow_mul-k : goal.overflow_mul-k
overflow_mul-k c = omega (arith, below (goal.at.overflow_mul-k c).Start, c.args.self.now.within)

pub overflow_add-self : goal.overflow_add-self
overflow_add-self c = omega (arith, below (goal.at.overflow_add-self c).Start, c.args.self.now.within)

pub number-requires : goal.number-requires
number-requires c = omega (arith, below (goal.at.number-requires c).Start, c.args.self.now.within)

pub returns : goal.returns
returns c = c.number.ensures ∙ entry_at _ _ _ _ _ (below (goal.at.returns c).Start) refl
