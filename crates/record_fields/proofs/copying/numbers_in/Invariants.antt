-- `numbers_in` stores the two bytes of each number of a list, from its place on.
use Rattle.std.proofs.Common.{length, take, ◌≡◌}
use lib.Seq.{sets}
use Rattle.record_fields.specs.Fields.{split}
use Rattle.record_fields.proofs.copying.numbers_in.Given as goal

abbrev pub invariant-loop-i : goal.invariant-loop-i
invariant-loop-i l = (length l.out ≡ length l.initial.out) × (l.out ≡ sets l.initial.out l.at (split (take l.i l.list)))
