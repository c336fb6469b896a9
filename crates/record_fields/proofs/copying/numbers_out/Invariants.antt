-- `numbers_out` stores the numbers that it reads, from the first place on.
use Rattle.std.proofs.Common.{length, ◌≡◌}
use lib.Seq.{sets}
use Rattle.record_fields.specs.Fields.{numbers}
use Rattle.record_fields.proofs.copying.numbers_out.Given as goal

abbrev pub invariant-loop-i : goal.invariant-loop-i
invariant-loop-i l = (length l.out ≡ length l.initial.out) × (l.out ≡ sets l.initial.out 0 (numbers l.s l.at l.i))
