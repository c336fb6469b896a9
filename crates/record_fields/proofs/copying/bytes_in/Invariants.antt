-- `bytes_in` stores the bytes of a list one after the other, from its place on.
use Rattle.std.proofs.Common.{length, take, ◌≡◌}
use lib.Seq.{sets}
use Rattle.record_fields.proofs.copying.bytes_in.Given as goal

abbrev pub invariant-loop-i : goal.invariant-loop-i
invariant-loop-i l = (length l.out ≡ length l.initial.out) × (l.out ≡ sets l.initial.out l.at (take l.i l.list))
