-- `bytes`: the bytes of the digits before the place looked at stand in the first places.
use Rattle.desk_words.proofs.Pairing.{Paired}
use Rattle.desk_words.proofs.bytes.bytes.Given as goal

abbrev pub invariant-loop-i : goal.invariant-loop-i
invariant-loop-i l = Paired l.word l.initial.out l.n l.i l.out
