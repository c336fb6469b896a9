-- `spelled`: the digits of the first k bytes stand in the first places.
use Rattle.std.proofs.Common.{length, take, ◌*◌, ◌≡◌}
use Rattle.desk_words.specs.Bytes.{spelling}
use Rattle.desk_words.proofs.spelling.spelled.Given as goal

abbrev pub invariant-loop-k : goal.invariant-loop-k
invariant-loop-k l = (length l.text ≡ 64) × (take (2 * l.k) l.text ≡ spelling (take l.k l.s))
