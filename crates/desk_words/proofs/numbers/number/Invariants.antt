-- `number`: what was read so far is at most the most.
use Rattle.std.proofs.Common.{◌≤◌}
use Rattle.desk_words.proofs.Reading.{DigitsRead}
use Rattle.desk_words.proofs.numbers.number.Given as goal

abbrev pub invariant-loop-byte : goal.invariant-loop-byte
invariant-loop-byte l = (l.x ≤ l.most) × DigitsRead l.word l.byte-index l.x
