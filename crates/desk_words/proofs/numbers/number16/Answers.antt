-- `number16`: what is said is at most 65535.
use Rattle.std.proofs.Common.{arith}
use Rattle.desk_words.proofs.Reading.{bounded}
use Rattle.desk_words.proofs.numbers.number16.Goals as goal

pub overflow_cast-result : goal.overflow_cast-result
overflow_cast-result c =
    let h = bounded 65535 _ c.args.word.now c.in_ok-x.ensures in
    omega arith
