-- `digit`: by the tests.
use Rattle.std.proofs.Common.{arith}
use Rattle.desk_words.proofs.Digits.{digit_low, digit_high, digit_one}
use Rattle.desk_words.proofs.numbers.digit.Goals as goal

pub returns-in-48-to-57 : goal.returns-in-48-to-57
returns-in-48-to-57 c = digit_one c.args.x (omega arith) (omega arith)

pub returns-in_default : goal.returns-in_default
returns-in_default c = digit_low c.args.x (omega arith)

pub returns-in_default-2 : goal.returns-in_default-2
returns-in_default-2 c = digit_high c.args.x (omega arith)
