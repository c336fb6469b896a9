-- `hex_digit`: by the test.
use Rattle.std.proofs.Common.{le-ltb, lt-ltb}
use Rattle.desk_words.specs.Bytes.{hex_digit}
use Rattle.desk_words.proofs.spelling.hex_digit.Goals as goal

pub returns-then-x-lt10 : goal.returns-then-x-lt10
unfolding hex_digit
returns-then-x-lt10 c = rw (lt-ltb _ 10 c.if-x-lt10.true)

pub returns-else-x-lt10 : goal.returns-else-x-lt10
unfolding hex_digit
returns-else-x-lt10 c = rw (le-ltb _ 10 c.if-x-lt10.false)
