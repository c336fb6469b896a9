-- `hex`: by the tests.
use Rattle.std.proofs.Common.{arith}
use Rattle.desk_words.proofs.Digits.{hex_number, hex_letter, hex_low, hex_middle, hex_high}
use Rattle.desk_words.proofs.bytes.hex.Goals as goal

pub returns-in-48-to-57 : goal.returns-in-48-to-57
returns-in-48-to-57 c = hex_number c.args.x (omega arith) (omega arith)

pub returns-in-97-to-102 : goal.returns-in-97-to-102
returns-in-97-to-102 c = hex_letter c.args.x (omega arith) (omega arith)

pub returns-in_default : goal.returns-in_default
returns-in_default c = hex_low c.args.x (omega arith)

pub returns-in_default-2 : goal.returns-in_default-2
returns-in_default-2 c = hex_middle c.args.x (omega arith) (omega arith)

pub returns-in_default-3 : goal.returns-in_default-3
returns-in_default-3 c = hex_high c.args.x (omega arith)
