-- `wide_number`: a number of 64 bits has at most twenty digits.
use Rattle.std.proofs.Common.{arith}
use Rattle.work_text.proofs.Decimal.{length_most}
use Rattle.printing.proofs.wide_number.Goals as goal

pub put_number-n-requires : goal.put_number-n-requires
put_number-n-requires c = omega (arith, length_most 19 c.args.x (omega arith) (omega arith))
