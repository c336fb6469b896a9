-- `no_ratio`: a number of 32 bits has at most ten digits.
use Rattle.std.proofs.Common.{arith}
use Rattle.work_text.proofs.Decimal.{length_most}
use Rattle.desk.proofs.showing.no_ratio.Goals as goal

pub put_next-first-requires : goal.put_next-first-requires
put_next-first-requires c = omega (arith, length_most 9 c.args.displacement (omega arith) (omega arith))

pub put_next-second-requires : goal.put_next-second-requires
put_next-second-requires c =
    omega (
      arith,
      length_most 9 c.args.displacement (omega arith) (omega arith),
      length_most 9 c.args.worst (omega arith) (omega arith),
      c.put_next-first.ensures.ends,
    )

pub put-end-requires : goal.put-end-requires
put-end-requires c =
    omega (
      arith,
      length_most 9 c.args.displacement (omega arith) (omega arith),
      length_most 9 c.args.worst (omega arith) (omega arith),
      c.put_next-first.ensures.ends,
      c.put_next-second.ensures.ends,
    )
