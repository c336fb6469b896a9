-- `is_end`: nothing, or one byte that is a line feed.
use Rattle.std.proofs.Common.{arith, drop}
use Rattle.work_newick_reading.proofs.WholeLaws.{end-nothing, end_more, end_one, rest-all}
use Rattle.work_newick_reading.proofs.whole.is_end.Goals as goal

pub returns-in-empty : goal.returns-in-empty
returns-in-empty c = end-nothing _ (rw (rest-all c.args.bytes.now c.args.at) at c.in-empty.len_below)

pub returns-in_default : goal.returns-in_default
returns-in_default c =
    let long = rw (rest-all c.args.bytes.now c.args.at) at c.in_default.len_at_least in
    end_more (drop c.args.at c.args.bytes.now) (omega arith)

pub returns-in-len1 : goal.returns-in-len1
returns-in-len1 c =
    let all = rest-all c.args.bytes.now c.args.at in
    rw all (end_one _ (rw all at c.in-len1.len_at_least) (rw all at c.in-len1.len_below))
