-- `is_mark`: the mark is what the bytes begin with.
use Rattle.std.proofs.Common.{arith, ◌∙◌}
use Rattle.record.proofs.Headings.{marks}
use Rattle.record.proofs.heading.is_mark.Goals as goal

pub returns : goal.returns
returns c = c.starts_with.ensures.value ∙ marks c.args.s.now (omega arith)
