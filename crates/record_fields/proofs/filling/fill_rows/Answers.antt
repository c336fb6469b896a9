-- `fill_rows`: the rows are read pair by pair into the array, and n last.
use Rattle.std.proofs.Common.{ap, set}
use Rattle.record_fields.proofs.filling.fill_rows.Goals as goal

pub returns : goal.returns
returns c = ap (λ t. set t 1022 c.args.n) c.numbers_out.ensures
