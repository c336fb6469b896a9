-- `put_number`: the kit makes the digits, the fewest that hold the number, which are its decimal text; they are put.
use Rattle.std.proofs.Common.{arith, ◌∙◌}
use Rattle.work_text.proofs.Decimal.{fewest-decimal}
use Rattle.work_text.proofs.putting.put_number.Goals as goal

pub put-requires : goal.put-requires
put-requires c =
    let d = c.decimal-k in
    let x = c.args.x in
    let text = d.ensures.digits ∙ fewest-decimal d.result x (omega arith) d.ensures.len in
    rw text c.requires

pub returns : goal.returns
returns c =
    let d = c.decimal-k in
    let text = d.ensures.digits ∙ fewest-decimal d.result c.args.x (omega arith) d.ensures.len in
    rw text at c.put.ensures
