-- `lay_out`: the side's rows are its tree's, and the layout that is lent has a byte for each.
use Rattle.std.proofs.Common.{arith}
use Rattle.record_arrays.proofs.AsItStands.{rows-within, filled-size, filled-laid}
use Rattle.record_arrays.proofs.taking_apart.lay_out.Goals as goal

pub fill_rows-requires : goal.fill_rows-requires
fill_rows-requires g c =
    let over = c.requires.0 in
    (over.sized.some, over.sized.most, rw c.rows_at.ensures (rows-within _ _ over (g.S.SaysSide.said c.args.side)), c.requires.2)

pub exchange-requires : goal.exchange-requires
exchange-requires g c =
    let over = c.requires.0 in
    let k = filled-size _ _ over (g.S.SaysSide.said c.args.side) _ _ c.requires.2 _ c.rows_at.ensures c.fill_rows.ensures in
    let most = over.sized.most in record { rows_bound = omega arith; lay_len = omega (arith, c.requires.1) }

pub returns : goal.returns
returns g c =
    filled-laid _ _ c.requires.0 (g.S.SaysSide.said c.args.side) _ _ c.requires.2 _ c.rows_at.ensures c.fill_rows.ensures _ _
    c.requires.1 c.exchange.ensures
