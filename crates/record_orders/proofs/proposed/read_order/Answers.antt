-- `read_order`: a lent order that is long enough is copied to an array, and matched there with the side's rows.
use Rattle.std.proofs.Common.{ap, arith, length, length-take-le, refl, sym, ◌∙◌}
use lib.Seq.{length-sets}
use Rattle.record_arrays.proofs.AsItStands.{rows-within, filled-good, filled-size, filled-tree}
use Rattle.record_orders.proofs.Proposals.{read_short, matched}
use Rattle.record_orders.proofs.proposed.read_order.Goals as goal

pub returns-then-xs-k : goal.returns-then-xs-k
returns-then-xs-k g c = read_short _ _ c.requires.0 (g.S.SaysSide.said c.args.side) _ _ c.if-xs-k.true

pub slice_bounds-copied-end : goal.slice_bounds-copied-end
slice_bounds-copied-end g c = sym (length-take-le _ _ (omega arith))

pub copied-requires : goal.copied-requires
copied-requires g c =
    let long = length-take-le c.args.n c.args.xs.now (omega arith) in omega (arith, c.requires.0.sized.most)

pub fill_rows-requires : goal.fill_rows-requires
fill_rows-requires g c =
    let over = c.requires.0 in
    (over.sized.some, over.sized.most, rw c.rows_at.ensures (rows-within _ _ over (g.S.SaysSide.said c.args.side)), refl)

pub match_layout-requires : goal.match_layout-requires
match_layout-requires g c =
    let over = c.requires.0 in
    let side = g.S.SaysSide.said c.args.side in
    let good = filled-good _ _ over side _ _ refl _ c.rows_at.ensures c.fill_rows.ensures in
    let size = filled-size _ _ over side _ _ refl _ c.rows_at.ensures c.fill_rows.ensures in
    record {
      good_rows = good;
      xs_len = ap length c.copied.ensures ∙ simp length-sets;
      lay_len = c.requires.1 ∙ sym size;
    }

pub returns : goal.returns
returns g c =
    let over = c.requires.0 in
    let side = g.S.SaysSide.said c.args.side in
    let size = filled-size _ _ over side _ _ refl _ c.rows_at.ensures c.fill_rows.ensures in
    let tree = filled-tree _ _ over side _ _ refl _ c.rows_at.ensures c.fill_rows.ensures in
    matched _ _ over side _ _ _ refl c.if-xs-k.false c.copied.ensures _ _ _ _ size tree c.match_layout.ensures
