-- `put_line`: the first bytes, the numbers and the line feed, one after the other (`line-put`).
use Rattle.work_text.proofs.Spaced.{room-first, room-numbers, room_feed, line-put}
use Rattle.work_text.proofs.lines.put_line.Goals as goal

pub put-begun-requires : goal.put-begun-requires
put-begun-requires g c =
    let a = c.args in
    room-first a.first.now (g.T.Number.values a.xs.now) a.out.now a.at c.requires

pub put_spaced-listed-requires : goal.put_spaced-listed-requires
put_spaced-listed-requires g c =
    let a = c.args in
    room-numbers a.first.now (g.T.Number.values a.xs.now) a.out.now a.at c.requires c.put-begun.ensures

pub put_feed-requires : goal.put_feed-requires
put_feed-requires g c =
    let a = c.args in
    room_feed a.first.now (g.T.Number.values a.xs.now) a.out.now a.at c.requires c.put-begun.ensures c.put_spaced-listed.ensures

pub returns : goal.returns
returns g c =
    let xs = g.T.Number.values c.args.xs.now in
    line-put xs c.put-begun.ensures c.put_spaced-listed.ensures c.put_feed.ensures
