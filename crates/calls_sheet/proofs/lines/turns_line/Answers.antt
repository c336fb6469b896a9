-- `turns_line`: the turns, and after them a line of the ending and the last count.
use Rattle.std.proofs.Common.{arith}
use Rattle.work_text.proofs.Joined.{put-joined, put-long}
use Rattle.calls_sheet.proofs.Room.{next-most, line-room}
use Rattle.calls_sheet.proofs.lines.turns_line.Goals as goal

pub put_next-told-requires : goal.put_next-told-requires
put_next-told-requires c =
    let taken = c.args.taken in
    omega (arith, c.put-begun.ensures.ends, put-long c.put-begun.ensures, next-most taken.turns (omega arith))

pub put_line-requires : goal.put_line-requires
put_line-requires c =
    let told = c.put_next-told.ensures in
    let begun = c.put-begun.ensures in
    let turns = next-most c.args.taken.turns (omega arith) in
    line-room _ _ _ _ (omega arith) (omega (arith, told.ends, put-long told, begun.ends, put-long begun, turns))

pub returns : goal.returns
returns c =
    let begun = c.put-begun.ensures in
    let text = put-joined begun (put-joined c.put_next-told.ensures c.put_line.ensures) in
    rw c.ending_letter.ensures at text
