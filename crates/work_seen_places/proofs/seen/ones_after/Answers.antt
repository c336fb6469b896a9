-- `ones_after` meets its contract: the two shifts leave the digits past j.
use Rattle.std.proofs.Common.{lt_of_le_of_lt}
use lib.Count.{ones-le}
use lib.Pow.{shr_le}
use Rattle.work_seen_places.proofs.Words.{word_after}
use Rattle.work_seen_places.proofs.seen.ones_after.Goals as goal

pub returns : goal.returns
returns c =
    let x = c.args.x in
    let j = c.args.j in
    let h = c.ranges.x.fits in
    (word_after x j h c.requires, ones-le 64 _ (lt_of_le_of_lt (shr_le _ 1) (lt_of_le_of_lt (shr_le x j) h)))
