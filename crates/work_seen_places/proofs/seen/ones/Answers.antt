-- `ones` meets its contract: the ones of a word are the sum of its digits.
use lib.Count.{ones-le}
use Rattle.work_seen_places.proofs.Words.{word_ones}
use Rattle.work_seen_places.proofs.seen.ones.Goals as goal

pub returns : goal.returns
returns c = (word_ones c.args.x c.ranges.x.fits, ones-le 64 _ c.ranges.x.fits)
