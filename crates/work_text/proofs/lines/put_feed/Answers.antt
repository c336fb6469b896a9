-- `put_feed`: the line feed is put.
use Rattle.work_text.proofs.lines.put_feed.Goals as goal

pub put-requires : goal.put-requires
put-requires c = c.requires

pub returns : goal.returns
returns c = c.put.ensures
