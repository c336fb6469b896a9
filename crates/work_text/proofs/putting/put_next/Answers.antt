-- `put_next`: a space, and after it the number.
use Rattle.work_text.proofs.Joined.{put-joined}
use Rattle.work_text.proofs.putting.put_next.Goals as goal

pub returns : goal.returns
returns c = rw (← c.from.ensures) (put-joined c.put-from.ensures c.put_number.ensures)
