-- `turn_hand`: the row's byte turned over is put in its place, which is what one entry does.
use Rattle.calls_hands.specs.Calls.{handed}
use Rattle.calls_hands.proofs.handing.turn_hand.Goals as goal

pub returns : goal.returns
unfolding handed
returns c = rw (c.flipped.ensures, c.row_byte-x.ensures, c.side_of-side.ensures) at c.put_row_byte.ensures
