-- `copied` copies the numbers of a list to the first places.
use Rattle.std.proofs.Common.{sym}
use Rattle.record_fields.proofs.Stores.{sets_front}
use Rattle.record_fields.proofs.copying.copied.Goals as goal

pub returns : goal.returns
returns c = rw c.copy_from_slice.ensures.after (sym (sets_front c.args.out.now c.args.list.now c.requires))
