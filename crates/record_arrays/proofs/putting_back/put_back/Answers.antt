-- `put_back`: the two layouts written one after the other are the record with these layouts.
use Rattle.std.proofs.Common.{◌∙◌}
use Rattle.record_arrays.proofs.Apart.{relaid-both}
use Rattle.record_arrays.proofs.putting_back.put_back.Goals as goal

pub returns : goal.returns
returns c =
    c.bytes_in-2.ensures
    ∙ rw (c.layout_at-2.ensures, c.bytes_in.ensures, c.layout_at.ensures)
    (relaid-both _ _ c.requires.0 _ _ c.requires.1 c.requires.2)
