-- `write_opening` writes the first eight bytes, each at its place.
use Rattle.record_packing.proofs.Packed.{opening_stored}
use Rattle.record_packing.proofs.packing.write_opening.Goals as goal

pub returns : goal.returns
returns c =
    opening_stored _ c.args.n c.args.out.now (rw c.bytes_in.ensures at c.number_in.ensures)
    (rw c.letter.ensures at c.number_in-2.ensures)
