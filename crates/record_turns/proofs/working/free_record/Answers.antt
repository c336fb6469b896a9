-- `free_record`: each layout has a byte for each row, of an array of 512.
use Rattle.std.proofs.Common.{arith, sym}
use Rattle.record_arrays.proofs.Apart.{layout-room}
use Rattle.record_turns.proofs.working.free_record.Goals as goal

pub slice_bounds-free_apart-end : goal.slice_bounds-free_apart-end
slice_bounds-free_apart-end c = sym (layout-room c.args.n c.requires.sized.most)

pub slice_bounds-free_apart-end-2 : goal.slice_bounds-free_apart-end-2
slice_bounds-free_apart-end-2 c = sym (layout-room c.args.n c.requires.sized.most)

pub free_apart-requires : goal.free_apart-requires
free_apart-requires c =
    let g = c.requires in
    let some = g.sized.some in
    let e = layout-room c.args.n g.sized.most in
    record {
      record_over = c.requires;
      leftlay_len = (omega arith, omega arith);
    }
