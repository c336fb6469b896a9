-- `run_record`: each layout has a byte for each row, of an array of 512.
use Rattle.std.proofs.Common.{arith, sym}
use Rattle.record_arrays.proofs.Apart.{layout-room}
use Rattle.record_turns.proofs.working.run_record.Goals as goal

pub slice_bounds-run_apart-end : goal.slice_bounds-run_apart-end
slice_bounds-run_apart-end c = sym (layout-room c.args.n c.requires.0.sized.most)

pub slice_bounds-run_apart-end-2 : goal.slice_bounds-run_apart-end-2
slice_bounds-run_apart-end-2 c = sym (layout-room c.args.n c.requires.0.sized.most)

pub run_apart-requires : goal.run_apart-requires
run_apart-requires c =
    let g = c.requires.0 in
    let some = g.sized.some in
    let e = layout-room c.args.n g.sized.most in
    record {
      record_over = c.requires;
      leftlay_len = (omega arith, omega arith);
    }
