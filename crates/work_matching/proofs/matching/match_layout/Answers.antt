-- `match_layout` meets its contract: what the layout read off the order gives is compared with the order.
use Rattle.std.proofs.Common.{drop, replicate, ℕ}
use Rattle.std.proofs.lemmas.Bool.Decides.{Decides-eqb}
use Rattle.std.proofs.lemmas.Slice.Eq.{slice_eq-Decides}
use Rattle.work_trees.specs.Rows.{size}
use Rattle.work_matching.proofs.Matched.{match_tells}
use Rattle.work_matching.proofs.matching.match_layout.Goals as goal

pub returns : goal.returns
returns c =
    let T = c.args.rows.now in
    let rest = drop {A = ℕ} (size T) (replicate 512 0) in
    let compared = rw c.from-n.ensures at c.eq.ensures in
    record {
      tells = match_tells T c.read_layout.new.lay c.requires.good_rows c.args.xs.now c.args.lay.now rest c.requires.lay_len
          c.read_layout.ensures c.layout_order.new.out c.eq.result c.layout_order.ensures
          (slice_eq-Decides Decides-eqb _ _ _ compared);
      writes = c.read_layout.ensures;
    }
