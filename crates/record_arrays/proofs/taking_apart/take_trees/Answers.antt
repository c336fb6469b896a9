-- `take_trees`: the record's trees and links are in the arrays, and the layouts are applied.
use Rattle.std.proofs.Common.{arith}
use Rattle.record_arrays.proofs.Apart.{links-taken, links_one}
use Rattle.record_arrays.proofs.taking_apart.take_trees.Goals as goal

pub returns : goal.returns
returns c =
    let at = c.links_at.ensures in
    let g = c.requires.record_over.0 in
    let most = g.sized.most in
    let long = c.requires.left_len.2 in
    let e = c.fill_links.ensures in
    record {
      memory = record {
        left_side = c.lay_out.ensures;
        right_side = c.lay_out-2.ensures;
        one_to_one = links_one _ _ g _ _ (omega arith) _ at e;
      };
      its_links = links-taken _ _ g _ _ (omega arith) _ at e;
    }
