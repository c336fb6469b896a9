-- `length` meets its contract: the tree is the last object, so its text has as many bytes as the notes say of that one, and the
-- semicolon.
use Rattle.std.proofs.Common.{ap, ◌+◌, ◌∙◌}
use Rattle.work_newick_writing.proofs.Counted.{tree-counted}
use Rattle.work_newick_writing.proofs.counting.TreeText.length.Goals as goal

pub returns : goal.returns
returns c =
    let s = c.args.self.now in
    ap (λ k. k + 1) (c.from.ensures ∙ c.bytes_under.ensures) ∙ tree-counted s.good_rows s.counts
