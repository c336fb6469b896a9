-- `read_text`: a subtree, the semicolon, and the end.
use Rattle.work_newick_reading.proofs.WholeLaws.{text-broken, no_semicolon, text-whole}
use Rattle.work_newick_reading.proofs.whole.read_text.Goals as goal

pub returns-in_default : goal.returns-in_default
returns-in_default c = text-broken c.args.bytes.now c.args.notes.now _ c.requires c.in_default.ensures

pub returns-in_default-behind : goal.returns-in_default-behind
returns-in_default-behind c =
    no_semicolon c.args.bytes.now c.args.notes.now _ c.requires c.in-Some.end c.in-Some.ensures c.in_default-behind.ensures

pub returns : goal.returns
returns c =
    let b = c.in-Some-behind.ensures in
    text-whole c.args.bytes.now c.args.notes.now _ c.requires c.in-Some.end c.in-Some.ensures b.0 _ (rw b.1 at c.is_end.ensures)
