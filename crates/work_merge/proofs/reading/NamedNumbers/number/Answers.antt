-- `number`: the object that the entry at place k names.
use Rattle.std.proofs.Common.{arith, refl, sym, ◌*◌, ◌-◌, ◌<◌, ◌∙◌}
use Rattle.merge.specs.Entries.{named_by}
use Rattle.merge.proofs.Tables.{row_entry, length-rows}
use Rattle.work_merge.proofs.EntryLaws.{named_entry}
use Rattle.work_merge.proofs.Signed.{told_at}
use Rattle.work_merge.proofs.reading.NamedNumbers.number.Goals.{Start}
use Rattle.work_merge.proofs.reading.NamedNumbers.number.Goals as goal

below : (c : Start) → c.args.k < 2 * (c.args.self.now.n - 1)
below c = let t = c.args.self.now in omega (arith, rw length-rows at c.requires, t.pairs.long)

pub offset_bounds-self-k : goal.offset_bounds-self-k
offset_bounds-self-k c = let t = c.args.self.now in omega (arith, below (goal.at.offset_bounds-self-k c).Start, t.pairs.most)

pub bounds-self-k : goal.bounds-self-k
bounds-self-k c = let t = c.args.self.now in omega (arith, below (goal.at.bounds-self-k c).Start, t.pairs.long)

pub named_by-requires : goal.named_by-requires
named_by-requires c =
    let t = c.args.self.now in
    named_entry t.pairs t.named _ (omega (arith, below (goal.at.named_by-requires c).Start)) (omega arith)

pub returns : goal.returns
returns c =
    let t = c.args.self.now in
    told_at (named_by t.n) t.table.now c.named_by.ensures (omega arith) refl ∙ sym (row_entry t.n t.table.now c.args.k)
