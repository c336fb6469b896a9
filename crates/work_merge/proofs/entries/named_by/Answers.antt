-- `named_by`: a negative entry names the leaf of its size; another names the object of a row.
use Rattle.std.proofs.Common.{arith, nat_abs, ◌+◌, ◌∙◌, ◌≡◌}
use lib.Dec.{T}
use lib.Signed.{non_neg}
use mir.Syntax.{w32}
use mir.Val.{to_z, of_z}
use mir.ValLaws.{to_z-of_z}
use Rattle.merge.specs.Entries.{named_by}
use Rattle.work_merge.proofs.EntryLaws.{named_small, leaf-named, row_named}
use Rattle.work_merge.proofs.entries.named_by.Goals.{After-unsigned_abs, Else-entry-lt0}
use Rattle.work_merge.proofs.entries.named_by.Goals as goal

leaf : (c : After-unsigned_abs) → c.unsigned_abs.result ≡ named_by c.args.n c.args.entry
leaf c =
    let read : to_z w32 (of_z w32 c.args.entry) ≡ c.args.entry = to_z-of_z w32 c.args.entry c.ranges.entry in
    (rw read at c.unsigned_abs.ensures.value)
    ∙ leaf-named c.args.n c.requires.0 c.args.entry c.requires.1 (rw read at c.if-entry-lt0.true)

row : (c : Else-entry-lt0) → let e = to_z w32 (of_z w32 c.args.entry) in
    T (non_neg e) × (c.args.n + nat_abs e ≡ named_by c.args.n c.args.entry)
row c =
    let read : to_z w32 (of_z w32 c.args.entry) ≡ c.args.entry = to_z-of_z w32 c.args.entry c.ranges.entry in
    rw read (row_named c.args.n c.requires.0 c.args.entry c.requires.1 (rw read at c.if-entry-lt0.false))

pub overflow_cast-result : goal.overflow_cast-result
overflow_cast-result c =
    let small = named_small c.args.n c.requires.0 c.args.entry c.requires.1 in
    let same = leaf c in record { fits = omega arith }

pub returns-then-entry-lt0 : goal.returns-then-entry-lt0
returns-then-entry-lt0 c = leaf c

pub overflow_cast-result-else-entry-lt0 : goal.overflow_cast-result-else-entry-lt0
overflow_cast-result-else-entry-lt0 c =
    let small = named_small c.args.n c.requires.0 c.args.entry c.requires.1 in
    let same = row c in (same.0, record { fits = omega arith })

pub overflow_add-result : goal.overflow_add-result
overflow_add-result c =
    let small = named_small c.args.n c.requires.0 c.args.entry c.requires.1 in
    let same = row c in record { fits = omega arith }

pub returns-else-entry-lt0 : goal.returns-else-entry-lt0
returns-else-entry-lt0 c = (row c).1
