-- `merge_read`: the refusals 5, 6, 20, 21 and 14 in that order, and nothing written; otherwise the rows stand in the first places.
use Rattle.std.proofs.Common.{false, refl, sym, ◌∙◌, ◌≡◌}
use Rattle.merge.specs.Tables.{some_none, twice, Pairs}
use Rattle.record_fields.specs.declared.refusal.Refusal.TheVariants as refusal
use Rattle.record_fields.specs.Refusals.{no_size}
use Rattle.record_fields.proofs.Heading.{sized}
use Rattle.calls_merge.proofs.TableRead.{reading_5, reading_6, pairs, reading_20, reading_21, reading_14, reading_0}
use Rattle.calls_merge.proofs.TableRead.{read_refused, read-accepted}
use Rattle.calls_merge.proofs.reading.merge_read.Goals.{Else-any_names_none, Else-any_twice, Else-no_size, Else-table-m}
use Rattle.calls_merge.proofs.reading.merge_read.Goals as goal

size : (c : Else-no_size) → no_size c.args.n ≡ false
size c = sym c.no_size.ensures ∙ c.if-no_size.false

its-pairs : (c : Else-table-m) → Pairs c.args.n c.args.table.now
its-pairs c = pairs _ _ c.args.out.now (sym c.no_size.ensures ∙ c.if-no_size.false) c.if-table-m.false

named : (c : Else-any_names_none) → some_none c.args.n c.args.table.now ≡ false
named c = sym c.any_names_none.ensures ∙ c.if-any_names_none.false

once : (c : Else-any_twice) → twice c.args.table.now ≡ false
once c = sym c.any_twice.ensures ∙ c.if-any_twice.false

pub returns-then-no_size : goal.returns-then-no_size
returns-then-no_size c = read_refused _ _ _ refusal.Size refl (reading_5 _ _ _ (sym c.no_size.ensures ∙ c.if-no_size.true))

pub overflow_sub-m : goal.overflow_sub-m
overflow_sub-m c = (sized _ (size c)).0

pub returns-then-table-m : goal.returns-then-table-m
returns-then-table-m c =
    let v = goal.at.returns-then-table-m c in
    read_refused _ _ _ refusal.Length refl (reading_6 _ _ _ (size v.Else-no_size) c.if-table-m.true)

pub any_names_none-requires : goal.any_names_none-requires
any_names_none-requires c = its-pairs c

pub returns-then-any_names_none : goal.returns-then-any_names_none
returns-then-any_names_none c =
    let v = goal.at.returns-then-any_names_none c in
    let none = sym c.any_names_none.ensures ∙ c.if-any_names_none.true in
    read_refused _ _ _ refusal.Entry refl (reading_20 _ _ _ (size v.Else-no_size) c.if-table-m.false none)

pub any_twice-requires : goal.any_twice-requires
any_twice-requires c = (its-pairs (goal.at.any_twice-requires c).Else-table-m, named c)

pub returns-then-any_twice : goal.returns-then-any_twice
returns-then-any_twice c =
    let v = goal.at.returns-then-any_twice c in
    let again = sym c.any_twice.ensures ∙ c.if-any_twice.true in
    read_refused _ _ _ refusal.Twice refl
    (reading_21 _ _ _ (size v.Else-no_size) c.if-table-m.false (named v.Else-any_names_none) again)

pub returns-then-out-m : goal.returns-then-out-m
returns-then-out-m c =
    let v = goal.at.returns-then-out-m c in
    read_refused _ _ _ refusal.Room refl
    (reading_14 _ _ _ (size v.Else-no_size) c.if-table-m.false (named v.Else-any_names_none) (once v.Else-any_twice) c.if-out-m.true)

pub rows_out-requires-clause-pairs : goal.rows_out-requires-clause-pairs
rows_out-requires-clause-pairs c =
    let v = goal.at.rows_out-requires-clause-pairs c in (its-pairs v.Else-table-m, named v.Else-any_names_none)

pub returns : goal.returns
returns c =
    let v = goal.at.returns c in
    let passed =
    reading_0 _ _ _ (size v.Else-no_size) c.if-table-m.false (named v.Else-any_names_none) (once v.Else-any_twice) c.if-out-m.false in
    read-accepted _ _ _ passed c.rows_out.ensures
