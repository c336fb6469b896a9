-- `names_none`: zero, a leaf that is not there, a row that is not earlier.
use Rattle.std.proofs.Common.{ap, eq-eqb, false, neg_ℤ, pos, sym, true, ◌∙◌, ◌≡◌, ◌≢◌}
use lib.Signed.{lt_z}
use mir.Syntax.{w32}
use mir.Val.{to_z, of_z}
use mir.ValLaws.{to_z-of_z}
use Rattle.merge.specs.Entries.{names_none}
use Rattle.work_merge.proofs.Signed.{signed, negated}
use Rattle.work_merge.proofs.EntryLaws.{none-zero, none_row, none-leaf}
use Rattle.work_merge.proofs.entries.names_none.Goals.{then-entry-eq0, else-entry-eq0}
use Rattle.work_merge.proofs.entries.names_none.Goals as goal

pub returns-then-entry-from : goal.returns-then-entry-from
returns-then-entry-from c =
    let a = c.args in
    let read : to_z w32 (of_z w32 a.entry) ≡ a.entry = to_z-of_z w32 a.entry c.ranges.entry in
    let none : true ≡ names_none a.n a.i a.entry =
    elim c.if-entry-eq0.branch [
      | then-entry-eq0 w ↦ none-zero a.n a.i a.entry (sym read ∙ ap (to_z w32) w.if-entry-eq0.true)
      | else-entry-eq0 w ↦ none-leaf a.n a.i a.entry
          (sym (rw (read, negated a.n c.ranges.n w.from.ensures) at w.value-is) ∙ c.if-entry-from.true)
    ] in
    c.if-entry-from.true ∙ none

pub returns-else-entry-from : goal.returns-else-entry-from
returns-else-entry-from c =
    let a = c.args in
    let read : to_z w32 (of_z w32 a.entry) ≡ a.entry = to_z-of_z w32 a.entry c.ranges.entry in
    let other : (a.entry ≢ pos 0) × (lt_z a.entry (neg_ℤ (pos a.n)) ≡ false) =
    elim c.if-entry-eq0.branch [
      | then-entry-eq0 w ↦ (let zero = eq-eqb _ 0 w.if-entry-eq0.true in cc)
      | else-entry-eq0 w ↦ (
        λ z. w.if-entry-eq0.false (ap (of_z w32) z),
        sym (rw (read, negated a.n c.ranges.n w.from.ensures) at w.value-is) ∙ c.if-entry-from.false,
      )
    ] in
    rw (signed a.i c.ranges.i c.from-else-entry-from.ensures, read) (none_row a.n a.i a.entry other.0 other.1)
