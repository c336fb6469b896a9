-- `entry_for`: a leaf's number is negated, and a row's object has its row's number.
use Rattle.std.proofs.Common.{le-leb, refl, sym, ◌∙◌}
use borrow.Author.Tests.{lt-leb}
use mir.Syntax.{w16}
use mir.ValLaws.{Fits-sub}
use Rattle.merge.specs.Entries.{entry_for}
use Rattle.work_merge.proofs.Signed.{signed, negated}
use Rattle.work_merge.proofs.entries.entry_for.Goals as goal

pub returns-then-object-n : goal.returns-then-object-n
unfolding entry_for
returns-then-object-n c =
    let a = c.args in
    negated a.object c.ranges.object c.from.ensures ∙ sym (rw (le-leb a.object a.n c.if-object-n.true) refl)

pub returns-else-object-n : goal.returns-else-object-n
unfolding entry_for
returns-else-object-n c =
    let a = c.args in
    signed _ (Fits-sub {w = w16} a.object a.n c.ranges.object) c.from-else-object-n.ensures
    ∙ sym (rw (lt-leb a.object a.n c.if-object-n.false) refl)
