-- `mark_leaf`: each test, and the mark.
use Rattle.std.proofs.Common.{ap, sub-one, sym, ◌∙◌}
use Rattle.work_newick_reading.proofs.OnceLaws.{marked_no_leaf, marked-beyond, marked-twice, marked_new}
use Rattle.work_seen_places.specs.Seen.{mark_at}
use Rattle.work_newick_reading.proofs.once.mark_leaf.Goals as goal

pub returns-then-x-ge-FIRST_GROUP : goal.returns-then-x-ge-FIRST_GROUP
returns-then-x-ge-FIRST_GROUP c = marked_no_leaf _ _ _ c.if-x-ge-FIRST_GROUP.true

pub returns-then-x-eq0 : goal.returns-then-x-eq0
returns-then-x-eq0 c = marked-beyond _ _ _ c.if-x-ge-FIRST_GROUP.false c.then-x-eq0.either

pub returns-then-is_marked : goal.returns-then-is_marked
returns-then-is_marked c =
    let place = c.from-place.ensures ∙ sub-one _ in
    let twice = sym c.is_marked.ensures ∙ c.if-is_marked.true in
    marked-twice _ _ _ c.if-x-eq0.false c.if-x-ge-FIRST_GROUP.false c.if-n-x.false (rw place at twice)

pub returns : goal.returns
returns c =
    let place = c.from-place.ensures ∙ sub-one _ in
    let new = sym c.is_marked.ensures ∙ c.if-is_marked.false in
    let marked = c.mark.ensures ∙ ap (mark_at c.args.seen.now) place in
    rw marked (marked_new _ _ _ c.if-x-eq0.false c.if-x-ge-FIRST_GROUP.false c.if-n-x.false (rw place at new))
