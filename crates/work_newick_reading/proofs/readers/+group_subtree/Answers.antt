use Rattle.std.proofs.Common.{◌≡◌, ◌∙◌, ℕ, sym, ap, suc, ◌+◌, ◌-◌, drop, arith}
use Rattle.newick.specs.Reading.{group_by, subtree_in}
use Rattle.work_newick_reading.specs.Text.{Place}
use Rattle.work_newick_reading.specs.Notes.{open_in, closed}
use Rattle.work_newick_reading.proofs.ReaderLaws.{from_further, subtree_leaf, subtree_full, subtree_group}
use Rattle.work_newick_reading.proofs.GroupLaws.{Begun, FirstIn, SecondIn, first-broken, first_in, no_comma, second_place}
use Rattle.work_newick_reading.proofs.GroupLaws.{second_broken, second_in, no_end, group_reads}
use Rattle.work_newick_reading.proofs.readers.+group_subtree.Goals.{group-Start, group-In_ok-comma, group-In_ok-end}
use Rattle.work_newick_reading.proofs.readers.+group_subtree.Goals as goal

-- ---- `group`: where it begins, once its first sentence was read, and once its second was

begun : (t : ℕ) (c : group-Start t) → Begun c.args.text.now.bytes.now c.args.at c.args.notes.now
begun t c = record { place = c.requires.0; notes = c.requires.1; few = c.requires.2 }

first-read : (t : ℕ) (c : group-In_ok-comma t) →
    FirstIn c.args.text.now.bytes.now c.args.at c.args.notes.now c.subtree.new.notes c.in_ok-comma.comma
first-read t c =
    let b : Begun c.args.text.now.bytes.now c.args.at c.args.notes.now =
    record { place = c.requires.0; notes = c.requires.1; few = c.requires.2 } in
    first_in b _ _ c.open_one.ensures _ c.in_ok-comma.ensures

second-read : (t : ℕ) (c : group-In_ok-end t) →
    SecondIn c.args.text.now.bytes.now c.args.at c.args.notes.now c.subtree.new.notes c.in_ok-comma.comma c.subtree-2.new.notes
    c.in_ok-end.end
second-read t c =
    let b : Begun c.args.text.now.bytes.now c.args.at c.args.notes.now =
    record { place = c.requires.0; notes = c.requires.1; few = c.requires.2 } in
    let w = c.in_ok-second.ensures in
    second_in (first_in b _ _ c.open_one.ensures _ c.in_ok-comma.ensures) w.0 _ _ (rw w.1 at c.in_ok-end.ensures)

pub group-returns-in_err-comma : goal.group-returns-in_err-comma
group-returns-in_err-comma t c =
    let b = begun t (goal.at.group-returns-in_err-comma t c).Start in
    rw c.from_residual.ensures (first-broken b _ _ c.open_one.ensures c.in_err-comma.ensures _)

pub group-returns-in_err-second : goal.group-returns-in_err-second
group-returns-in_err-second t c =
    let f = first-read t (goal.at.group-returns-in_err-second t c).In_ok-comma in
    rw c.from_residual-in_err-second.ensures (no_comma f c.in_err-second.ensures _)

pub group-subtree-requires-2 : goal.group-subtree-requires-2
group-subtree-requires-2 t c =
    let f = first-read t (goal.at.group-subtree-requires-2 t c).In_ok-comma in
    let w = c.in_ok-second.ensures in
    let q : Place c.args.text.now.bytes.now c.in_ok-second.second = rw w.1 (second_place f w.0) in
    let further = f.got.further in
    (omega (arith, q.within), (q, f.got.its_notes.notes))

pub group-returns-in_err-end : goal.group-returns-in_err-end
group-returns-in_err-end t c =
    let f = first-read t (goal.at.group-returns-in_err-end t c).In_ok-comma in
    let w = c.in_ok-second.ensures in
    rw c.from_residual-in_err-end.ensures (second_broken f w.0 _ (rw w.1 at c.in_err-end.ensures) _)

pub group-returns-in_err-after : goal.group-returns-in_err-after
group-returns-in_err-after t c =
    let s = second-read t (goal.at.group-returns-in_err-after t c).In_ok-end in
    rw c.from_residual-in_err-after.ensures (no_end s c.in_err-after.ensures _)

pub group-returns : goal.group-returns
group-returns t c =
    let s = second-read t (goal.at.group-returns t c).In_ok-end in
    let z = c.in_ok-after.ensures in
    group_reads s z.0 _ c.length_end.result (c.close_one.ensures ∙ ap (λ o. closed o c.subtree-2.new.notes) c.last_object-first.ensures)
    (rw z.1 at c.length_end.ensures)

-- ---- `subtree`

pub subtree-returns-in_default : goal.subtree-returns-in_default
subtree-returns-in_default t c =
    rw (subtree_leaf c.args.text.now.bytes.now c.args.at (511 - open_in c.args.notes.now) c.in_default.ensures) c.leaf.ensures

pub subtree-returns-then-open_groups-eq-MOST_OPEN : goal.subtree-returns-then-open_groups-eq-MOST_OPEN
subtree-returns-then-open_groups-eq-MOST_OPEN t c =
    let full : open_in c.args.notes.now ≡ 511 = sym c.open_groups.ensures ∙ c.if-open_groups-eq-MOST_OPEN.true in
    rw (subtree_full c.args.text.now.bytes.now c.args.at c.in-Some.ensures.0 (511 - open_in c.args.notes.now) (omega arith)) tt

pub subtree-returns : goal.subtree-returns
subtree-returns t c =
    let T = c.args.notes.now in
    let text = c.args.text.now.bytes.now in
    let n = c.requires.1.few_open in
    let less : 511 - open_in T ≡ suc (510 - open_in T) = omega (arith, c.open_groups.ensures, c.if-open_groups-eq-MOST_OPEN.false) in
    rw (subtree_group text c.args.at c.in-Some.ensures.0 (511 - open_in T) (510 - open_in T) less)
    (from_further text c.args.at T c.group.new.notes (group_by (subtree_in (510 - open_in T)) (drop (c.args.at + 1) text))
    c.group.result (c.args.at + 1) (omega arith) (rw c.in-Some.ensures.1 at c.group.ensures))
