use Rattle.std.proofs.Common.{List, ap, arith, get_or, length, map, pred, take, ℕ, ◌*◌, ◌+◌, ◌-◌, ◌<◌, ◌∙◌, ◌≡◌, ◌≤◌}
use Rattle.tanglegram.specs.Crossings.{inverted}
use Rattle.tanglegram.specs.Lists.{place}
use Rattle.tanglegram.specs.Tree.{leaves}
use Rattle.work_trees.specs.Rows.{upper, lower, size, count_of, tree_of}
use Rattle.work_trees.proofs.RowArray.{upper-place, lower-place}
use Rattle.work_places.specs.Arrays.{along, at}
use Rattle.work_freeing.proofs.Counted.{ChildrenStand, noted-leaves, noted_more, own-told, parts, parts-told}
use Rattle.work_freeing.proofs.Seen.{order-leaves, seen-long, seen_first}
use Rattle.work_freeing.proofs.Freed.{Own, freed-none, freed-more, freed-all, decided_most}
use Rattle.work_freeing.proofs.Chosen.{frees-freed}
use Rattle.work_freeing.proofs.rows.free_rows.Goals.{After-entries_along, After-from-b, After-from-in-loop-row-4, After-leaves_under-first}
use Rattle.work_freeing.proofs.rows.free_rows.Goals as goal

-- ---- before the loop

abbrev seen_in : (c : After-entries_along) → List ℕ
seen_in c = c.entries_along.new.list

seen-here : (c : After-entries_along) → seen_in c ≡ along (at c.args.far.now) (size c.args.rows.now) c.args.order.now
seen-here c = rw c.from-leaves.ensures at c.entries_along.ensures

seen-long-here : (c : After-entries_along) → length (seen_in c) ≡ 512
seen-long-here c =
    seen-long c.args.rows.now c.requires.good_rows.0 c.args.order.now c.requires.leaf_counts.1 c.args.far.now (seen_in c)
    (seen-here c)

seen-first-here : (c : After-entries_along) →
    let a = c.args in
    take (size a.rows.now) (seen_in c) ≡ map (at a.far.now) (leaves (tree_of a.rows.now))
seen-first-here c =
    seen_first c.args.rows.now c.requires.good_rows.0 c.args.order.now c.requires.leaf_counts.1 c.args.far.now (seen_in c)
    (seen-here c)

-- ---- at a row

row_below : (c : After-from-b) → c.loop-row.row < size c.args.rows.now
row_below c = let n = c.loop-row.invariant.0.long in omega arith

-- its entries are as they were
first_entry : (c : After-from-b) →
    c.from-a.result ≡ upper c.args.rows.now c.loop-row.row
first_entry c =
    let row = c.loop-row.row in
    c.from-a.ensures ∙ ap (λ k. get_or c.loop-row.rows k 0) (upper-place row c.loop-row.invariant.0.from)
    ∙ c.loop-row.invariant.0.kept-rows (2 * pred row) (omega arith)

second-entry : (c : After-from-b) →
    c.from-b.result ≡ lower c.args.rows.now c.loop-row.row
second-entry c =
    let row = c.loop-row.row in
    c.from-b.ensures ∙ ap (λ k. get_or c.loop-row.rows k 0) (lower-place row c.loop-row.invariant.0.from)
    ∙ c.loop-row.invariant.0.kept-rows (2 * pred row + 1) (omega arith)

-- where the far places under its two children stand, once the second one's leaves are counted too
parts-here : (c : After-leaves_under-first) {second : ℕ} → second ≡ count_of c.args.many.now c.from-leaves.result c.from-b.result →
    ChildrenStand c.args.far.now c.args.rows.now c.entries_along.new.list c.loop-row.row
    (get_or c.loop-row.from c.from-a.result 0) c.leaves_under-first.result second
parts-here c e =
    let T = c.args.rows.now in
    let g = c.requires.good_rows.0 in
    let order = c.requires.leaf_counts.1 in
    let seen = c.entries_along.new.list in
    let l = c.loop-row in
    let inv = l.invariant.0 in
    let n = inv.long in
    let below : l.row < size T = omega arith in
    let first = c.from-a.ensures ∙ ap (λ k. get_or l.rows k 0) (upper-place l.row inv.from)
    ∙ inv.kept-rows (2 * pred l.row) (omega arith) in
    let second = c.from-b.ensures ∙ ap (λ k. get_or l.rows k 0) (lower-place l.row inv.from)
    ∙ inv.kept-rows (2 * pred l.row + 1) (omega arith) in
    let along = rw c.from-leaves.ensures at c.entries_along.ensures in
    let long = seen-long T g c.args.order.now order c.args.far.now seen along in
    let shown = seen_first T g c.args.order.now order c.args.far.now seen along in
    parts-told
    (parts T g c.args.far.now c.requires.leaf_counts.2 seen long shown l.from c.args.many.now l.row inv.from below
    l.invariant.1 c.from-a.result c.from-b.result first second)
    (rw c.from-leaves.ensures at c.leaves_under-first.ensures) (rw c.from-leaves.ensures at e)

-- ---- the goals

pub entries_along-requires : goal.entries_along-requires
entries_along-requires c =
    let most = c.requires.good_rows.0.most in
    let long = c.requires.leaf_counts.1.long in
    rw c.from-leaves.ensures
    (most, omega arith, order-leaves c.args.rows.now c.requires.good_rows.0 c.args.order.now c.requires.leaf_counts.1)

pub loop-row-init : goal.loop-row-init
loop-row-init c =
    let W = c.args.rows.now in
    let g = c.requires.good_rows.0 in
    let p = c.note_places in
    let places : (v : ℕ) → v ≤ size W → get_or p.new.at v 0 ≡ place (leaves (tree_of W)) v =
    λ v h. p.ensures.by_index v h ∙ ap (λ l. place l v) c.requires.leaf_counts.1.first in (
      freed-none (inverted (at c.args.far.now)) W c.args.lay.now c.requires.good_rows.1 g.most,
      noted-leaves W g c.args.far.now c.requires.leaf_counts.2 (seen_in c) (seen-long-here c) (seen-first-here c) p.new.at
          c.args.many.now p.ensures.at_len places,
    )

pub own_crossings-count-requires : goal.own_crossings-count-requires
own_crossings-count-requires c =
    let p = parts-here (goal.at.own_crossings-count-requires c).After-leaves_under-first c.leaves_under-second.ensures in
    let most = c.requires.good_rows.0.most in
    record {
      second_bound = omega (arith, p.fits);
      second_value = rw (c.from.ensures, c.from-in-loop-row.ensures, c.from-in-loop-row-2.ensures) p.both_ways;
    }

-- the row's own crossings, as it stands and turned over
own-here : (c : After-from-in-loop-row-4) →
    ChildrenStand c.args.far.now c.args.rows.now c.entries_along.new.list c.loop-row.row
    (get_or c.loop-row.from c.from-a.result 0) c.leaves_under-first.result c.leaves_under-second.result →
    Own (inverted (at c.args.far.now)) c.args.rows.now c.loop-row.row c.own_crossings-count.result
    (c.from-in-loop-row-3.result * c.from-in-loop-row-4.result - c.own_crossings-count.result)
own-here c p =
    own-told p c.from.ensures c.from-in-loop-row.ensures
    c.from-in-loop-row-2.ensures c.from-in-loop-row-3.ensures c.from-in-loop-row-4.ensures c.own_crossings-count.ensures

pub overflow_sub-other : goal.overflow_sub-other
overflow_sub-other c =
    let p = parts-here (goal.at.overflow_sub-other c).After-leaves_under-first c.leaves_under-second.ensures in
    let counted = rw (c.from.ensures, c.from-in-loop-row.ensures, c.from-in-loop-row-2.ensures) at c.own_crossings-count.ensures in
    rw (c.from-in-loop-row-3.ensures, c.from-in-loop-row-4.ensures) (omega (arith, counted, p.both_ways))

pub overflow_add-before : goal.overflow_add-before
overflow_add-before c =
    let most = c.requires.good_rows.0.most in
    let p = parts-here (goal.at.overflow_add-before c).After-leaves_under-first c.leaves_under-second.ensures in
    let own = own-here (goal.at.overflow_add-before c).After-from-in-loop-row-4 p in
    let below = row_below (goal.at.overflow_add-before c).After-from-b in
    omega (arith, below, c.loop-row.invariant.0.before_few, own.few)

pub overflow_add-after : goal.overflow_add-after
overflow_add-after c =
    let most = c.requires.good_rows.0.most in
    let p = parts-here (goal.at.overflow_add-after c).After-leaves_under-first c.leaves_under-second.ensures in
    let own = own-here (goal.at.overflow_add-after c).After-from-in-loop-row-4 p in
    let below = row_below (goal.at.overflow_add-after c).After-from-b in
    omega (
      arith,
      below,
      c.loop-row.invariant.0.after-few,
      decided_most _ _ _ _ _ _ _ _ _ c.decide-after.ensures 262144 own.few own.few-over,
    )

pub loop-row-preserved : goal.loop-row-preserved
loop-row-preserved c =
    let a = c.args in
    let l = c.loop-row in
    let g = c.requires.good_rows.0 in
    let w = (goal.at.loop-row-preserved c).After-from-b in
    let e = (goal.at.loop-row-preserved c).After-entries_along in
    let p = parts-here (goal.at.loop-row-preserved c).After-leaves_under-first c.leaves_under-second.ensures in
    let own = own-here (goal.at.loop-row-preserved c).After-from-in-loop-row-4 p in
    let freed = freed-more (inverted (at a.far.now)) a.rows.now a.lay.now c.requires.good_rows.1 g.most l.rows l.lay l.row
    l.before l.after l.invariant.0 (row_below w) _ _ own _ _ _ c.decide-after.ensures in
    let noted = noted_more a.rows.now g a.far.now c.requires.leaf_counts.2 (seen_in e) (seen-long-here e) (seen-first-here e)
    l.from a.many.now l.row l.invariant.0.from (row_below w) l.invariant.1 c.from-a.result c.from-b.result
    (first_entry w) (second-entry w) c.requires.leaf_counts.0 in
    (freed, rw c.from-leaves.ensures noted)

pub returns : goal.returns
returns c =
    let a = c.args in
    let l = c.loop-row in
    let n = l.invariant.0.long in
    frees-freed (inverted (at a.far.now)) a.rows.now a.lay.now l.rows l.lay _ _ c.requires.good_rows.0 c.requires.good_rows.1
    (freed-all (inverted (at a.far.now)) a.rows.now a.lay.now c.requires.good_rows.1 c.requires.good_rows.0.most l.rows l.lay
    l.row _ _ l.invariant.0 (omega arith))
