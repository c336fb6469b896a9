-- Orders are the layouts' and compatible; counts are the definition's; the freed side has the fewest crossings.
use Prim.Native.Nat.{ℕ, ◌<◌}
use mathlib.Core.Path.{◌≡◌, refl, sym, ap, ◌∙◌, subst}
use mathlib.Core.Bool.{true}
use mathlib.Core.Logic.{◌↔◌, ◌⊎◌}
use mathlib.Core.List.{List}
use borrow.Author.Tests.{eq-eqb}
use lib.ListN.{length, take, drop}
use lib.Seq.{take_at}
use Rattle.tanglegram.specs.Tree.{Tree, EachRow}
use Rattle.tanglegram.specs.Order.{Compatible, byte, flip, turn_row, may_change}
use Rattle.tanglegram.specs.declared.side.Side.{Side}
use Rattle.tanglegram.specs.declared.side.Side.TheVariants.{Left as left, Right as right}
use Rattle.tanglegram.specs.Run.{other}
use Rattle.tanglegram.specs.Table.{Layouts, layout, put, seen, crossings, free, Least}
use Rattle.tanglegram.proofs.Lists.{all-length}
use Rattle.tanglegram.proofs.Tree.{leaves_once}
use Rattle.tanglegram.proofs.Order.{order-compatible}
use Rattle.tanglegram.proofs.Freeing.{freed_either}
use Rattle.tanglegram.proofs.Table.{free_settles, free_other}
use Rattle.tanglegram.proofs.OwnPairs.{pairs-exactly}
use Rattle.record_fields.specs.Fields.{size_of, parts, parts_of}
use Rattle.record_fields.specs.Refusals.{refusal}
use Rattle.record_fields.specs.Meaning.{tree_in, table_of, layouts_of, relaid}
use Rattle.record_fields.proofs.Acceptance.{accepted-sized}
use Rattle.record_fields.proofs.Meaning.{left-rule, right-rule, links-perm, accepted_fair, accepted_fits}
use Rattle.record_arrays.specs.Sides.{side_of}
use Rattle.calls_show.specs.Refusals.{order_refusal}
use Rattle.calls_turns.specs.Refusals.{free_refusal}
use Rattle.record_arrays.specs.Shown.{shown_order, shown_count, own_crossings}
use Rattle.calls_turns.specs.Calls.{freed_layouts, Frees}
use Rattle.calls_turns.specs.Answers.{Freed}
use Rattle.record_arrays.proofs.AsItStands.{over_its_leaves, side-perm}
use Rattle.calls_show.proofs.Outcomes.{ordering_good}
use Rattle.calls_turns.proofs.Freed.{freed-layouts, freed-table}
use Rattle.calls_turns.proofs.Turns.{freeing_good, freed-count}
use Rattle.promises.specs.Demand2 as Demand2
use Rattle.promises.proofs.RoundTrip.{round_trip}

-- what an accepted freeing makes of the record
module _ (s : List ℕ) (side : ℕ) (answer : Freed) (s' : List ℕ) (o : Frees s side answer s') (z : answer.refusal.number ≡ 0) where
  none : free_refusal s side ≡ 0
  none = sym (ap (λ a. a.refusal.number) o.answers) ∙ z

  ok : refusal s ≡ 0
  ok = (freeing_good s side none).1

  left_behind : s' ≡ relaid s (freed_layouts s side)
  left_behind = o.afterwards ∙ rw (eq-eqb (free_refusal s side) 0 none) refl

  laid : layouts_of s' ≡ freed_layouts s side
  laid = ap layouts_of left_behind ∙ freed-layouts s (size_of s) (over_its_leaves s ok) (side_of side)

  same-table : table_of s' ≡ table_of s
  same-table = ap table_of left_behind ∙ freed-table s (size_of s) (over_its_leaves s ok) (side_of side)

  counted-after : answer.after ≡ crossings (table_of s) (freed_layouts s side)
  counted-after = ap (λ a. a.after) o.answers ∙ rw (eq-eqb (free_refusal s side) 0 none) refl

-- row i's byte in `new` is the other one exactly if it may change and that makes its own crossings fewer
abbrev TurnedIff : List ℕ → Side → Layouts → ℕ → Tree → Tree → Type 0
TurnedIff s side new i u l =
    let old = layout (layouts_of s) side in
    (byte (layout new side) i ≡ flip (byte old i)) ↔
    ((may_change (byte old i) ≡ true) ×
    (own_crossings s (put side (turn_row old i) (layouts_of s)) side u l < own_crossings s (layouts_of s) side u l))

accepted-exactly : (s : List ℕ) → refusal s ≡ 0 → (side : Side) →
    EachRow (TurnedIff s side (free (table_of s) side (layouts_of s))) ((table_of s).tree side)
unfolding parts_of
accepted-exactly s a side =
    let P = parts s in
    let some = (accepted-sized s a).some in
    pairs-exactly (size_of s) (tree_in (size_of s) P.left_rows) (tree_in (size_of s) P.right_rows) P.links
    (leaves_once (size_of s) _ _ (left-rule s a) some) (leaves_once (size_of s) _ _ (right-rule s a) some) (links-perm s a)
    (accepted_fair s a) side (layouts_of s) (accepted_fits s a)

-- row i's byte in `new` is the other one or the same
abbrev EitherByte : List ℕ → Side → Layouts → ℕ → Tree → Tree → Type 0
EitherByte s side new i u l =
    let old = layout (layouts_of s) side in
    (byte (layout new side) i ≡ flip (byte old i)) ⊎ (byte (layout new side) i ≡ byte old i)

free_either : (s : List ℕ) → refusal s ≡ 0 → (side : Side) →
    EachRow (EitherByte s side (free (table_of s) side (layouts_of s))) ((table_of s).tree side)
free_either s a left =
    let F = accepted_fair s a in
    freed_either (seen (table_of s) (layouts_of s) left) ((table_of s).tree left) (F.row_count left) (F.numbered left)
    (layouts_of s).left_bytes (accepted_fits s a left)
free_either s a right =
    let F = accepted_fair s a in
    freed_either (seen (table_of s) (layouts_of s) right) ((table_of s).tree right) (F.row_count right) (F.numbered right)
    (layouts_of s).right_bytes (accepted_fits s a right)

pub demand2 : Demand2.Demand2
unfolding parts_of
demand2 = record {
  order_given = λ s side out answer out' o z.
      let e = sym (ap (λ a. a.number) o.answers) ∙ z in
      let g = ordering_good s side out e in
      let shown = shown_order s (side_of side) in
      let long = all-length (size_of s) shown (side-perm s (size_of s) (over_its_leaves s g.1) (side_of side)) in
      let first = ap (take (size_of s)) (o.afterwards ∙ rw (eq-eqb (order_refusal s side out) 0 e) refl)
      ∙ take_at shown (drop (length shown) out) (size_of s) long in (
        first,
        subst (Compatible ((table_of s).tree (side_of side))) (sym first)
            (order-compatible (layout (layouts_of s) (side_of side)) ((table_of s).tree (side_of side))),
      );
  count_published = λ s answer o z.
      let e = sym (ap (λ a. a.refusal.number) o.answers) ∙ z in
      ap (λ a. a.count) o.answers ∙ rw (eq-eqb (refusal s) 0 e) refl;
  freed_counts = λ s side answer s' o z.
      let n = none s side answer s' o z in
      let a = ok s side answer s' o z in (
        ap (λ x. x.before) o.answers ∙ rw (eq-eqb (free_refusal s side) 0 n) refl,
        counted-after s side answer s' o z
            ∙ sym (ap shown_count (left_behind s side answer s' o z) ∙ freed-count s side (over_its_leaves s a)),
      );
  freed_keeps = λ s side answer s' o z.
      let a = ok s side answer s' o z in
      let T = table_of s in
      let F = accepted_fair s a in
      let x = side_of side in
      let l = laid s side answer s' o z in
      record {
        fewest =
            subst (λ T'. Least T' x (layouts_of s')) (sym (same-table s side answer s' o z))
            (subst (Least T x) (sym l) (free_settles T F x (layouts_of s) (accepted_fits s a)));
        turned_exactly = subst (λ L. EachRow (TurnedIff s x L) (T.tree x)) (sym l) (accepted-exactly s a x);
        turned_or_kept = subst (λ L. EachRow (EitherByte s x L) (T.tree x)) (sym l) (free_either s a x);
        other_stands = ap (λ L. layout L (other x)) l ∙ free_other T F x (layouts_of s);
      };
  round_trip = round_trip;
}
