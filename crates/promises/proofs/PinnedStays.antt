-- Pinned bytes stay, and no pin is made or lost: by a turn, turn after turn, and by a hand list, entry after entry.
use Prim.Native.Nat.{ℕ, zero, suc, pred, ◌≤◌}
use mathlib.Core.Path.{◌≡◌, refl, sym, ap, ◌∙◌, subst}
use mathlib.Core.Bool.{Bool, true, false, cond}
use mathlib.Core.List.Permᴰ
use mathlib.Core.List.{List, [], ◌∷◌}
use native.Mathlib.Omega.{arith}
use borrow.Author.Tests.{eqb-true, eq-eqb}
use lib.Dec.{eqb}
use lib.ListN.{set}
use Rattle.tanglegram.specs.Lists.{place}
use Rattle.tanglegram.specs.Tree.{leaves}
use Rattle.tanglegram.specs.Order.{order, byte, turned, may_change, flip, turn_row}
use Rattle.tanglegram.specs.declared.side.Side.{Side}
use Rattle.tanglegram.specs.declared.side.Side.TheVariants.{Left as left, Right as right}
use Rattle.tanglegram.specs.Run.{other, after}
use Rattle.tanglegram.specs.Table.{Table, Layouts, layout, put, crossings, free, Fair, Fits}
use Rattle.tanglegram.proofs.Bytes.{may_change-flip}
use Rattle.tanglegram.proofs.Lists.{all_distinct, mem-perm, mem-range}
use Rattle.tanglegram.proofs.Tree.{each_row_map}
use Rattle.tanglegram.proofs.Standing.{place_same}
use Rattle.tanglegram.proofs.Run.{run-standing}
use Rattle.tanglegram.proofs.Table.{free_fits, free-pinned, free_marks, free-standing, table-run}
use Rattle.record_fields.specs.Fields.{size_of}
use Rattle.record_fields.specs.Refusals.{refusal, set_hold_refusal}
use Rattle.record_fields.specs.Refused.{accepted, or_zero}
use Rattle.record_fields.specs.Meaning.{table_in, table_of, layouts_in, layouts_of, relaid}
use Rattle.record_fields.proofs.Acceptance.{accepted-sized, accepted_heading, holding_accepted}
use Rattle.record_fields.proofs.Meaning.{accepted_fair, accepted_fits, fits_long, table-relaid, layouts-of-relaid, relaid-same}
use Rattle.record_fields.proofs.Rehold.{parts_rehold}
use Rattle.record_arrays.specs.Sides.{side_of}
use Rattle.record_arrays.specs.Shown.{shown_order, shown_count}
use Rattle.record_arrays.proofs.AsItStands.{over_its_leaves, side-leaves}
use Rattle.record_arrays.proofs.OneRow.{set_keeps}
use Rattle.calls_turns.specs.Answers.{Freed}
use Rattle.calls_turns.specs.Answers.{Ran}
use Rattle.calls_turns.specs.Refusals.{free_refusal, run_refusal}
use Rattle.calls_turns.specs.Calls.{freed_layouts, ran_to, Frees, Runs}
use Rattle.calls_turns.proofs.Turns.{freeing_good, running_good}
use Rattle.calls_hands.specs.Refusals.{Hand, hands_refusal}
use Rattle.calls_hands.specs.Calls.{handed}
use Rattle.calls_hands.proofs.HandLists.{handing_accepted}
use Rattle.calls_hands.proofs.Handed.{pinned-kept}
use Rattle.promises.specs.PinnedStays as PinnedStays
use Rattle.promises.specs.PinnedStays.{PinnedAbove, PinsKept, AllPinned, StoodStill}
use Rattle.promises.proofs.Afterwards.{afterwards}
use Rattle.promises.proofs.HeldStays.{ran_fits, handed_fits}
use Rattle.promises.proofs.PinOnly.{pin_only}

-- ---- what is kept, of layouts

abbrev Stay : Layouts → Layouts → Type 0
Stay old new = (side : Side) (row : ℕ) → may_change (byte (layout old side) row) ≡ false →
    byte (layout new side) row ≡ byte (layout old side) row

abbrev Marks : Layouts → Layouts → Type 0
Marks old new = (side : Side) (row : ℕ) → may_change (byte (layout new side) row) ≡ may_change (byte (layout old side) row)

abbrev Trees : List ℕ → List ℕ → Type 0
Trees s s' = (side : Side) → (table_of s').tree side ≡ (table_of s).tree side

-- a leaf under pinned rows only keeps its place
same_place : (s s' : List ℕ) → Trees s s' → Stay (layouts_of s) (layouts_of s') → refusal s ≡ 0 → (side : Side) (a : ℕ) → 1 ≤ a →
    a ≤ size_of s → PinnedAbove s side a → place (shown_order s' side) a ≡ place (shown_order s side) a
same_place s s' trees p ok side a some most above =
    let t = (table_of s).tree side in
    let all = side-leaves s (size_of s) (over_its_leaves s ok) side in
    let old = layout (layouts_of s) side in
    let new = layout (layouts_of s') side in
    ap (λ u. place (order new u) a) (trees side)
    ∙ place_same old new a t (all_distinct (size_of s) (leaves t) all)
    (mem-perm (Permᴰ.symm all) (mem-range a 1 (size_of s) some (omega arith)))
    (each_row_map t (λ i u l h m. ap turned (p side i (h m))) above)

pins_kept : (s s' : List ℕ) → Trees s s' → Stay (layouts_of s) (layouts_of s') → Marks (layouts_of s) (layouts_of s') → PinsKept s s'
pins_kept s s' trees p m = record {
  pinned_stays = p;
  place_stays = same_place s s' trees p;
  same_pins = m;
  same_choices = λ side any. (
    λ c i h. c i (m side i ∙ h) ∙ ap turned (p side i h),
    λ c i h. let h' = sym (m side i) ∙ h in c i h' ∙ sym (ap turned (p side i h')),
  );
}

pub pins-same : (s : List ℕ) → PinsKept s s
pins-same s = pins_kept s s (λ side. refl) (λ side row h. refl) (λ side row. refl)

-- a record with new layouts that keep them, or one that is as it was
either : (s s' : List ℕ) (new : Layouts) (k : ℕ) → s' ≡ cond (accepted k) (relaid s new) s →
    (k ≡ 0 → (a : refusal s ≡ 0) × Fits (accepted_fair s a) new × Stay (layouts_of s) new × Marks (layouts_of s) new) → PinsKept s s'
either s s' new k e f =
    afterwards (PinsKept s) k e (λ z. made (f z)) (pins_kept s s (λ side. refl) (λ side row h. refl) (λ side row. refl))
  where
    made : (a : refusal s ≡ 0) × Fits (accepted_fair s a) new × Stay (layouts_of s) new × Marks (layouts_of s) new → PinsKept s (relaid s new)
    made h =
        let a = h.0 in
        let z = accepted-sized s a in
        let l = fits_long s a new h.1 left in
        let r = fits_long s a new h.1 right in
        let laid = sym (layouts-of-relaid s z new l r) in
        pins_kept s (relaid s new) (λ side. ap (λ T. T.tree side) (table-relaid s z new l r)) (subst (Stay (layouts_of s)) laid h.2)
        (subst (Marks (layouts_of s)) laid h.3)

-- ---- turns

module _ (T : Table) (F : Fair T) where
  after_marks : (j : ℕ) (side : Side) (L : Layouts) → Fits F L → Marks L (after (free T) j side L)
  unfolding after
  after_marks zero side L fits x i = refl
  after_marks (suc j) side L fits x i =
      after_marks j (other side) (free T side L) (free_fits T F side L fits) x i ∙ free_marks T F side L fits x i

  after_stay : (j : ℕ) (side : Side) (L : Layouts) → Fits F L → Stay L (after (free T) j side L)
  unfolding after
  after_stay zero side L fits x i h = refl
  after_stay (suc j) side L fits x i h =
      after_stay j (other side) (free T side L) (free_fits T F side L fits) x i (free_marks T F side L fits x i ∙ h)
      ∙ free-pinned T F side L fits x i h

-- ---- hand lists: a row that is turned over is not pinned, and keeps being none

handed_marks : (hands : List Hand) (at : Layouts) → Marks at (handed at hands)
unfolding handed
handed_marks [] at x i = refl
handed_marks (h ∷ hs) at x i = handed_marks hs _ x i ∙ by (side_of h.side) x
  where
    by : (y z : Side) → may_change (byte (layout (put y (turn_row (layout at y) h.row) at) z) i) ≡ may_change (byte (layout at z) i)
    by left left = set_keeps may_change flip may_change-flip at.left_bytes (pred h.row) (pred i)
    by left right = refl
    by right left = refl
    by right right = set_keeps may_change flip may_change-flip at.right_bytes (pred h.row) (pred i)

-- ---- setting the hold

reheld : (s s' : List ℕ) (letter k : ℕ) → s' ≡ cond (accepted k) (set s 5 letter) s → (k ≡ 0 → refusal s ≡ 0) →
    (layouts_of s' ≡ layouts_of s) × (table_of s' ≡ table_of s)
reheld s s' letter k e f =
    afterwards (λ r. (layouts_of r ≡ layouts_of s) × (table_of r ≡ table_of s)) k e
    (λ z.
    let same = parts_rehold s letter (omega (arith, (accepted_heading s (f z)).long)) in
    (ap layouts_in same, ap table_in same))
    (refl, refl)

-- ---- every row pinned

-- such a side stands
stands : (s : List ℕ) → refusal s ≡ 0 → (side : Side) → AllPinned s side → free (table_of s) side (layouts_of s) ≡ layouts_of s
stands s a side all =
    let fits = accepted_fits s a in
    let long = fits_long s a (layouts_of s) fits side in
    let some = (accepted-sized s a).some in
    free-standing (table_of s) (accepted_fair s a) side (layouts_of s) fits (λ i p q. all i p (omega (arith, q, fits side, long, some)))

after-standing : (T : Table) (L : Layouts) → ((side : Side) → free T side L ≡ L) → (j : ℕ) (side : Side) → after (free T) j side L ≡ L
unfolding after
after-standing T L h zero side = refl
after-standing T L h (suc j) side = ap (after (free T) j (other side)) (h side) ∙ after-standing T L h j (other side)

free_all : (s : List ℕ) (side : ℕ) (answer : Freed) (s' : List ℕ) → Frees s side answer s' → AllPinned s (side_of side) →
    (s' ≡ s) × (answer.after ≡ answer.before)
free_all s side answer s' o all = go (eqb (free_refusal s side) 0) refl o.afterwards
  where
    go : (b : Bool) → eqb (free_refusal s side) 0 ≡ b → s' ≡ cond b (relaid s (freed_layouts s side)) s →
        (s' ≡ s) × (answer.after ≡ answer.before)
    go true p q =
        let a = (freeing_good s side (eqb-true (free_refusal s side) 0 p)).1 in
        let same = stands s a (side_of side) all in (
          q ∙ ap (relaid s) same ∙ relaid-same s (accepted-sized s a),
          ap (λ x. x.after) o.answers
              ∙ ap (λ L. or_zero (free_refusal s side) (crossings (table_of s) L)) same
              ∙ sym (ap (λ x. x.before) o.answers),
        )
    go false p q =
        let after : answer.after ≡ 0 = ap (λ x. x.after) o.answers ∙ rw p refl in
        let before : answer.before ≡ 0 = ap (λ x. x.before) o.answers ∙ rw p refl in
        (q, after ∙ sym before)

module _ (s : List ℕ) (allowance : ℕ) (all : (side : Side) → AllPinned s side) where
  run-same : run_refusal s allowance ≡ 0 → (ran_to s allowance).last ≡ layouts_of s
  run-same e =
      let a = (running_good s allowance e).1 in
      (table-run (table_of s) (accepted_fair s a) allowance (layouts_of s) (accepted_fits s a)).is_after
      ∙ after-standing (table_of s) (layouts_of s) (λ side. stands s a side (all side)) (ran_to s allowance).turns left

  run-all : (s' : List ℕ) → s' ≡ cond (accepted (run_refusal s allowance)) (relaid s (ran_to s allowance).last) s → s' ≡ s
  run-all s' q =
      afterwards (λ r. r ≡ s) (run_refusal s allowance) q
      (λ e. ap (relaid s) (run-same e) ∙ relaid-same s (accepted-sized s (running_good s allowance e).1)) refl

  run_still : (answer : Ran) (s' : List ℕ) → Runs s allowance answer s' → answer.refusal.number ≡ 0 → 2 ≤ allowance → StoodStill answer
  run_still answer s' o z two =
      let e : run_refusal s allowance ≡ 0 = sym (ap (λ x. x.refusal.number) o.answers) ∙ z in
      let a = (running_good s allowance e).1 in
      let ends : ran_to s allowance ≡ record { last = layouts_of s; turns = 2; settled = true } =
      run-standing (crossings (table_of s)) (free (table_of s)) allowance (layouts_of s) (λ side. stands s a side (all side)) two in
      let none = eq-eqb (run_refusal s allowance) 0 e in
      let first : answer.first ≡ shown_count s = ap (λ x. x.first) o.answers ∙ rw none refl in
      let last : answer.last ≡ shown_count s = ap (λ x. x.last) o.answers ∙ rw (none, ends) refl in
      record {
        two_turns = ap (λ x. x.turns) o.answers ∙ rw (none, ends) refl;
        settled = ap (λ x. x.settled) o.answers ∙ rw (none, ends) refl;
        same_count = last ∙ sym first;
      }

pub pinned_stays : PinnedStays.PinnedStays
pinned_stays = record {
  free = λ s side answer s' o.
      either s s' (freed_layouts s side) (free_refusal s side) o.afterwards
      (λ e.
      let a = (freeing_good s side e).1 in
      let F = accepted_fair s a in
      let fits = accepted_fits s a in (
        a,
        free_fits (table_of s) F (side_of side) (layouts_of s) fits,
        free-pinned (table_of s) F (side_of side) (layouts_of s) fits,
        free_marks (table_of s) F (side_of side) (layouts_of s) fits,
      ));
  run = λ s allowance answer s' o.
      either s s' (ran_to s allowance).last (run_refusal s allowance) o.afterwards
      (λ e.
      let a = (running_good s allowance e).1 in
      let F = accepted_fair s a in
      let fits = accepted_fits s a in
      let is_after = sym (table-run (table_of s) F allowance (layouts_of s) fits).is_after in (
        a,
        ran_fits s a allowance,
        subst (Stay (layouts_of s)) is_after (after_stay (table_of s) F (ran_to s allowance).turns left (layouts_of s) fits),
        subst (Marks (layouts_of s)) is_after (after_marks (table_of s) F (ran_to s allowance).turns left (layouts_of s) fits),
      ));
  hands = λ s hands answer s' o.
      either s s' (handed (layouts_of s) hands) (hands_refusal s hands) o.afterwards
      (λ e.
      let a = (handing_accepted s hands e).1 in
      (a, handed_fits s a hands, pinned-kept s hands e, handed_marks hands (layouts_of s)));
  set_hold = λ s letter answer s' o.
      let same = reheld s s' letter (set_hold_refusal s letter) o.afterwards (λ e. (holding_accepted s letter e).1) in
      pins_kept s s' (λ side. ap (λ T. T.tree side) same.1) (λ side row h. ap (λ L. byte (layout L side) row) same.0)
      (λ side row. ap (λ L. may_change (byte (layout L side) row)) same.0);
  pin = λ s side row pinned answer s' o. (pin_only s side row pinned answer s' o).keeps_the_turnings;
  free_all_pinned = free_all;
  run_all_pinned = λ s allowance answer s' o all.
      run-all s allowance all s' o.afterwards;
  run_stood_still = λ s allowance answer s' o all z two. run_still s allowance all answer s' o z two;
}
