-- Taking in an order, from what is proved of the call: the bytes that are answered, the count, and least.
use Prim.Native.Nat.{ℕ, zero, suc, pred, ◌-◌, ◌≤◌}
use mathlib.Core.Path.{◌≡◌, refl, sym, ap, ap₂, ◌∙◌}
use mathlib.Core.Logic.{◌≢◌, ◌↔◌, ◌⊎◌, inl, inr}
use mathlib.Core.Bool.{Bool, true, false, not, false≢true}
use mathlib.Core.List.Permᴰ
use mathlib.Core.List.{List, ◌++◌}
use native.Mathlib.Omega.{arith}
use borrow.Author.Tests.{le-leb, leb-true, eq-eqb}
use lib.ListN.{length, take, drop, length-take}
use lib.Seq.{take_at, drop_at}
use Rattle.tanglegram.specs.Lists.{Each, bit}
use Rattle.tanglegram.specs.Order.{may_change, byte_of, byte, order, Choice, against_pins}
use Rattle.tanglegram.specs.declared.side.Side.{Side}
use Rattle.tanglegram.specs.declared.side.Side.TheVariants.{Left as left, Right as right}
use Rattle.tanglegram.specs.Table.{layout, put, crossings, free, Fits}
use Rattle.tanglegram.proofs.Bytes.{byte_of-read}
use Rattle.tanglegram.proofs.Lists.{all-length, each_get_d}
use Rattle.tanglegram.proofs.Order.{order-perm}
use Rattle.tanglegram.proofs.PinnedAs.{turned-pinned_as, may_change-pinned_as, pinned_as-small, layout-bytes-only, against_choice}
use Rattle.tanglegram.proofs.Table.{free-least, free_fits, free-small, free_marks, put_same}
use Rattle.tanglegram.proofs.TakenIn.{SamePins, put_fits, least_exactly, same-freed, free_choice, put-freed}
use Rattle.record_fields.specs.Refused.{NumberAndRow}
use Rattle.record_fields.specs.Fields.{size_of, parts}
use Rattle.record_fields.specs.Refusals.{is_layout, refusal, set_hold_refusal}
use Rattle.record_fields.specs.Meaning.{table_of, layouts_of, relaid}
use Rattle.record_fields.proofs.Acceptance.{accepted-sized, accepted-parts, accepted_heading, holding_accepted}
use Rattle.record_fields.proofs.Rehold.{reheld_in, size_rehold, parts_rehold, rehold_accepted}
use Rattle.record_fields.proofs.Meaning.{accepted_fair, accepted_fits, fits_long, table-relaid, layouts-of-relaid, relaid-accepted}
use Rattle.record_fields.proofs.Refused.{lent-accepted, zero-accepted}
use Rattle.record_fields.proofs.Tests.{layout-small, small-layout}
use Rattle.record.specs.Calls.{SetsHold}
use Rattle.record.proofs.Outcomes.{equal_to_one}
use Rattle.record_arrays.specs.Sides.{is_side, side_of}
use Rattle.record_arrays.specs.Shown.{shown_order, shown_count}
use Rattle.record_arrays.proofs.AsItStands.{over_its_leaves, side-leaves, length_part}
use Rattle.record_arrays.proofs.OneRow.{row_small}
use Rattle.record_orders.specs.Proposed.{is_order}
use Rattle.calls_show.specs.Answers.{Counted}
use Rattle.calls_show.specs.Calls.{Counts}
use Rattle.calls_turns.specs.Answers.{Freed}
use Rattle.calls_turns.specs.Refusals.{free_refusal}
use Rattle.calls_turns.specs.Calls.{freed_layouts, Frees}
use Rattle.calls_turns.proofs.Turns.{freeing_good}
use Rattle.calls_turns.proofs.Freed.{freed-layouts}
use Rattle.calls_take_in.specs.Answers.{TakenIn}
use Rattle.calls_take_in.specs.Refusals.{shown_on, take_in_refusal}
use Rattle.calls_take_in.specs.Calls.{taken_bytes, taken_layouts, gains_nothing, TakesIn}
use Rattle.calls_take_in.proofs.Taken.{Good, length_taken, taking_13, taking_record, taking_then, taking_good}
use Rattle.promises.specs.TakeIn as TakeIn
use Rattle.promises.specs.TakeIn.{Numbered, answered, LaidOn, Answered, AcceptedAs}
use Rattle.promises.specs.HeldStays.{SameTrees}
use Rattle.promises.proofs.Afterwards.{afterwards}
use Rattle.promises.proofs.Demand2.{demand2}
use Rattle.promises.proofs.HeldStays.{held_stays}
use Rattle.promises.proofs.PinOnly.{refusal-most}
use Rattle.promises.proofs.TakenOrders.{number-told, lay_long, same-long, bytes_give, turns-alike}

-- ---- the number

numbered : (s : List ℕ) (side : ℕ) (xs out : List ℕ) {k : ℕ} → k ≡ take_in_refusal s side xs out → Numbered s side xs out k
numbered s side xs out {k} e = record {
  bad_side_first = λ h. e ∙ sym (taking_13 s side xs out h);
  then_the_record = λ h z. e ∙ sym (taking_record s side xs out h z);
  then_the_order = then;
  never_11 = by (is_side side) refl (refusal s) refl;
}
  where
    then : is_side side ≡ true → (a : refusal s ≡ 0) → TakeIn.NumberTold s (side_of side) xs out k
    then h a = number-told s a (side_of side) xs out (e ∙ taking_then s side xs out h a)

    one_of_four : (k ≡ 16) ⊎ (k ≡ 23) ⊎ (k ≡ 14) ⊎ (k ≡ 0) → k ≢ 11
    one_of_four (inl p) z = omega (arith, p, z)
    one_of_four (inr (inl p)) z = omega (arith, p, z)
    one_of_four (inr (inr (inl p))) z = omega (arith, p, z)
    one_of_four (inr (inr (inr p))) z = omega (arith, p, z)

    by : (b : Bool) → is_side side ≡ b → (r : ℕ) → refusal s ≡ r → k ≢ 11
    by false h r f z = omega (arith, e ∙ sym (taking_13 s side xs out h), z)
    by true h zero f z = one_of_four (then h f).no_other z
    by true h (suc r) f z =
        let same = taking_record s side xs out h (λ g. omega (arith, f, g)) in omega (arith, e, same, z, refusal-most s)

-- ---- an order that is taken in

bit_one : (b : Bool) → (bit b ≡ 1) ↔ (b ≡ true)
bit_one true = (λ e. refl, λ e. refl)
bit_one false = (λ e. absurd (omega (arith, e)), λ e. absurd (false≢true e))

bit-two : (b : Bool) {k : ℕ} → k ≡ bit b → (k ≡ 1) ⊎ (k ≡ 0)
bit-two true e = inl e
bit-two false e = inr e

module _ (s : List ℕ) (a : refusal s ≡ 0) (side : Side) (xs : List ℕ) where
  abbrev lay : List ℕ
  lay = layout (layouts_of s) side

  abbrev bytes : List ℕ
  bytes = taken_bytes s side xs

  pins : SamePins lay bytes
  pins = may_change-pinned_as lay (shown_on s side xs) (same-long s a side xs)

  bytes-laid : LaidOn s side bytes
  bytes-laid = record {
    byte_for_row = length_taken s side xs;
    small = pinned_as-small lay (shown_on s side xs);
    pins_kept = λ row p q. pins row;
  }

  long : length bytes ≡ length lay
  long = length_taken s side xs ∙ sym (lay_long s a side xs)

  module _ (o : is_order (size_of s) ((table_of s).tree side) xs ≡ true) where
    -- bytes that give the order, pinned where the record is, are these
    bytes-only : (any : List ℕ) → LaidOn s side any → order any ((table_of s).tree side) ≡ take (size_of s) xs → any ≡ bytes
    bytes-only any l e =
        layout-bytes-only any bytes (l.byte_for_row ∙ sym (length_taken s side xs)) l.small bytes-laid.small
        (λ i h.
        turns-alike s a side xs o any e i (omega (arith, l.byte_for_row, lay_long s a side xs))
        ∙ sym (turned-pinned_as lay (shown_on s side xs) (suc i)))
        (λ i h. l.pins_kept (suc i) (omega arith) (omega (arith, l.byte_for_row)) ∙ sym (pins (suc i)))

    module _ (k : against_pins lay (shown_on s side xs) ≡ false) where
      choice : Choice lay bytes
      choice i h =
          turned-pinned_as lay (shown_on s side xs) i ∙ (against_choice lay (shown_on s side xs) (same-long s a side xs)).0 k i h

      pinned-same : (row : ℕ) → may_change (byte lay row) ≡ false → byte bytes row ≡ byte lay row
      pinned-same row h =
          sym (byte_of-read (byte bytes row) (each_get_d (λ x. x ≤ 3) bytes (omega arith) bytes-laid.small (pred row)))
          ∙ ap₂ (λ c b. byte_of (not c) b) (pins row) (choice row h)
          ∙ byte_of-read (byte lay row) (row_small s a side row)

      fits : Fits (accepted_fair s a) (taken_layouts s side xs)
      fits = put_fits (table_of s) (accepted_fair s a) side (layouts_of s) (accepted_fits s a) bytes long pins choice

      its_layout : (x : Side) → is_layout (layout (taken_layouts s side xs) x) ≡ true
      its_layout = by side (small-layout bytes bytes-laid.small)
        where
          own : (x : Side) → is_layout (layout (layouts_of s) x) ≡ true
          own left = (accepted-parts s a).left_bytes
          own right = (accepted-parts s a).right_bytes

          by : (y : Side) → is_layout bytes ≡ true → (x : Side) → is_layout (layout (put y bytes (layouts_of s)) x) ≡ true
          by left h left = h
          by left h right = own right
          by right h left = own left
          by right h right = h

      -- the record with them counts what is answered
      counts : (count : Counted) → Counts (relaid s (taken_layouts s side xs)) count →
          (count.refusal.number ≡ 0) × (count.count ≡ crossings (table_of s) (taken_layouts s side xs))
      counts count c =
          let new = taken_layouts s side xs in
          let z = accepted-sized s a in
          let l = fits_long s a new fits left in
          let r = fits_long s a new fits right in
          let none : refusal (relaid s new) ≡ 0 = relaid-accepted s z new l r a (its_layout left) (its_layout right) in (
            ap (λ x. x.refusal.number) c.answers ∙ none,
            ap (λ x. x.count) c.answers ∙ sym (zero-accepted (refusal (relaid s new)) (shown_count (relaid s new)) none)
                ∙ ap₂ crossings (table-relaid s z new l r) (layouts-of-relaid s z new l r),
          )

      least : (gains_nothing (table_of s) side (taken_layouts s side xs) ≡ true) ↔
          ((any : List ℕ) → Choice lay any →
          crossings (table_of s) (taken_layouts s side xs) ≤ crossings (table_of s) (put side any (layouts_of s)))
      least =
          let T = table_of s in
          let exactly = least_exactly T (accepted_fair s a) side (layouts_of s) (accepted_fits s a) bytes long pins choice in
          (λ e. exactly.0 (leb-true _ _ e), λ h. le-leb _ _ (exactly.1 h))

-- what the call answered and left
module _ (s : List ℕ) (side : ℕ) (xs out : List ℕ) {answer : TakenIn} {out' : List ℕ} (t : TakesIn s side xs out answer out')
    (z : answer.refusal.number ≡ 0) where
  none : take_in_refusal s side xs out ≡ 0
  none = sym (ap (λ x. x.refusal.number) t.answers) ∙ z

  good : Good s side xs out
  good = taking_good s side xs out none

  left_there : out' ≡ taken_bytes s (side_of side) xs ++ drop (length (taken_bytes s (side_of side) xs)) out
  left_there = t.afterwards ∙ sym (lent-accepted (take_in_refusal s side xs out) (taken_bytes s (side_of side) xs) out none)

  made : answered s out' ≡ taken_bytes s (side_of side) xs
  made =
      let bytes = taken_bytes s (side_of side) xs in
      ap (take (size_of s - 1)) left_there
      ∙ take_at bytes (drop (length bytes) out) (size_of s - 1) (length_taken s (side_of side) xs)

  counted : answer.count ≡ crossings (table_of s) (taken_layouts s (side_of side) xs)
  counted = ap (λ x. x.count) t.answers ∙ sym (zero-accepted (take_in_refusal s side xs out) _ none)

  said : answer.least ≡ bit (gains_nothing (table_of s) (side_of side) (taken_layouts s (side_of side) xs))
  said = ap (λ x. x.least) t.answers ∙ sym (zero-accepted (take_in_refusal s side xs out) _ none)

  answers : Answered s (side_of side) xs out answer out'
  answers =
      let y = side_of side in
      let a = good.record_good in
      let o = good.is-order in
      let k = good.keeps_pins in
      let gain = gains_nothing (table_of s) y (taken_layouts s y xs) in
      record {
        laid = rw made (bytes-laid s a y xs);
        gives = rw made (bytes_give s a y xs o);
        pinned_stays = rw made (pinned-same s a y xs o k);
        only_these = rw made (bytes-only s a y xs o);
        beyond =
            ap (drop (size_of s - 1)) left_there
            ∙ drop_at (taken_bytes s y xs) (drop (length (taken_bytes s y xs)) out) (size_of s - 1) (length_taken s y xs)
            ∙ ap (λ m. drop m out) (length_taken s y xs);
        counted = rw (made, counted) (counts s a y xs o k);
        least_exactly = rw (said, counted) (
          λ e. (least s a y xs o k).0 ((bit_one gain).0 e),
          λ h. (bit_one gain).1 ((least s a y xs o k).1 h),
        );
        one_or_zero = bit-two gain said;
      }

  -- beside freeing
  module _ {freed : Freed} {s' : List ℕ} (f : Frees s side freed s') (w : freed.refusal.number ≡ 0) where
    after : freed.after ≡ crossings (table_of s) (free (table_of s) (side_of side) (layouts_of s))
    after =
        ap (λ x. x.after) f.answers
        ∙ sym (zero-accepted (free_refusal s side) _ (sym (ap (λ x. x.refusal.number) f.answers) ∙ w))

    as_freed : (freed.after ≤ answer.count) × ((answer.least ≡ 1) ↔ (answer.count ≡ freed.after))
    as_freed =
        let y = side_of side in
        let T = table_of s in
        let a = good.record_good in
        let o = good.is-order in
        let k = good.keeps_pins in
        let F = accepted_fair s a in
        let new = taken_bytes s y xs in
        let here = crossings T (taken_layouts s y xs) in
        let there = crossings T (free T y (taken_layouts s y xs)) in
        let gain = gains_nothing T y (taken_layouts s y xs) in
        let most = free-least T F y (layouts_of s) (accepted_fits s a) new (choice s a y xs o k) in
        let same = same-freed T F y (layouts_of s) (accepted_fits s a) new (long s a y xs) (pins s a y xs) (choice s a y xs o k) in (
          omega (arith, after, counted, most),
          (
            λ e. let h = leb-true here there ((bit_one gain).0 (sym said ∙ e)) in omega (arith, after, counted, most, same, h),
            λ e. said ∙ (bit_one gain).1 (le-leb here there (omega (arith, after, counted, same, e))),
          ),
        )

-- ---- a layout that gives the order is accepted, and answered

module _ (s : List ℕ) (side : ℕ) (sided : is_side side ≡ true) (a : refusal s ≡ 0) (any : List ℕ) (l : LaidOn s (side_of side) any)
    (c : Choice (layout (layouts_of s) (side_of side)) any) (xs out : List ℕ)
    (e : order any ((table_of s).tree (side_of side)) ≡ take (size_of s) xs) (room : size_of s - 1 ≤ length out)
    {answer : TakenIn} {out' : List ℕ} (t : TakesIn s side xs out answer out') where
  enough : size_of s ≤ length xs
  enough =
      let n = size_of s in
      let g = over_its_leaves s a in
      let full = all-length n _ (Permᴰ.trans (order-perm any ((table_of s).tree (side_of side))) (side-leaves s n g (side_of side))) in
      omega (arith, ap length e, full, length-take n xs)

  its_number : answer.refusal.number ≡ 0
  its_number =
      ((numbered s side xs out (ap (λ x. x.refusal.number) t.answers)).then_the_order sided a).taken.1
      ((any, record { enough = enough; gives = e; agrees = c }), room)

  accepted_as : AcceptedAs s (crossings (table_of s) (put (side_of side) any (layouts_of s))) any answer out'
  accepted_as =
      let same = (answers s side xs out t its_number).only_these any l e in
      record {
        accepted = its_number;
        its_count =
            counted s side xs out t its_number
            ∙ ap (λ b. crossings (table_of s) (put (side_of side) b (layouts_of s))) (sym (made s side xs out t its_number) ∙ sym same);
        its_bytes = sym same;
      }

-- the present layout is one
present_laid : (s : List ℕ) → refusal s ≡ 0 → (side : Side) → LaidOn s side (layout (layouts_of s) side)
present_laid s a side = record {
  byte_for_row = length_part s (size_of s) (over_its_leaves s a) side;
  small = own side;
  pins_kept = λ row p q. refl;
}
  where
    own : (x : Side) → Each (λ b. b ≤ 3) (layout (layouts_of s) x)
    own left = layout-small _ (accepted-parts s a).left_bytes
    own right = layout-small _ (accepted-parts s a).right_bytes

present : (s : List ℕ) (side : ℕ) → is_side side ≡ true → refusal s ≡ 0 → (xs : List ℕ) →
    take (size_of s) xs ≡ shown_order s (side_of side) → (out : List ℕ) → size_of s - 1 ≤ length out →
    (answer : TakenIn) (out' : List ℕ) → TakesIn s side xs out answer out' →
    AcceptedAs s (shown_count s) (layout (layouts_of s) (side_of side)) answer out'
present s side sided a xs e out room answer out' t =
    let y = side_of side in
    rw (put_same y (layouts_of s)) at
    (accepted_as s side sided a (layout (layouts_of s) y) (present_laid s a y) (λ i h. refl) xs out (sym e) room t)

-- so is the layout that freeing leaves
module _ (s : List ℕ) (side : ℕ) (freed : Freed) (s' : List ℕ) (f : Frees s side freed s') (w : freed.refusal.number ≡ 0) where
  freed-none : free_refusal s side ≡ 0
  freed-none = sym (ap (λ x. x.refusal.number) f.answers) ∙ w

  sided : is_side side ≡ true
  sided = (freeing_good s side freed-none).0

  a : refusal s ≡ 0
  a = (freeing_good s side freed-none).1

  kept : SameTrees s s'
  kept = (held_stays.free s side freed s' f).same_trees

  left_as : s' ≡ relaid s (freed_layouts s side)
  left_as = f.afterwards ∙ rw (eq-eqb (free_refusal s side) 0 freed-none) refl

  its_layouts : layouts_of s' ≡ freed_layouts s side
  its_layouts = ap layouts_of left_as ∙ freed-layouts s (size_of s) (over_its_leaves s a) (side_of side)

  abbrev there : List ℕ
  there = layout (freed_layouts s side) (side_of side)

  there-laid : LaidOn s (side_of side) there
  there-laid =
      let y = side_of side in
      let T = table_of s in
      let F = accepted_fair s a in
      let own = accepted_fits s a in
      record {
        byte_for_row = fits_long s a (freed_layouts s side) (free_fits T F y (layouts_of s) own) y;
        small = free-small T F y (layouts_of s) own (λ x. (present_laid s a x).small) y;
        pins_kept = λ row p q. free_marks T F y (layouts_of s) own y row;
      }

  module _ (xs : List ℕ) (e : take (size_of s) xs ≡ shown_order s' (side_of side)) (out : List ℕ) (room : size_of s - 1 ≤ length out)
      (answer : TakenIn) (out' : List ℕ) where
    gives-there : order there ((table_of s).tree (side_of side)) ≡ take (size_of s) xs
    gives-there =
        sym (e ∙ ap₂ order (ap (λ L. layout L (side_of side)) its_layouts) (kept.same_trees (side_of side)))

    of_it : TakesIn s side xs out answer out' →
        AcceptedAs s freed.after (layout (layouts_of s') (side_of side)) answer out' × (answer.least ≡ 1)
    of_it t =
        let y = side_of side in
        let T = table_of s in
        let chosen = free_choice T (accepted_fair s a) y (layouts_of s) (accepted_fits s a) in
        let h = accepted_as s side sided a there there-laid chosen xs out gives-there room t in
        let left-count = after s side xs out t h.accepted f w in
        let count = h.its_count ∙ ap (crossings T) (put-freed T y (layouts_of s)) ∙ sym left-count in (
          record {
            accepted = h.accepted;
            its_count = count;
            its_bytes = h.its_bytes ∙ ap (λ L. layout L y) (sym its_layouts);
          },
          (as_freed s side xs out t h.accepted f w).1.1 count,
        )

    of_what_is-left : TakesIn s' side xs out answer out' →
        AcceptedAs s freed.after (layout (layouts_of s') (side_of side)) answer out' × (answer.least ≡ 1)
    of_what_is-left t =
        let y = side_of side in
        let size = kept.same_size in
        let h = present s' side sided (kept.accepted_again a) xs (ap (λ m. take m xs) size ∙ e) out (rw size room) answer out' t in
        let count = (demand2.freed_counts s side freed s' f w).1 in
        let fewest = (demand2.freed_keeps s side freed s' f w).fewest in (
          record {
            accepted = h.accepted;
            its_count = h.its_count ∙ sym count;
            its_bytes = ap (λ m. take (m - 1) out') (sym size) ∙ h.its_bytes;
          },
          (answers s' side xs out t h.accepted).least_exactly.1 (λ any c. rw h.its_count (fewest any c)),
        )

    either : (TakesIn s side xs out answer out' ⊎ TakesIn s' side xs out answer out') →
        AcceptedAs s freed.after (layout (layouts_of s') (side_of side)) answer out' × (answer.least ≡ 1)
    either (inl t) = of_it t
    either (inr t) = of_what_is-left t

-- ---- another hold

module _ (s s' : List ℕ) (letter : ℕ) (same : parts s' ≡ reheld_in (parts s) letter) (size : size_of s' ≡ size_of s)
    (again : refusal s' ≡ refusal s) (side : ℕ) (xs out : List ℕ) where
  same_refusal : take_in_refusal s' side xs out ≡ take_in_refusal s side xs out
  unfolding take_in_refusal
  same_refusal = rw (again, same, size) refl

  same_outcome : {answer : TakenIn} {out' : List ℕ} → TakesIn s' side xs out answer out' → TakesIn s side xs out answer out'
  same_outcome t = record {
    answers = t.answers ∙ rw (same_refusal, same, size) refl;
    afterwards = t.afterwards ∙ rw (same_refusal, same, size) refl;
  }

held_alike : (s : List ℕ) (letter : ℕ) (set : NumberAndRow) (s' : List ℕ) → SetsHold s letter set s' → (side : ℕ) (xs out : List ℕ)
    {answer : TakenIn} {out' : List ℕ} → TakesIn s' side xs out answer out' → TakesIn s side xs out answer out'
held_alike s letter set s' p side xs out {answer} {out'} =
    afterwards (λ r. TakesIn r side xs out answer out' → TakesIn s side xs out answer out') (set_hold_refusal s letter) p.afterwards
    (λ z.
    let good = holding_accepted s letter z in
    let long = (accepted_heading s good.1).long in
    same_outcome s (lib.ListN.set s 5 letter) letter (parts_rehold s letter (omega (arith, long))) (size_rehold s letter)
    (rehold_accepted s letter good.1 good.0 ∙ sym good.1) side xs out)
    (λ t. t)

pub take_in : TakeIn.TakeIn
take_in = record {
  numbered = λ s side xs out answer out' t. numbered s side xs out (ap (λ x. x.refusal.number) t.answers);
  answers = λ s side xs out answer out' t z. answers s side xs out t z;
  as_freed = λ s side xs out answer out' t z freed s' f w. as_freed s side xs out t z f w;
  freed_order = either;
  present_order = present;
  hold_no_part = λ s letter set s' p side xs out answer answer₂ out' out₂ t t₂.
      let u = held_alike s letter set s' p side xs out t₂ in
      (equal_to_one u.answers t.answers, equal_to_one u.afterwards t.afterwards);
}
