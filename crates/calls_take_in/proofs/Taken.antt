-- Taking in an order: its refusals test by test, and from what the call found to its statement.
use Prim.Native.Nat.{ℕ, ◌-◌, ◌≤◌, ◌<◌}
use mathlib.Core.Path.{◌≡◌, refl, sym, ap, ◌∙◌}
use mathlib.Core.Logic.{◌≢◌}
use mathlib.Core.Bool.{Bool, true, false, not}
use mathlib.Core.List.{List}
use native.Mathlib.Omega.{arith}
use borrow.Author.Tests.{lt-ltb, le-ltb, ltb-false, ne_eqb}
use lib.Dec.{leb, ltb, lit≤}
use lib.ListN.{length}
use lib.Seq.{sets}
use Rattle.tanglegram.specs.Lists.{bit}
use Rattle.tanglegram.specs.Order.{against_pins}
use Rattle.tanglegram.specs.declared.side.Side.{Side}
use Rattle.tanglegram.specs.Table.{layout}
use Rattle.tanglegram.proofs.PinnedAs.{length-pinned_as}
use Rattle.record_fields.specs.Fields.{size_of, parts}
use Rattle.record_fields.specs.Refusals.{◌when◌else◌, refusal}
use Rattle.record_fields.specs.declared.refusal.Refusal.{Refusal}
use Rattle.record_fields.specs.Refused.{NumberAndRow, refused, refused_row, number_of, row_of}
use Rattle.record_fields.specs.Told.{told_of, OwnRow}
use Rattle.record_fields.specs.Meaning.{table_of, layouts_of}
use Rattle.record_fields.proofs.Acceptance.{else_first, none_both}
use Rattle.record_fields.proofs.Heading.{none_first, not_no}
use Rattle.record_fields.proofs.Refused.{lent-refused, lent-accepted, refuses}
use Rattle.record_fields.proofs.Stores.{sets_front}
use Rattle.record_fields.proofs.Told.{told_none, told-alone, alone_when, alone_0, own_when, own_then}
use Rattle.record.specs.Calls.{Refused, Reads}
use Rattle.record.proofs.Outcomes.{read-told, read-refuses}
use Rattle.record_arrays.specs.Sides.{is_side, side_of, RecordOver}
use Rattle.record_orders.specs.Proposed.{is_order}
use Rattle.record_orders.proofs.Proposals.{length-shown}
use Rattle.calls_take_in.specs.Refusals.{shown_on, take_in_refusal}
use Rattle.calls_take_in.specs.Calls.{taken_bytes, TakesIn}
use Rattle.calls_take_in.specs.Steps.{OrderTold, Weighed}

-- What the call starts from, where nothing is refused.
pub record Good (s : List ℕ) (side : ℕ) (xs out : List ℕ) : Type 0 where
  pub sided : is_side side ≡ true
  pub record_good : refusal s ≡ 0
  pub is-order : is_order (size_of s) ((table_of s).tree (side_of side)) xs ≡ true
  pub keeps_pins : against_pins (layout (layouts_of s) (side_of side)) (shown_on s (side_of side) xs) ≡ false
  pub room : size_of s - 1 ≤ length out

-- a byte for each row
pub length_taken : (s : List ℕ) (side : Side) (xs : List ℕ) → length (taken_bytes s side xs) ≡ size_of s - 1
length_taken s side xs =
    length-pinned_as (layout (layouts_of s) side) (shown_on s side xs) ∙ length-shown (size_of s) ((table_of s).tree side) xs

-- 16 and 23 are told before what comes after them, and where neither is told that decides
told-first : (a b : Bool) {k : ℕ} (r : ℕ) → k ≡ (16 when not a else 23 when b else 0) → k ≢ 0 → k ≡ (16 when not a else 23 when b else r)
told-first true true r e z = e
told-first true false r e z = absurd (z e)
told-first false b r e z = e

told_then : (a b : Bool) (r : ℕ) → 0 ≡ (16 when not a else 23 when b else 0) → r ≡ (16 when not a else 23 when b else r)
told_then true true r e = absurd (omega (arith, e))
told_then true false r e = refl
told_then false b r e = absurd (omega (arith, e))

-- ---- the refusal, test by test

module _ (s : List ℕ) (side : ℕ) (xs out : List ℕ) where
  abbrev one : Bool
  one = is_order (size_of s) ((table_of s).tree (side_of side)) xs

  abbrev against : Bool
  against = against_pins (layout (layouts_of s) (side_of side)) (shown_on s (side_of side) xs)

  pub taking_13 : is_side side ≡ false → 13 ≡ take_in_refusal s side xs out
  unfolding take_in_refusal
  taking_13 h = rw h refl

  module _ (good : is_side side ≡ true) where
    pub taking_record : refusal s ≢ 0 → refusal s ≡ take_in_refusal s side xs out
    unfolding take_in_refusal
    taking_record h = rw good (sym (else_first (refusal s) _ h))

    -- of an accepted record
    pub taking_then : refusal s ≡ 0 →
        take_in_refusal s side xs out ≡ (16 when not one else 23 when against else 14 when ltb (length out) (size_of s - 1) else 0)
    unfolding take_in_refusal
    taking_then a = rw (good, a) refl

  -- ---- what is told, test by test

  abbrev Tells : NumberAndRow → Type 0
  Tells r = r ≡ told_of s (take_in_refusal s side xs out)

  pub told-side : is_side side ≡ false → Tells (refused 13)
  told-side h = told-alone (parts s) (record { alone = refl }) ∙ ap (told_of s) (taking_13 h)

  module _ {side' : Side} (good : (is_side side ≡ true) × (side_of side ≡ side')) where
    pub told-record : (r : Refusal) → Reads s (Refused (refused_row (number_of r) (row_of r))) →
        Tells (refused_row (number_of r) (row_of r))
    told-record r found = read-told s r found ∙ ap (told_of s) (taking_record good.0 (read-refuses s r found))

    module _ {n : ℕ} (g : RecordOver s n) {answer : NumberAndRow} {lay : List ℕ} (told : OrderTold s n side' xs answer lay) where
      abbrev order-number : ℕ
      order-number = 16 when not one else 23 when against else 0

      here : answer ≡ refused order-number
      here = rw (← good.1, ← g.sized.says) at told.told

      pub told-order : (r : Refusal) → refused_row (number_of r) (row_of r) ≡ answer → Tells answer
      told-order r e =
          let first = told-first one against (14 when ltb (length out) (size_of s - 1) else 0) refl (refuses r (e ∙ here)) in
          here
          ∙ told-alone (parts s) (alone_when (not one) 16 refl (alone_when against 23 refl alone_0))
          ∙ ap (told_of s) (first ∙ sym (taking_then good.0 g.accepted))

      module _ (none : answer.number ≡ 0) where
        none-told : 0 ≡ order-number
        none-told = sym none ∙ ap (λ (a : NumberAndRow). a.number) here

        -- the bytes give the order, one for each row
        pub laid : lay ≡ taken_bytes s (side_of side) xs
        laid = rw (← good.1, ← g.sized.says) at (told.gives none)

        lay_long : length lay ≡ size_of s - 1
        lay_long = ap length laid ∙ length_taken s (side_of side) xs

        pub told-room : length out < length lay → Tells (refused 14)
        told-room h =
            let short = lt-ltb (length out) (size_of s - 1) (omega (arith, lay_long)) in
            told-alone (parts s) (record { alone = refl })
            ∙ ap (told_of s) (rw (taking_then good.0 g.accepted, short) (told_then one against 14 none-told))

        pub taking_0 : length lay ≤ length out → take_in_refusal s side xs out ≡ 0
        taking_0 h =
            let long = le-ltb (length out) (size_of s - 1) (omega (arith, lay_long)) in
            rw (taking_then good.0 g.accepted, long) (sym (told_then one against 0 none-told))

  -- where nothing is refused
  pub taking_good : take_in_refusal s side xs out ≡ 0 → Good s side xs out
  unfolding take_in_refusal
  taking_good e =
      let t = none_first _ 13 _ (lit≤ tt) e in
      let u = none_both (refusal s) _ t.1 in
      let v = none_first _ 16 _ (lit≤ tt) u.1 in
      let w = none_first _ 23 _ (lit≤ tt) v.1 in
      let x = none_first (ltb (length out) (size_of s - 1)) 14 0 (lit≤ tt) w.1 in
      record {
        sided = not_no _ t.0;
        record_good = u.0;
        is-order = not_no _ v.0;
        keeps_pins = w.0;
        room = ltb-false _ _ x.0;
      }

  -- a row that is told is the record's
  pub take_in_own : {k : ℕ} → k ≡ take_in_refusal s side xs out → OwnRow s k
  unfolding take_in_refusal
  take_in_own e =
      let y = side_of side in
      rw e (own_when s (not (is_side side)) 13 refl (own_then s
      (alone_when (not (is_order (size_of s) ((table_of s).tree y) xs)) 16 refl
      (alone_when (against_pins (layout (layouts_of s) y) (shown_on s y xs)) 23 refl
      (alone_when (ltb (length out) (size_of s - 1)) 14 refl alone_0)))))

  -- ---- the statement

  pub take_in_refused : (r : Refusal) → Tells (refused_row (number_of r) (row_of r)) →
      TakesIn s side xs out (record { refusal = refused_row (number_of r) (row_of r); count = 0; least = 0 }) out
  take_in_refused r e = record {
    answers = rw (← e, ne_eqb _ 0 (refuses r e)) refl;
    afterwards = lent-refused (take_in_refusal s side xs out) (taken_bytes s (side_of side) xs) out (refuses r e);
  }

  pub take_in_accepted : {bytes out' : List ℕ} {before after least : ℕ} {side' : Side} → take_in_refusal s side xs out ≡ 0 →
      side_of side ≡ side' → bytes ≡ taken_bytes s (side_of side) xs → out' ≡ sets out 0 bytes → Weighed s side' bytes before after →
      least ≡ bit (leb before after) → TakesIn s side xs out (record { refusal = refused 0; count = before; least = least }) out'
  take_in_accepted none same made w weighed l =
      let y = side_of side in
      let part = taken_bytes s y xs in
      let room = (taking_good none).room in
      let h = rw (← same, made) at weighed in
      record {
        answers = rw (told_none (parts s) none, none, l, h.counted, h.freed) refl;
        afterwards =
            w ∙ ap (sets out 0) made
            ∙ sets_front out part (omega (arith, length_taken s y xs))
            ∙ lent-accepted (take_in_refusal s side xs out) part out none;
      }
