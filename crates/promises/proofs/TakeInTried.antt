-- Each wrong outcome of taking in an order contradicts a field of the promise, by computation.
use Prim.Native.Nat.{ℕ, zero, suc, pred, ◌≤◌, zero-le}
use mathlib.Core.Path.{◌≡◌, refl, sym, ap, ◌∙◌}
use mathlib.Core.Bool.{true, false, true≢false}
use mathlib.Core.List.{List}
use mathlib.Core.Logic.{inl}
use native.Mathlib.Omega.{arith}
use lib.ListN.{get_or}
use Rattle.tanglegram.specs.Lists.{place, range}
use Rattle.tanglegram.specs.Tree.{leaves, deep, object, used}
use Rattle.tanglegram.specs.Order.{may_change, byte, order, Choice, write, uppermost, reading, pinned_as, against_pins}
use Rattle.tanglegram.specs.Crossings.{over, across, pairs, count}
use Rattle.tanglegram.specs.Freeing.{choose, freed}
use Rattle.tanglegram.specs.declared.side.Side.TheVariants.{Left as left}
use Rattle.tanglegram.specs.Table.{layout, put, crossings}
use Rattle.work_tree_rule.specs.Rule.{among, first, bad_row}
use Rattle.record_fields.specs.Fields.{numbers, split, parts_of, packed}
use Rattle.record_fields.specs.Refusals.{all, is_mark, is_hold, no_size, breaks_rule, one_to_one, is_layout, contents_refusal, heading_refusal}
use Rattle.record_fields.specs.Refusals.{refusal}
use Rattle.record_fields.specs.Refused.{or_zero}
use Rattle.record_fields.specs.Told.{row_for, told_of}
use Rattle.record_fields.specs.Meaning.{table_of, layouts_of, relaid}
use Rattle.record_arrays.specs.Sides.{is_side}
use Rattle.record_arrays.specs.Shown.{shown_count}
use Rattle.record_orders.specs.Proposed.{same, is_order}
use Rattle.calls_take_in.specs.Refusals.{take_in_refusal}
use Rattle.calls_take_in.specs.Calls.{TakesIn}
use Rattle.promises.specs.TakeIn.{NumberTold, Answered}
use Rattle.promises.specs.TakeInTried as TakeInTried
use Rattle.promises.specs.TakeInTried.{free2, pinned2, sorted, four_on_top, no_order, three, told}
use Rattle.promises.proofs.TakeIn.{take_in}
use Rattle.promises.proofs.TakenOrders.{number-told}

-- both records are accepted
good : (refusal free2 ≡ 0) × (refusal pinned2 ≡ 0)
unfolding range used among first bad_row numbers split parts_of packed all is_mark is_hold no_size breaks_rule one_to_one is_layout
    contents_refusal heading_refusal refusal
good = (refl, refl)

-- what is told of the orders
told_23 : NumberTold pinned2 left sorted (three 9 9 9) 23
unfolding order write leaves deep object place range used numbers split parts_of packed uppermost reading pinned_as against_pins same is_order
told_23 = number-told pinned2 good.1 left sorted (three 9 9 9) refl

told_16 : NumberTold free2 left no_order (three 9 9 9) 16
unfolding order write leaves deep object place range used numbers split parts_of packed uppermost reading pinned_as against_pins same is_order
told_16 = number-told free2 good.0 left no_order (three 9 9 9) refl

told_0 : NumberTold free2 left sorted (three 9 9 9) 0
unfolding order write leaves deep object place range used numbers split parts_of packed uppermost reading pinned_as against_pins same is_order
told_0 = number-told free2 good.0 left sorted (three 9 9 9) refl

-- nothing crosses with the bytes that freeing leaves
nothing : crossings (table_of free2) (put left (three 0 1 1) (layouts_of free2)) ≡ 0
unfolding order leaves deep object count place range over across pairs used numbers split parts_of packed
nothing = refl

-- no row of case 2's left is pinned, so every layout is a choice
zeros : (i : ℕ) → may_change (get_or (three 0 0 0) i 0) ≡ false → ⊥
zeros zero h = true≢false h
zeros (suc zero) h = true≢false h
zeros (suc (suc zero)) h = true≢false h
zeros (suc (suc (suc i))) h = true≢false h

no_pins : layout (layouts_of free2) left ≡ three 0 0 0
unfolding numbers split parts_of packed range
no_pins = refl

every : (any : List ℕ) → Choice (layout (layouts_of free2) left) any
every any i h = absurd (zeros (pred i) (sym (ap (λ l. may_change (byte l i)) no_pins) ∙ h))

-- the record with these bytes counts 0
abbrev with_bytes : List ℕ
with_bytes = relaid free2 (put left (three 0 1 1) (layouts_of free2))

counts_0 : or_zero (refusal with_bytes) (shown_count with_bytes) ≡ 0
unfolding order leaves deep object count place range over across pairs used among first bad_row numbers split parts_of packed relaid all
    is_mark is_hold no_size breaks_rule one_to_one is_layout contents_refusal heading_refusal refusal
counts_0 = refl

-- with the root pinned, leaf 4 on top is the least
least : TakesIn pinned2 1 four_on_top (three 9 9 9) (told 3 1) (three 0 1 2)
unfolding order write leaves deep object count place range over across pairs choose freed used among first bad_row numbers split parts_of
    packed all is_mark is_hold no_size breaks_rule one_to_one is_layout contents_refusal heading_refusal refusal row_for is_side uppermost reading
    pinned_as against_pins same is_order take_in_refusal
least = record { answers = refl; afterwards = refl }

-- what the bytes would have to be
pin-byte : Answered pinned2 left four_on_top (three 9 9 9) (told 3 1) (three 0 1 0) → ◌≡◌ {A = ℕ} 0 2
unfolding numbers split parts_of packed range
pin-byte k = k.pinned_stays 3 refl

row_3 : Answered free2 left sorted (three 9 9 9) (told 0 1) (three 0 1 3) → false ≡ true
unfolding numbers split parts_of packed range
row_3 k = k.laid.pins_kept 3 (omega arith) (omega arith)

first_leaf : Answered free2 left sorted (three 9 9 9) (told 0 1) (three 0 0 0) → ◌≡◌ {A = ℕ} 4 1
unfolding order deep object numbers split parts_of packed range
first_leaf k = ap (λ r. get_or r 0 0) k.gives

first_byte : Answered free2 left sorted (three 9 9 9) (told 0 1) (three 9 9 9) → 9 ≤ 3
unfolding numbers split parts_of packed range
first_byte k = k.laid.small.0

-- and the count
its_count : Answered free2 left sorted (three 9 9 9) (told 5 1) (three 0 1 1) → or_zero (refusal with_bytes) (shown_count with_bytes) ≡ 5
unfolding numbers split parts_of packed range
its_count k =
    (k.counted
    (record { refusal = told_of with_bytes (refusal with_bytes); count = or_zero (refusal with_bytes) (shown_count with_bytes) })
    (record { answers = refl })
    ).1

pub tried : TakeInTried.TakeInTried
tried = record {
  pin_lost = λ k. omega (arith, pin-byte k);
  row_pinned = λ k. true≢false (sym (row_3 k));
  bytes_of_the_present = λ k. omega (arith, first_leaf k);
  nothing_written = λ k. omega (arith, first_byte k);
  count_of_the_present = λ k. omega (arith, its_count k, counts_0);
  always_least = λ k. let h = k.least_exactly.0 refl (three 0 1 1) (every (three 0 1 1)) in omega (arith, h, nothing);
  never_least = λ k. let e = k.least_exactly.1 (λ any c. zero-le) in omega (arith, e);
  against_unpermitted = λ k.
      let fewest = (take_in.answers pinned2 1 four_on_top (three 9 9 9) (told 3 1) (three 0 1 2) least refl).least_exactly.0 refl in
      let e = k.least_exactly.1 fewest in
      omega (arith, e);
  accepted_against_a_pin = λ k. let p = (k.taken.0 refl).0 in (told_23.against_a_pin.0 refl).1 p.0 p.1;
  sixteen_for_twenty_three = λ k. k.not_compatible.0 refl (told_23.against_a_pin.0 refl).0;
  twenty_three_for_sixteen = λ k. told_16.not_compatible.0 refl (k.against_a_pin.0 refl).0;
  refused_good_order = λ k. let p = (told_0.taken.0 refl).0 in k.order_refused.0 (inl refl) p.0 p.1;
  refused_held = λ s side xs out k. k.never_11 refl;
}
