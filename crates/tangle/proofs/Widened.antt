-- A wide number and the narrow one in its place: a call comes to the same with both, since beyond the limit it refuses both alike.
use Prim.Native.Nat.{ℕ, zero, suc, ◌-◌, ◌≤◌}
use mathlib.Core.Path.{◌≡◌, refl, sym, ap, ◌∙◌, subst}
use mathlib.Core.Logic.{◌≢◌}
use mathlib.Core.Bool.{Bool, true, false}
use mathlib.Core.List.{List}
use native.Mathlib.Omega.{arith}
use borrow.Author.Tests.{ne_eqb, lt-ltb, ltb-true, ltb-false}
use lib.Dec.{ltb}
use lib.IntN.{ℤ}
use Rattle.record_fields.specs.Refused.{NumberAndRow}
use Rattle.record_fields.specs.Fields.{Parts, given, size_of, packed}
use Rattle.record_fields.specs.Refusals.{is_hold, no_size, refusal, set_hold_refusal}
use Rattle.record.specs.Calls.{SetsHold}
use Rattle.record_fields.specs.Told.{told_in, told_of}
use Rattle.record_fields.proofs.Acceptance.{accepted-sized}
use Rattle.record_fields.proofs.Refused.{lent-refused}
use Rattle.record_fields.proofs.Told.{Alone, told-alone}
use Rattle.record_packing.specs.Refusals.{shape_refusal, pack_refusal}
use Rattle.record_packing.specs.Calls.{Packs}
use Rattle.record_arrays.specs.Sides.{is_side}
use Rattle.record_arrays.specs.Rows.{no_row}
use Rattle.calls_show.specs.Calls.{Orders}
use Rattle.calls_show.proofs.Outcomes.{ordering_13}
use Rattle.calls_turns.specs.Answers.{Freed}
use Rattle.calls_turns.specs.Calls.{Frees}
use Rattle.calls_turns.proofs.Turns.{freeing_13}
use Rattle.calls_pins.specs.Refusals.{pin_refusal}
use Rattle.calls_pins.specs.Calls.{Pins}
use Rattle.calls_pins.proofs.Pinned.{pinning_13, pinning_record, pinning_15}
use Rattle.calls_better.specs.Answers.{Compared}
use Rattle.calls_better.specs.Calls.{better_which, Compares, BetterChecks}
use Rattle.calls_better.proofs.Compared.{comparing_13}
use Rattle.calls_take_in.specs.Answers.{TakenIn}
use Rattle.calls_take_in.specs.Calls.{TakesIn}
use Rattle.calls_take_in.proofs.Taken.{taking_13}
use Rattle.calls_newick.specs.Answers.{NewickWritten}
use Rattle.calls_newick.specs.Calls.{NewickWrites}
use Rattle.calls_newick.proofs.Outcomes.{writing_13}
use Rattle.calls_merge.specs.Calls.{MergeReads, MergeWrites}
use Rattle.calls_merge.proofs.TableRead.{reading_5}
use Rattle.calls_merge.proofs.SideWritten.{merging_13}
use Rattle.tangle.specs.Narrowed.{Narrowed}

-- What is true of the narrow number is true of the wide one, if beyond the limit it follows from what is true of 0.
pub widened : {limit x y : ℕ} (P : ℕ → Type 0) → Narrowed limit x y → (limit ≤ x → P 0 → P x) → P y → P x
widened {limit} {x} P w far p = go (ltb x limit) refl
  where
    go : (b : Bool) → ltb x limit ≡ b → P x
    go true e = subst P (w.below (ltb-true x limit e)) p
    go false e = let h = ltb-false x limit e in far h (subst P (w.beyond h) p)

-- ---- sides

no_side : (x : ℕ) → 65536 ≤ x → is_side x ≡ false
unfolding is_side
no_side x h = rw (ne_eqb x 1 (λ e. omega arith), ne_eqb x 2 (λ e. omega arith)) refl

zero_no_side : is_side 0 ≡ false
unfolding is_side
zero_no_side = refl

module _ {side k : ℕ} (w : Narrowed 65536 side k) where
  by_side : (P : ℕ → Type 0) → (is_side side ≡ false → P 0 → P side) → P k → P side
  by_side P alike = widened P w (λ h. alike (no_side side h))

  pub order_wide : {s out out' : List ℕ} {a : NumberAndRow} → Orders s k out a out' → Orders s side out a out'
  order_wide {s} {out} {out'} {a} = by_side (λ x. Orders s x out a out') (λ no p.
      let z = ordering_13 s 0 out zero_no_side in
      let e = ordering_13 s side out no in
      record { answers = rw (← e) (rw (← z) at p.answers); afterwards = rw (← e) (rw (← z) at p.afterwards) })

  pub free_wide : {s s' : List ℕ} {a : Freed} → Frees s k a s' → Frees s side a s'
  free_wide {s} {s'} {a} = by_side (λ x. Frees s x a s') (λ no p.
      let z = freeing_13 s 0 zero_no_side in
      let e = freeing_13 s side no in
      record { answers = rw (← e) (rw (← z) at p.answers); afterwards = rw (← e) (rw (← z) at p.afterwards) })

  pin-side_wide : {s s' : List ℕ} {row : ℕ} {pinned : Bool} {a : NumberAndRow} → Pins s k row pinned a s' → Pins s side row pinned a s'
  pin-side_wide {s} {s'} {row} {pinned} {a} = by_side (λ x. Pins s x row pinned a s') (λ no p.
      let z = pinning_13 s 0 row zero_no_side in
      let e = pinning_13 s side row no in
      record { answers = rw (← e) (rw (← z) at p.answers); afterwards = rw (← e) (rw (← z) at p.afterwards) })

  pub compare_wide : {s first second : List ℕ} {a : Compared} → Compares s k first second a → Compares s side first second a
  unfolding better_which
  compare_wide {s} {first} {second} {a} = by_side (λ x. Compares s x first second a) (λ no p.
      let z = comparing_13 s 0 first second zero_no_side in
      let e = comparing_13 s side first second no in
      record { answers = rw (← e) (rw (← z) at p.answers) })

  pub better-check_wide : {s first second : List ℕ} {a : NumberAndRow} →
      BetterChecks s k first second a → BetterChecks s side first second a
  better-check_wide {s} {first} {second} {a} = by_side (λ x. BetterChecks s x first second a) (λ no p.
      let z = comparing_13 s 0 first second zero_no_side in
      let e = comparing_13 s side first second no in
      record { answers = p.answers ∙ ap (told_of s) (sym z ∙ e) })

  pub take_in_wide : {s xs out out' : List ℕ} {a : TakenIn} → TakesIn s k xs out a out' → TakesIn s side xs out a out'
  take_in_wide {s} {xs} {out} {out'} {a} = by_side (λ x. TakesIn s x xs out a out') (λ no p.
      let z = taking_13 s 0 xs out zero_no_side in
      let e = taking_13 s side xs out no in
      record { answers = rw (← e) (rw (← z) at p.answers); afterwards = rw (← e) (rw (← z) at p.afterwards) })

  pub newick-write_wide : {s out out' : List ℕ} {a : NewickWritten} → NewickWrites s k out a out' → NewickWrites s side out a out'
  newick-write_wide {s} {out} {out'} {a} = by_side (λ x. NewickWrites s x out a out') (λ no p.
      let z = writing_13 s 0 out zero_no_side in
      let e = writing_13 s side out no in
      record { answers = rw e (rw z at p.answers); afterwards = rw e (rw z at p.afterwards) })

  pub merge-write_wide : {s : List ℕ} {out out' : List ℤ} {a : NumberAndRow} → MergeWrites s k out a out' → MergeWrites s side out a out'
  merge-write_wide {s} {out} {out'} {a} = by_side (λ x. MergeWrites s x out a out') (λ no p.
      let z = merging_13 s 0 out zero_no_side in
      let e = merging_13 s side out no in
      record { answers = rw (← e) (rw (← z) at p.answers); afterwards = rw (← e) (rw (← z) at p.afterwards) })

-- ---- rows

zero_no_row : (n : ℕ) → no_row n 0 ≡ true
unfolding no_row
zero_no_row n = refl

far_no_row : (n row : ℕ) → n ≤ 512 → 65536 ≤ row → no_row n row ≡ true
unfolding no_row
far_no_row n row h far = rw (ne_eqb row 0 (λ e. omega arith), lt-ltb (n - 1) row (omega arith)) refl

-- a row beyond 16 bits is refused as row 0 is
far_row : (s : List ℕ) (side row : ℕ) → 65536 ≤ row → (pin_refusal s side 0 ≡ pin_refusal s side row) × (pin_refusal s side row ≢ 0)
far_row s side row far = go (is_side side) refl (refusal s) refl
  where
    go : (b : Bool) → is_side side ≡ b → (k : ℕ) → refusal s ≡ k →
        (pin_refusal s side 0 ≡ pin_refusal s side row) × (pin_refusal s side row ≢ 0)
    go false b k r =
        let e = pinning_13 s side row b in
        (sym (pinning_13 s side 0 b) ∙ e, λ z. omega (arith, e, z))
    go true b (suc k) r =
        let some : refusal s ≢ 0 = λ z. omega (arith, r, z) in
        let e = pinning_record s side row b some in
        (sym (pinning_record s side 0 b some) ∙ e, λ z. some (e ∙ z))
    go true b zero r =
        let e = pinning_15 s side row b r (far_no_row (size_of s) row (accepted-sized s r).most far) in
        (sym (pinning_15 s side 0 b r (zero_no_row (size_of s))) ∙ e, λ z. omega (arith, e, z))

pin-row_wide : {s s' : List ℕ} {side row k : ℕ} {pinned : Bool} {a : NumberAndRow} → Narrowed 65536 row k → Pins s side k pinned a s' →
    Pins s side row pinned a s'
pin-row_wide {s} {s'} {side} {row} {k} {pinned} {a} w = widened (λ x. Pins s side x pinned a s') w (λ far p.
    let h = far_row s side row far in
    let e = ne_eqb (pin_refusal s side row) 0 h.1 in
    record {
      answers = p.answers ∙ ap (told_of s) h.0;
      afterwards = rw e ((rw (h.0, e) at p.afterwards));
    })

pub pin_wide : {s s' : List ℕ} {side x row y : ℕ} {pinned : Bool} {a : NumberAndRow} → Narrowed 65536 side x → Narrowed 65536 row y →
    Pins s x y pinned a s' → Pins s side row pinned a s'
pin_wide u v p = pin-side_wide u (pin-row_wide v p)

-- ---- hold letters

no_letter : (x : ℕ) → 256 ≤ x → is_hold x ≡ false
unfolding is_hold
no_letter x h =
    rw (
      ne_eqb x 78 (λ e. omega arith),
      ne_eqb x 76 (λ e. omega arith),
      ne_eqb x 82 (λ e. omega arith),
      ne_eqb x 66 (λ e. omega arith),
    ) refl

zero_no_letter : is_hold 0 ≡ false
unfolding is_hold
zero_no_letter = refl

holding_4 : (s : List ℕ) (letter : ℕ) → is_hold letter ≡ false → 4 ≡ set_hold_refusal s letter
unfolding set_hold_refusal
holding_4 s letter h = rw h refl

pub hold_wide : {s s' : List ℕ} {letter k : ℕ} {a : NumberAndRow} → Narrowed 256 letter k → SetsHold s k a s' → SetsHold s letter a s'
hold_wide {s} {s'} {letter} {k} {a} w = widened (λ x. SetsHold s x a s') w (λ h p.
    let z = holding_4 s 0 zero_no_letter in
    let e = holding_4 s letter (no_letter letter h) in
    record { answers = rw (← e) (rw (← z) at p.answers); afterwards = rw (← e) (rw (← z) at p.afterwards) })

-- ---- n, and packing: its letter and n

no_size_wide : (x : ℕ) → 65536 ≤ x → no_size x ≡ true
unfolding no_size
no_size_wide x h = rw (ne_eqb x 0 (λ e. omega arith), lt-ltb 512 x (omega arith)) refl

zero_no_size : no_size 0 ≡ true
unfolding no_size
zero_no_size = refl

pub merge-read_wide : {n k : ℕ} {table : List ℤ} {out out' : List ℕ} {a : NumberAndRow} → Narrowed 65536 n k → MergeReads k table out a out' →
    MergeReads n table out a out'
merge-read_wide {n} {k} {table} {out} {out'} {a} w = widened (λ x. MergeReads x table out a out') w (λ h p.
    let z = reading_5 0 table out zero_no_size in
    let e = reading_5 n table out (no_size_wide n h) in
    record { answers = rw (← e) (rw (← z) at p.answers); afterwards = rw (← e) (rw (← z) at p.afterwards) })

-- parts that are refused alike, with a number that has no row
packs-alike : {P Q : Parts} {out out' : List ℕ} {a : NumberAndRow} {c : ℕ} → c ≢ 0 → Alone c → c ≡ pack_refusal P out → c ≡ pack_refusal Q out →
    Packs P out a out' → Packs Q out a out'
packs-alike {P} {Q} {out} {c = c} some alone z e p = record {
  answers = p.answers ∙ ap (told_in P) (sym z) ∙ sym (told-alone P alone) ∙ told-alone Q alone ∙ ap (told_in Q) e;
  afterwards =
      (rw (← z) at p.afterwards) ∙ sym (lent-refused c (packed P) out some) ∙ rw (← e) (lent-refused c (packed Q) out some);
}

module _ (left right links left_layout right_layout out : List ℕ) where
  abbrev parts_with : ℕ → ℕ → Parts
  parts_with hold n = given hold n left right links left_layout right_layout

  pack_4 : (hold n : ℕ) → is_hold hold ≡ false → 4 ≡ pack_refusal (parts_with hold n) out
  unfolding pack_refusal shape_refusal
  pack_4 hold n h = rw h refl

  pack_5 : (hold n : ℕ) → is_hold hold ≡ true → no_size n ≡ true → 5 ≡ pack_refusal (parts_with hold n) out
  unfolding pack_refusal shape_refusal
  pack_5 hold n h m = rw (h, m) refl

  module _ {out' : List ℕ} {a : NumberAndRow} where
    letter_wide : {hold n k : ℕ} → Narrowed 256 hold k → Packs (parts_with k n) out a out' → Packs (parts_with hold n) out a out'
    letter_wide {hold} {n} w =
        widened (λ x. Packs (parts_with x n) out a out') w
        (λ h. packs-alike (λ e. omega arith) (record { alone = refl }) (pack_4 0 n zero_no_letter) (pack_4 hold n (no_letter hold h)))

    size_wide : {hold n k : ℕ} → Narrowed 65536 n k → Packs (parts_with hold k) out a out' → Packs (parts_with hold n) out a out'
    size_wide {hold} {n} w = widened (λ x. Packs (parts_with hold x) out a out') w (λ h. go h (is_hold hold) refl)
      where
        go : 65536 ≤ n → (b : Bool) → is_hold hold ≡ b → Packs (parts_with hold 0) out a out' → Packs (parts_with hold n) out a out'
        go h true b =
            packs-alike (λ e. omega arith) (record { alone = refl }) (pack_5 hold 0 b zero_no_size) (pack_5 hold n b (no_size_wide n h))
        go h false b = packs-alike (λ e. omega arith) (record { alone = refl }) (pack_4 hold 0 b) (pack_4 hold n b)

    pub pack_wide : {hold letter n size : ℕ} → Narrowed 256 hold letter → Narrowed 65536 n size →
        Packs (parts_with letter size) out a out' → Packs (parts_with hold n) out a out'
    pack_wide u v p = letter_wide u (size_wide v p)
