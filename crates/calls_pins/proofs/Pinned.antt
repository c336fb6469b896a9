-- Pinning a row and unpinning it: the refusals test by test, and from what the call found to its statement.
use Prim.Native.Nat.{ℕ, ◌≤◌, ◌<◌}
use mathlib.Core.Path.{◌≡◌, refl, sym, ap, ◌∙◌}
use mathlib.Core.Logic.{◌≢◌}
use mathlib.Core.Bool.{Bool, true, false, not}
use mathlib.Core.List.{List}
use native.Mathlib.Omega.{arith}
use borrow.Author.Tests.{ne_eqb, not-true, not-false}
use Rattle.record_fields.specs.declared.refusal.Refusal.{Refusal}
use Rattle.record_fields.specs.Fields.{size_of, parts}
use Rattle.record_fields.specs.Refusals.{refusal, RecordOver}
use Rattle.record_fields.specs.Refused.{NumberAndRow, refused, refused_row, number_of, row_of}
use Rattle.record_fields.specs.Told.{told_of, OwnRow}
use Rattle.record_fields.specs.Meaning.{relaid}
use Rattle.record_fields.proofs.Acceptance.{else_first, none_both}
use Rattle.record_fields.proofs.Heading.{none_first, not_no}
use Rattle.record_fields.proofs.Told.{told_none, told-alone, alone_when, alone_0, own_when, own_then}
use Rattle.record.specs.Calls.{Refused, Reads}
use Rattle.record.proofs.Outcomes.{read-told, read-refuses}
use Rattle.record_arrays.specs.Sides.{is_side}
use Rattle.record_arrays.specs.Rows.{no_row}
use Rattle.record_arrays.proofs.OneRow.{row-there}
use Rattle.calls_pins.specs.Refusals.{pin_refusal}
use Rattle.calls_pins.specs.Calls.{pinned_layouts, Pins}

-- a row that is there, by its test
pub row-found : (n row : ℕ) {there : Bool} → there ≡ not (no_row n row) → there ≡ true → (1 ≤ row) × (row < n)
row-found n row e h = row-there n row (not-true _ (sym e ∙ h))

-- ---- the refusals

module _ (s : List ℕ) (side row : ℕ) where
  pub pinning_13 : is_side side ≡ false → 13 ≡ pin_refusal s side row
  unfolding pin_refusal
  pinning_13 h = rw h refl

  module _ (good : is_side side ≡ true) where
    pub pinning_record : refusal s ≢ 0 → refusal s ≡ pin_refusal s side row
    unfolding pin_refusal
    pinning_record h = rw good (sym (else_first (refusal s) _ h))

    module _ (a : refusal s ≡ 0) where
      pub pinning_15 : no_row (size_of s) row ≡ true → 15 ≡ pin_refusal s side row
      unfolding pin_refusal
      pinning_15 h = rw (good, a, h) refl

      pub pinning_0 : no_row (size_of s) row ≡ false → 0 ≡ pin_refusal s side row
      unfolding pin_refusal
      pinning_0 h = rw (good, a, h) refl

  -- where it is not refused, the side is one, the record is accepted, and has the row
  pub pinning_good : pin_refusal s side row ≡ 0 →
      (is_side side ≡ true) × (refusal s ≡ 0) × ((1 ≤ row) × (row < size_of s))
  unfolding pin_refusal
  pinning_good e =
      let t = none_first _ 13 _ (omega arith) e in
      let u = none_both (refusal s) _ t.1 in
      let v = none_first (no_row (size_of s) row) 15 0 (omega arith) u.1 in
      (not_no _ t.0, u.0, row-there (size_of s) row v.0)

  -- a row that is told is the record's
  pub pin-own : {k : ℕ} → k ≡ pin_refusal s side row → OwnRow s k
  unfolding pin_refusal
  pin-own e = rw e (own_when s (not (is_side side)) 13 refl (own_then s (alone_when (no_row (size_of s) row) 15 refl alone_0)))

  -- ---- from what the call found to its statement

  module _ (pinned : Bool) where
    pin-refused : {k : ℕ} {answer : NumberAndRow} → k ≡ pin_refusal s side row → k ≢ 0 → answer ≡ told_of s k →
        Pins s side row pinned answer s
    pin-refused {k} e h r = record { answers = r ∙ ap (told_of s) e; afterwards = rw (← e, ne_eqb k 0 h) refl }

    pub pin-no_side : is_side side ≡ false → Pins s side row pinned (refused 13) s
    pin-no_side h = pin-refused (pinning_13 h) (λ e. omega (arith, e)) (told-alone (parts s) (record { alone = refl }))

    module _ (good : is_side side ≡ true) where
      pub pin-no_record : (r : Refusal) → Reads s (Refused (refused_row (number_of r) (row_of r))) →
          Pins s side row pinned (refused_row (number_of r) (row_of r)) s
      pin-no_record r found = pin-refused (pinning_record good (read-refuses s r found)) (read-refuses s r found) (read-told s r found)

      -- of an accepted record, by the test of the row
      module _ {n : ℕ} (g : RecordOver s n) {there : Bool} (e : there ≡ not (no_row n row)) where
        row-as : no_row (size_of s) row ≡ no_row n row
        row-as = ap (λ k. no_row k row) g.sized.says

        pub pin-no_row : there ≡ false → Pins s side row pinned (refused 15) s
        pin-no_row h =
            pin-refused (pinning_15 good g.accepted (row-as ∙ not-false _ (sym e ∙ h))) (λ z. omega (arith, z))
            (told-alone (parts s) (record { alone = refl }))

        pub pin-put : {s' : List ℕ} → there ≡ true → s' ≡ relaid s (pinned_layouts s side row pinned) →
            Pins s side row pinned (refused 0) s'
        pin-put h made =
            let z : pin_refusal s side row ≡ 0 = sym (pinning_0 good g.accepted (row-as ∙ not-true _ (sym e ∙ h))) in
            record { answers = told_none (parts s) z; afterwards = rw z made }
