-- Freeing a side and running, as calls: their refusals test by test, and from what they found to their statements.
use Prim.Native.Nat.{ℕ, ◌≤◌, ◌<◌}
use mathlib.Core.Path.{◌≡◌, refl, sym, ap, ◌∙◌}
use mathlib.Core.Logic.{◌≢◌, ◌⊎◌, inl, inr}
use mathlib.Core.Bool.{Bool, true, false, not}
use mathlib.Core.List.{List}
use native.Mathlib.Omega.{arith}
use borrow.Author.Tests.{eq-eqb, ne_eqb, lt-ltb, le-ltb}
use Rattle.tanglegram.specs.declared.side.Side.{Side}
use Rattle.tanglegram.specs.declared.side.Side.TheVariants.{Left as left, Right as right}
use Rattle.tanglegram.specs.Table.{crossings}
use Rattle.record_fields.specs.declared.refusal.Refusal.{Refusal}
use Rattle.record_fields.specs.Fields.{hold_of, parts}
use Rattle.record_fields.specs.Refusals.{refusal}
use Rattle.record_fields.specs.Meaning.{table_of, layouts_of, relaid}
use Rattle.record_fields.proofs.Acceptance.{else_first, none_both}
use Rattle.record_fields.proofs.Heading.{none_first, not_no}
use Rattle.record_arrays.specs.Sides.{is_side, side_of, holds, RecordOver}
use Rattle.record_fields.specs.Refused.{NumberAndRow, refused, refused_row, number_of, row_of}
use Rattle.record_fields.specs.Told.{told_of, OwnRow}
use Rattle.record_fields.proofs.Told.{told_none, told-alone, alone_when, alone_0, own_when, own_then}
use Rattle.record.specs.Calls.{Refused, Reads}
use Rattle.record.proofs.Outcomes.{read-told, read-refuses}
use Rattle.calls_turns.specs.Refusals.{free_refusal, no_allowance, run_refusal}
use Rattle.record_arrays.specs.Shown.{shown_count}
use Rattle.calls_turns.specs.Calls.{freed_layouts, Frees, Runs}
use Rattle.record_turns.specs.Worked.{RecordFreed, RecordRan}
use Rattle.calls_turns.proofs.Freed.{freed-table, freed-layouts}

-- ---- the refusals

module _ (s : List ℕ) (side : ℕ) where
  pub freeing_13 : is_side side ≡ false → 13 ≡ free_refusal s side
  unfolding free_refusal
  freeing_13 h = rw h refl

  module _ (good : is_side side ≡ true) where
    pub freeing_record : refusal s ≢ 0 → refusal s ≡ free_refusal s side
    unfolding free_refusal
    freeing_record h = rw good (sym (else_first (refusal s) _ h))

    module _ (a : refusal s ≡ 0) where
      pub freeing_11 : holds (hold_of s) (side_of side) ≡ true → 11 ≡ free_refusal s side
      unfolding free_refusal
      freeing_11 h = rw (good, a, h) refl

      pub freeing_0 : holds (hold_of s) (side_of side) ≡ false → 0 ≡ free_refusal s side
      unfolding free_refusal
      freeing_0 h = rw (good, a, h) refl

  -- where it is not refused, the side is one, the record is accepted, and the side is not held
  pub freeing_good : free_refusal s side ≡ 0 → (is_side side ≡ true) × (refusal s ≡ 0) × (holds (hold_of s) (side_of side) ≡ false)
  unfolding free_refusal
  freeing_good e =
      let t = none_first _ 13 _ (omega arith) e in
      let u = none_both (refusal s) _ t.1 in
      let v = none_first (holds (hold_of s) (side_of side)) 11 0 (omega arith) u.1 in
      (not_no _ t.0, u.0, v.0)

  -- a row that is told is the record's
  pub free_own : {k : ℕ} → k ≡ free_refusal s side → OwnRow s k
  unfolding free_refusal
  free_own e = rw e (own_when s (not (is_side side)) 13 refl (own_then s (alone_when (holds (hold_of s) (side_of side)) 11 refl alone_0)))

  refused-free : {k : ℕ} {answer : NumberAndRow} → k ≡ free_refusal s side → k ≢ 0 → answer ≡ told_of s k →
      Frees s side (record { refusal = answer; before = 0; after = 0 }) s
  refused-free {k} e h t = record { answers = rw (t, ← e, ne_eqb k 0 h) refl; afterwards = rw (← e, ne_eqb k 0 h) refl }

  pub free-no-side : is_side side ≡ false → Frees s side (record { refusal = refused 13; before = 0; after = 0 }) s
  free-no-side h = refused-free (freeing_13 h) (λ e. omega (arith, e)) (told-alone (parts s) (record { alone = refl }))

  module _ (good : is_side side ≡ true) where
    pub free-record : (r : Refusal) → Reads s (Refused (refused_row (number_of r) (row_of r))) →
        Frees s side (record { refusal = refused_row (number_of r) (row_of r); before = 0; after = 0 }) s
    free-record r found = refused-free (freeing_record good (read-refuses s r found)) (read-refuses s r found) (read-told s r found)

    module _ (a : refusal s ≡ 0) {h : ℕ} {x : Side} (e : h ≡ hold_of s) (f : side_of side ≡ x) where
      pub free-held : holds h x ≡ true → Frees s side (record { refusal = refused 11; before = 0; after = 0 }) s
      free-held w =
          refused-free (freeing_11 good a (rw (f, ← e) w)) (λ e. omega (arith, e)) (told-alone (parts s) (record { alone = refl }))

      pub free-done : {b c : ℕ} {s' : List ℕ} → holds h x ≡ false → RecordFreed s x b c s' →
          Frees s side (record { refusal = refused 0; before = b; after = c }) s'
      free-done w done = let z : free_refusal s side ≡ 0 = sym (freeing_0 good a (rw (f, ← e) w)) in record {
        answers = rw (told_none (parts s) z, z, done.counted, done.recounted, f) refl;
        afterwards = done.afterwards ∙ rw (z, f) refl;
      }

  -- the count of a record whose side was freed
  pub freed-count : {n : ℕ} → RecordOver s n → shown_count (relaid s (freed_layouts s side)) ≡ crossings (table_of s) (freed_layouts s side)
  freed-count {n} g =
      ap (λ T. crossings T (layouts_of (relaid s (freed_layouts s side)))) (freed-table s n g (side_of side))
      ∙ ap (crossings (table_of s)) (freed-layouts s n g (side_of side))

-- ---- a run's refusals

module _ (s : List ℕ) (allowance : ℕ) where
  pub running_12 : no_allowance allowance ≡ true → 12 ≡ run_refusal s allowance
  unfolding run_refusal
  running_12 h = rw h refl

  module _ (good : no_allowance allowance ≡ false) where
    pub running_record : refusal s ≢ 0 → refusal s ≡ run_refusal s allowance
    unfolding run_refusal
    running_record h = rw good (sym (else_first (refusal s) _ h))

    module _ (a : refusal s ≡ 0) where
      pub running_11_left : holds (hold_of s) left ≡ true → 11 ≡ run_refusal s allowance
      unfolding run_refusal
      running_11_left h = rw (good, a, h) refl

      module _ (free-left : holds (hold_of s) left ≡ false) where
        pub running_11_right : holds (hold_of s) right ≡ true → 11 ≡ run_refusal s allowance
        unfolding run_refusal
        running_11_right h = rw (good, a, free-left, h) refl

        pub running_0 : holds (hold_of s) right ≡ false → 0 ≡ run_refusal s allowance
        unfolding run_refusal
        running_0 h = rw (good, a, free-left, h) refl

  -- where it is not refused, the allowance is one, the record is accepted, and neither side is held
  pub running_good : run_refusal s allowance ≡ 0 →
      (no_allowance allowance ≡ false) × (refusal s ≡ 0) × (holds (hold_of s) left ≡ false) × (holds (hold_of s) right ≡ false)
  unfolding run_refusal
  running_good e =
      let t = none_first _ 12 _ (omega arith) e in
      let u = none_both (refusal s) _ t.1 in
      let v = none_first (holds (hold_of s) left) 11 _ (omega arith) u.1 in
      let w = none_first (holds (hold_of s) right) 11 0 (omega arith) v.1 in
      (t.0, u.0, v.0, w.0)

  -- a row that is told is the record's
  pub run-own : {k : ℕ} → k ≡ run_refusal s allowance → OwnRow s k
  unfolding run_refusal
  run-own e =
      rw e (own_when s (no_allowance allowance) 12 refl (own_then s
      (alone_when (holds (hold_of s) left) 11 refl (alone_when (holds (hold_of s) right) 11 refl alone_0))))

  refused-run : {k : ℕ} {answer : NumberAndRow} → k ≡ run_refusal s allowance → k ≢ 0 → answer ≡ told_of s k →
      Runs s allowance (record { refusal = answer; first = 0; last = 0; turns = 0; settled = 0 }) s
  refused-run {k} e h t = record { answers = rw (t, ← e, ne_eqb k 0 h) refl; afterwards = rw (← e, ne_eqb k 0 h) refl }

  pub run-no-allowance : no_allowance allowance ≡ true →
      Runs s allowance (record { refusal = refused 12; first = 0; last = 0; turns = 0; settled = 0 }) s
  run-no-allowance h = refused-run (running_12 h) (λ e. omega (arith, e)) (told-alone (parts s) (record { alone = refl }))

  module _ (good : no_allowance allowance ≡ false) where
    pub run-record : (r : Refusal) → Reads s (Refused (refused_row (number_of r) (row_of r))) →
        Runs s allowance (record { refusal = refused_row (number_of r) (row_of r); first = 0; last = 0; turns = 0; settled = 0 }) s
    run-record r found = refused-run (running_record good (read-refuses s r found)) (read-refuses s r found) (read-told s r found)

    module _ (a : refusal s ≡ 0) where
      pub run-held : {h : ℕ} → h ≡ hold_of s → (holds h left ≡ true) ⊎ (holds h right ≡ true) →
          Runs s allowance (record { refusal = refused 11; first = 0; last = 0; turns = 0; settled = 0 }) s
      run-held e w = refused-run (held (rw e at w)) (λ z. omega (arith, z)) (told-alone (parts s) (record { alone = refl }))
        where
          held : (holds (hold_of s) left ≡ true) ⊎ (holds (hold_of s) right ≡ true) → 11 ≡ run_refusal s allowance
          held (inl l) = running_11_left good a l
          held (inr r) = go (holds (hold_of s) left) refl
            where
              go : (b : Bool) → holds (hold_of s) left ≡ b → 11 ≡ run_refusal s allowance
              go true l = running_11_left good a l
              go false l = running_11_right good a l r

      pub run-done : {h f l t w : ℕ} {s' : List ℕ} → h ≡ hold_of s → holds h left ≡ false → holds h right ≡ false →
          RecordRan s allowance f l t w s' →
          Runs s allowance (record { refusal = refused 0; first = f; last = l; turns = t; settled = w }) s'
      run-done e p q done = let z : run_refusal s allowance ≡ 0 = sym (running_0 good a (rw e at p) (rw e at q)) in record {
        answers = rw (told_none (parts s) z, z, done.first_count, done.last_count, done.taken, done.ended) refl;
        afterwards = done.afterwards ∙ rw z refl;
      }

-- an allowance that is none, and one that is
pub none_allowed : {k : ℕ} → (k ≡ 0) ⊎ ((k ≢ 0) × (130818 < k)) → no_allowance k ≡ true
unfolding no_allowance
none_allowed {k} (inl e) = rw (eq-eqb k 0 e) refl
none_allowed {k} (inr (h, p)) = rw (ne_eqb k 0 h, lt-ltb 130818 k p) refl

pub allowance-good : (k : ℕ) → k ≢ 0 → k ≤ 130818 → no_allowance k ≡ false
unfolding no_allowance
allowance-good k h p = rw (ne_eqb k 0 h, le-ltb 130818 k p) refl
