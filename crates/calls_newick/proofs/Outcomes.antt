-- From what a call found to its statement.
use Prim.Native.Nat.{ℕ, ◌-◌, ◌*◌, ◌≤◌, ◌<◌}
use mathlib.Core.Path.{◌≡◌, refl, ap, ◌∙◌}
use mathlib.Core.Logic.{◌≢◌}
use mathlib.Core.Bool.{Bool, true, false, cond, not}
use mathlib.Core.List.{List}
use native.Mathlib.Omega.{arith}
use borrow.Author.Tests.{lt-ltb, le-ltb, ltb-false, ne_eqb}
use lib.Dec.{ltb}
use lib.ListN.{length}
use lib.Seq.{sets}
use Rattle.newick.specs.Sentence.{leaf_count}
use Rattle.newick.specs.Rows.{rows_of}
use Rattle.record_fields.specs.declared.refusal.Refusal.{Refusal}
use Rattle.record_fields.specs.Fields.{parts}
use Rattle.record_fields.specs.Refusals.{refusal}
use Rattle.record_fields.specs.Refused.{NumberAndRow, refused, refused_row, number_of, row_of, or_zero}
use Rattle.record_fields.specs.Told.{told_of, OwnRow}
use Rattle.record_fields.proofs.Acceptance.{else_first, none_both}
use Rattle.record_fields.proofs.Heading.{none_first, not_no}
use Rattle.record_fields.proofs.Refused.{lent-refused, lent-accepted}
use Rattle.record_fields.proofs.Stores.{sets_front}
use Rattle.record_fields.proofs.Told.{told-alone, alone_when, alone_0, own_when, own_then}
use Rattle.record.specs.Calls.{Reads, Refused}
use Rattle.record.proofs.Outcomes.{read-told, read-refuses}
use Rattle.record_arrays.specs.Sides.{is_side}
use Rattle.calls_newick.specs.Answers.{NewickWritten}
use Rattle.calls_newick.specs.Refusals.{keeps_grammar, said, is_numbered, newick_read_refusal, written_text, newick_write_refusal}
use Rattle.calls_newick.specs.Calls.{NewickReads, NewickWrites, room_refusal, WritesSide}

-- ---- reading

module _ (text out : List ℕ) where
  pub reading_18 : keeps_grammar text ≡ false → newick_read_refusal text out ≡ 18
  unfolding newick_read_refusal
  reading_18 e = rw e refl

  module _ (kept : keeps_grammar text ≡ true) where
    pub reading_19 : is_numbered (said text) ≡ false → newick_read_refusal text out ≡ 19
    unfolding newick_read_refusal
    reading_19 e = rw (kept, e) refl

    module _ (numbered : is_numbered (said text) ≡ true) where
      pub reading_14 : length out < length (rows_of (said text)) → newick_read_refusal text out ≡ 14
      unfolding newick_read_refusal
      reading_14 h = rw (kept, numbered, lt-ltb (length out) (length (rows_of (said text))) h) refl

      pub reading_0 : length (rows_of (said text)) ≤ length out → newick_read_refusal text out ≡ 0
      unfolding newick_read_refusal
      reading_0 h = rw (kept, numbered, le-ltb (length out) (length (rows_of (said text))) h) refl

  read_refused : {k : ℕ} → newick_read_refusal text out ≡ k → k ≢ 0 → NewickReads text out (record { refusal = refused k; n = 0 }) out
  read_refused {k} e h = record {
    answers = rw (e, ne_eqb k 0 h) refl;
    afterwards = rw e (lent-refused k (rows_of (said text)) out h);
  }

  pub read-no_grammar : keeps_grammar text ≡ false → NewickReads text out (record { refusal = refused 18; n = 0 }) out
  read-no_grammar e = read_refused (reading_18 e) (λ z. omega (arith, z))

  module _ (kept : keeps_grammar text ≡ true) where
    pub read-no_leaves : is_numbered (said text) ≡ false → NewickReads text out (record { refusal = refused 19; n = 0 }) out
    read-no_leaves e = read_refused (reading_19 kept e) (λ z. omega (arith, z))

    module _ (numbered : is_numbered (said text) ≡ true) (n : ℕ) (long : length (rows_of (said text)) ≡ 2 * (n - 1)) where
      pub read-no_room : length out < 2 * (n - 1) → NewickReads text out (record { refusal = refused 14; n = 0 }) out
      read-no_room h = read_refused (reading_14 kept numbered (rw long h)) (λ z. omega (arith, z))

      pub read-accepted : {after rows : List ℕ} → n ≡ leaf_count (said text) → rows ≡ rows_of (said text) → 2 * (n - 1) ≤ length out →
          after ≡ sets out 0 rows → NewickReads text out (record { refusal = refused 0; n = n }) after
      read-accepted e r h w =
          let fits : length (rows_of (said text)) ≤ length out = rw long h in
          let a = reading_0 kept numbered fits in
          record {
            answers = rw (a, e) refl;
            afterwards =
                w ∙ ap (sets out 0) r ∙ sets_front out (rows_of (said text)) fits
                ∙ lent-accepted (newick_read_refusal text out) (rows_of (said text)) out a;
          }

-- ---- writing

module _ (s : List ℕ) (side : ℕ) (out : List ℕ) where
  pub room_14 : length out < length (written_text s side) → room_refusal s side out ≡ 14
  room_14 h = rw (lt-ltb (length out) (length (written_text s side)) h) refl

  pub room_0 : length (written_text s side) ≤ length out → room_refusal s side out ≡ 0
  room_0 h = rw (le-ltb (length out) (length (written_text s side)) h) refl

  pub side_no_room : length out < length (written_text s side) → WritesSide s side out (record { refusal = refused 14; length = 0 }) out
  side_no_room h =
      let e = room_14 h in
      record {
        answers = rw e refl;
        afterwards = rw e refl;
      }

  pub side-written : {m : ℕ} {after : List ℕ} → m ≡ length (written_text s side) → length (written_text s side) ≤ length out →
      after ≡ sets out 0 (written_text s side) → WritesSide s side out (record { refusal = refused 0; length = m }) after
  side-written e h w =
      let a = room_0 h in
      record {
        answers = rw (a, e) refl;
        afterwards = w ∙ sets_front out (written_text s side) h ∙ lent-accepted (room_refusal s side out) (written_text s side) out a;
      }

  -- the refusals before
  pub writing_13 : is_side side ≡ false → newick_write_refusal s side out ≡ 13
  unfolding newick_write_refusal
  writing_13 h = rw h refl

  module _ (good : is_side side ≡ true) where
    pub writing_record : refusal s ≢ 0 → newick_write_refusal s side out ≡ refusal s
    unfolding newick_write_refusal
    writing_record h = rw good (else_first (refusal s) (room_refusal s side out) h)

    writing-room : refusal s ≡ 0 → newick_write_refusal s side out ≡ room_refusal s side out
    unfolding newick_write_refusal
    writing-room a = rw (good, a) refl

    room-alone : (x : Bool) → refused (cond x 14 0) ≡ told_of s (cond x 14 0)
    room-alone x = told-alone (parts s) (alone_when x 14 refl alone_0)

    pub write-side : {answer : NewickWritten} {after : List ℕ} → refusal s ≡ 0 → WritesSide s side out answer after →
        NewickWrites s side out answer after
    write-side a w =
        let e = writing-room a in
        record {
          answers =
              w.answers
              ∙ rw e (ap (λ r. record { refusal = r; length = or_zero (room_refusal s side out) (length (written_text s side)) })
              (room-alone (ltb (length out) (length (written_text s side)))));
          afterwards = rw e w.afterwards;
        }

  -- where it is not refused
  pub writing-good : newick_write_refusal s side out ≡ 0 →
      (is_side side ≡ true) × (refusal s ≡ 0) × (length (written_text s side) ≤ length out)
  unfolding newick_write_refusal
  writing-good e =
      let t = none_first _ 13 _ (omega arith) e in
      let u = none_both (refusal s) _ t.1 in
      let v = none_first (ltb (length out) (length (written_text s side))) 14 0 (omega arith) u.1 in
      (not_no _ t.0, u.0, ltb-false _ _ v.0)

  -- a row that is told is the record's
  pub write-own : {k : ℕ} → k ≡ newick_write_refusal s side out → OwnRow s k
  unfolding newick_write_refusal
  write-own e =
      rw e (own_when s (not (is_side side)) 13 refl
      (own_then s (alone_when (ltb (length out) (length (written_text s side))) 14 refl alone_0)))

  write-refused : {k : ℕ} {told : NumberAndRow} → told ≡ told_of s k → newick_write_refusal s side out ≡ k → k ≢ 0 →
      NewickWrites s side out (record { refusal = told; length = 0 }) out
  write-refused {k} t e h = record {
    answers = rw (t, e, ne_eqb k 0 h) refl;
    afterwards = rw e (lent-refused k (written_text s side) out h);
  }

  pub write-no_side : is_side side ≡ false → NewickWrites s side out (record { refusal = refused 13; length = 0 }) out
  write-no_side h = write-refused (told-alone (parts s) (record { alone = refl })) (writing_13 h) (λ z. omega (arith, z))

  pub write-no_record : is_side side ≡ true → (r : Refusal) → Reads s (Refused (refused_row (number_of r) (row_of r))) →
      NewickWrites s side out (record { refusal = refused_row (number_of r) (row_of r); length = 0 }) out
  write-no_record good r found =
      let some = read-refuses s r found in write-refused (read-told s r found) (writing_record good some) some
