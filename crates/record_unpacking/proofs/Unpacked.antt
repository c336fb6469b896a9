-- What buffers with room have; unpacking's refusal, test by test; and from what the call found to its statement.
use Prim.Native.Nat.{ℕ, ◌-◌, ◌*◌, ◌≤◌}
use mathlib.Core.Path.{◌≡◌, refl, sym, ap, ◌∙◌}
use mathlib.Core.Logic.{◌≢◌}
use mathlib.Core.List.{List}
use native.Mathlib.Omega.{arith}
use Rattle.std.specs.Prelude.{Err}
use borrow.Author.Tests.{ne_eqb, le-ltb, ltb-false}
use lib.Dec.{ltb}
use lib.ListN.{length}
use lib.Seq.{sets}
use Rattle.record_fields.specs.Fields.{hold_of, size_of, right_at, links_at, left_layout_at, right_layout_at, Parts, parts, parts_of}
use Rattle.record_fields.specs.declared.refusal.Refusal.{Refusal}
use Rattle.record_fields.specs.Refusals.{refusal, RecordOver}
use Rattle.record_fields.specs.Refused.{NumberAndRow, refused, refused_row, number_of, row_of, lent}
use Rattle.record_fields.specs.Told.{told_of, OwnRow}
use Rattle.record_fields.proofs.Heading.{none_first}
use Rattle.record_fields.proofs.Acceptance.{else_first, else_second, none_both}
use Rattle.record_fields.proofs.Refused.{lent-refused, lent-accepted, refuses}
use Rattle.record_fields.proofs.Told.{Alone, told-alone, told_none, alone_when, alone_0, each_when, own_then}
use Rattle.record_fields.proofs.Stores.{sets_front, length-numbers, length-bytes}
use Rattle.record.specs.Calls.{Refused, Reads}
use Rattle.record.proofs.Outcomes.{read-told, read-refuses}
use Rattle.record_unpacking.specs.Answers.{Unpacked, unpacked}
use Rattle.record_unpacking.specs.Refusals.{room_refusal, unpack_refusal}
use Rattle.record_unpacking.specs.Calls.{unpacked_none, Unpacks}

-- buffers that have the room for the parts of a record over n leaves
pub record Room (n left right links left_layout right_layout : ℕ) : Type 0 where
  pub for_left : 2 * (n - 1) ≤ left
  pub for_right : 2 * (n - 1) ≤ right
  pub for_links : n ≤ links
  pub for_left_layout : n - 1 ≤ left_layout
  pub for_right_layout : n - 1 ≤ right_layout

pub room-good : (n l r p ll rl : ℕ) → room_refusal n l r p ll rl ≡ 0 → Room n l r p ll rl
unfolding room_refusal
room-good n l r p ll rl e =
    let t₁ = none_first (ltb l (2 * (n - 1))) 14 _ (omega arith) e in
    let t₂ = none_first (ltb r (2 * (n - 1))) 14 _ (omega arith) t₁.1 in
    let t₃ = none_first (ltb p n) 14 _ (omega arith) t₂.1 in
    let t₄ = none_first (ltb ll (n - 1)) 14 _ (omega arith) t₃.1 in
    let t₅ = none_first (ltb rl (n - 1)) 14 0 (omega arith) t₄.1 in
    record {
      for_left = ltb-false _ _ t₁.0;
      for_right = ltb-false _ _ t₂.0;
      for_links = ltb-false _ _ t₃.0;
      for_left_layout = ltb-false _ _ t₄.0;
      for_right_layout = ltb-false _ _ t₅.0;
    }

pub room_0 : (n l r p ll rl : ℕ) → Room n l r p ll rl → room_refusal n l r p ll rl ≡ 0
unfolding room_refusal
room_0 n l r p ll rl g =
    rw (
      le-ltb _ _ g.for_left,
      le-ltb _ _ g.for_right,
      le-ltb _ _ g.for_links,
      le-ltb _ _ g.for_left_layout,
      le-ltb _ _ g.for_right_layout,
    ) refl

-- where some buffer is too short
pub room_14 : (n l r p ll rl : ℕ) → (Room n l r p ll rl → ⊥) → 14 ≡ room_refusal n l r p ll rl
unfolding room_refusal
room_14 n l r p ll rl short =
    let Q : ℕ → Type 0 = λ k. k ≢ 0 → 14 ≡ k in
    let z : Q 14 = λ h. refl in
    each_when Q (ltb l (2 * (n - 1))) z (each_when Q (ltb r (2 * (n - 1))) z (each_when Q (ltb p n) z (each_when Q (ltb ll (n - 1)) z
    (each_when Q (ltb rl (n - 1)) z (λ h. absurd (h refl)))))) (λ e. short (room-good n l r p ll rl e))

-- no row is told with it
room-alone : (n l r p ll rl : ℕ) → Alone (room_refusal n l r p ll rl)
unfolding room_refusal
room-alone n l r p ll rl =
    alone_when (ltb l (2 * (n - 1))) 14 refl (alone_when (ltb r (2 * (n - 1))) 14 refl (alone_when (ltb p n) 14 refl
    (alone_when (ltb ll (n - 1)) 14 refl (alone_when (ltb rl (n - 1)) 14 refl alone_0))))

-- ---- the call

module _ (s left right links left_layout right_layout : List ℕ) where
  abbrev asked : ℕ
  asked = room_refusal (size_of s) (length left) (length right) (length links) (length left_layout) (length right_layout)

  pub unpack-refused : {k : ℕ} {answer : Unpacked} → k ≡ unpack_refusal s left right links left_layout right_layout → k ≢ 0 →
      answer ≡ unpacked_none (told_of s k) →
      Unpacks s left right links left_layout right_layout answer left right links left_layout right_layout
  unpack-refused {k} e h a = record {
    answers = a ∙ rw (← e, ne_eqb k 0 h) refl;
    afterwards_left = rw (← e) (lent-refused k (parts s).left_rows left h);
    afterwards_right = rw (← e) (lent-refused k (parts s).right_rows right h);
    afterwards_links = rw (← e) (lent-refused k (parts s).links links h);
    afterwards-left-layout = rw (← e) (lent-refused k (parts s).left_layout left_layout h);
    afterwards-right-layout = rw (← e) (lent-refused k (parts s).right_layout right_layout h);
  }

  -- a row that is told is the record's
  pub unpack-own : {k : ℕ} → k ≡ unpack_refusal s left right links left_layout right_layout → OwnRow s k
  unfolding unpack_refusal
  unpack-own e =
      rw e (own_then s
      (room-alone (size_of s) (length left) (length right) (length links) (length left_layout) (length right_layout)))

  -- by the record's refusal, or else by the room
  pub unpack-first : refusal s ≢ 0 → refusal s ≡ unpack_refusal s left right links left_layout right_layout
  unfolding unpack_refusal
  unpack-first h = sym (else_first (refusal s) asked h)

  pub unpack_second : refusal s ≡ 0 →
      room_refusal (size_of s) (length left) (length right) (length links) (length left_layout) (length right_layout) ≡
      unpack_refusal s left right links left_layout right_layout
  unfolding unpack_refusal
  unpack_second e = sym (else_second (refusal s) asked e)

  -- by the record's refusal
  pub unpack-read : (r : Refusal) → Reads s (Refused (refused_row (number_of r) (row_of r))) →
      Unpacks s left right links left_layout right_layout (unpacked (Err r)) left right links left_layout right_layout
  unpack-read r found =
      let h = read-refuses s r found in
      unpack-refused (unpack-first h) h (ap unpacked_none (read-told s r found))

  -- by the room
  pub unpack-no-room : (r : Refusal) {n : ℕ} → refusal s ≡ 0 → size_of s ≡ n →
      refused_row (number_of r) (row_of r) ≡
      refused (room_refusal n (length left) (length right) (length links) (length left_layout) (length right_layout)) →
      Unpacks s left right links left_layout right_layout (unpacked (Err r)) left right links left_layout right_layout
  unpack-no-room r {n} a f e =
      let room = room_refusal n (length left) (length right) (length links) (length left_layout) (length right_layout) in
      let found : room ≡ unpack_refusal s left right links left_layout right_layout =
      ap (λ n. room_refusal n (length left) (length right) (length links) (length left_layout) (length right_layout)) (sym f)
      ∙ unpack_second a in
      let alone = room-alone n (length left) (length right) (length links) (length left_layout) (length right_layout) in
      unpack-refused found (refuses r e) (ap unpacked_none (e ∙ told-alone (parts s) alone))

  -- what unpacking accepts is an accepted record
  pub unpack_record : unpack_refusal s left right links left_layout right_layout ≡ 0 → refusal s ≡ 0
  unfolding unpack_refusal
  unpack_record e = (none_both (refusal s) asked e).0

  module _ {n : ℕ} (over : RecordOver s n)
      (room : refused 0 ≡ refused (room_refusal n (length left) (length right) (length links) (length left_layout) (length right_layout)))
    where
      pub has-room : Room n (length left) (length right) (length links) (length left_layout) (length right_layout)
      has-room = room-good n _ _ _ _ _ (sym (ap (λ (a : NumberAndRow). a.number) room))

      pub unpack-accepted : {h : ℕ} {left' right' links' left-layout' right-layout' : List ℕ} → h ≡ hold_of s →
          left' ≡ sets left 0 (parts_of s n).left_rows → right' ≡ sets right 0 (parts_of s n).right_rows →
          links' ≡ sets links 0 (parts_of s n).links → left-layout' ≡ sets left_layout 0 (parts_of s n).left_layout →
          right-layout' ≡ sets right_layout 0 (parts_of s n).right_layout →
          Unpacks s left right links left_layout right_layout (record { refusal = refused 0; hold = h; n = n })
          left' right' links' left-layout' right-layout'
      unfolding parts_of
      unpack-accepted d w₁ w₂ w₃ w₄ w₅ =
          let f : n ≡ size_of s = sym over.sized.says in
          let k = unpack_refusal s left right links left_layout right_layout in
          let z : k ≡ 0 =
          sym (unpack_second over.accepted)
          ∙ ap (λ n. room_refusal n (length left) (length right) (length links) (length left_layout) (length right_layout)) (sym f)
          ∙ sym (ap (λ (a : NumberAndRow). a.number) room) in
          let g = over.sized in
          let c = has-room in
          let put : (part : Parts → List ℕ) (found after : List ℕ) → length (part (parts_of s n)) ≤ length found →
          after ≡ sets found 0 (part (parts_of s n)) → after ≡ lent k (part (parts s)) found =
          λ part found after h e.
          e
          ∙ sets_front found (part (parts_of s n)) h
          ∙ lent-accepted k (part (parts_of s n)) found z
          ∙ ap (λ m. lent k (part (parts_of s m)) found) f in
          record {
            answers = rw (told_none (parts s) z, d, f, z) refl;
            afterwards_left = put (λ P. P.left_rows) left _ (omega (arith, length-numbers s 8 (2 * (n - 1)))) w₁;
            afterwards_right = put (λ P. P.right_rows) right _ (omega (arith, length-numbers s (right_at n) (2 * (n - 1)))) w₂;
            afterwards_links = put (λ P. P.links) links _ (omega (arith, length-numbers s (links_at n) n)) w₃;
            afterwards-left-layout =
                put (λ P. P.left_layout) left_layout _ (omega (arith, length-bytes s (left_layout_at n) (n - 1) (omega arith))) w₄;
            afterwards-right-layout =
                put (λ P. P.right_layout) right_layout _ (omega (arith, length-bytes s (right_layout_at n) (n - 1) (omega arith))) w₅;
          }
