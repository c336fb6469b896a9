-- Packing's refusal, test by test; what parts with the right lengths make; and from what the call found to its statement.
use Prim.Native.Nat.{ℕ, ◌+◌, ◌-◌, ◌*◌, ◌≤◌, ◌<◌}
use mathlib.Core.Path.{◌≡◌, refl, sym, ap, ◌∙◌, subst}
use mathlib.Core.Logic.{◌≢◌}
use mathlib.Core.Bool.{Bool, true, false, not}
use mathlib.Core.List.{List, [], ◌∷◌, ◌++◌}
use native.Mathlib.Omega.{arith}
use borrow.Author.Tests.{lt-ltb, le-ltb, eq-eqb, eqb-true, ltb-false}
use lib.Dec.{eqb, ltb}
use lib.ListN.{length, set, length-append}
use lib.Seq.{sets}
use Rattle.record_fields.specs.Letters.{letter_t, letter_g, letter_p}
use Rattle.record_fields.specs.Fields.{version_at, hold_at, size_at}
use Rattle.record_fields.specs.Fields.{split, right_at, links_at, left_layout_at, right_layout_at, length_of, Parts, given, opening, packed}
use Rattle.record_fields.specs.Refusals.{◌when◌else◌, is_hold, no_size, contents_refusal}
use Rattle.record_fields.specs.Told.{told_in, ToldContents, tells_row}
use Rattle.record_fields.specs.Refused.{NumberAndRow, refused, refused_row}
use Rattle.record_fields.proofs.Told.{Alone, differs, told-alone, told_none, alone_when, alone_0, each_else}
use Rattle.record_fields.proofs.Heading.{sized, unsized, none_first, not_no}
use Rattle.work_trees.proofs.Stores.{sets-append}
use Rattle.record_fields.proofs.Stores.{sets_front, length-split}
use Rattle.record_fields.proofs.Acceptance.{else_first, else_second, none_both}
use Rattle.record_fields.proofs.Refused.{lent-refused, lent-accepted}
use Rattle.record_packing.specs.Refusals.{shape_refusal, parts_shape_refusal, pack_refusal}
use Rattle.record_packing.specs.Shapes.{Shaped}
use Rattle.record_packing.specs.Calls.{Packs}

-- parts whose lists have the right lengths
abbrev pub ShapedParts : Parts → Type 0
ShapedParts P = Shaped P.size P.left_rows P.right_rows P.links P.left_layout P.right_layout

-- where the hold, n and the lengths pass
pub shape_good : (P : Parts) → parts_shape_refusal P ≡ 0 → (is_hold P.hold ≡ true) × ShapedParts P
unfolding shape_refusal
shape_good P e =
    let n = P.size in
    let t₁ = none_first (not (is_hold P.hold)) 4 _ (omega arith) e in
    let t₂ = none_first (no_size n) 5 _ (omega arith) t₁.1 in
    let t₃ = none_first (not (eqb (length P.left_rows) (2 * (n - 1)))) 6 _ (omega arith) t₂.1 in
    let t₄ = none_first (not (eqb (length P.right_rows) (2 * (n - 1)))) 6 _ (omega arith) t₃.1 in
    let t₅ = none_first (not (eqb (length P.links) n)) 6 _ (omega arith) t₄.1 in
    let t₆ = none_first (not (eqb (length P.left_layout) (n - 1))) 6 _ (omega arith) t₅.1 in
    let t₇ = none_first (not (eqb (length P.right_layout) (n - 1))) 6 0 (omega arith) t₆.1 in
    let z = sized n t₂.0 in (
      not_no _ t₁.0,
      record {
        some = z.0;
        most = z.1;
        left_long = eqb-true _ _ (not_no _ t₃.0);
        right_long = eqb-true _ _ (not_no _ t₄.0);
        links_long = eqb-true _ _ (not_no _ t₅.0);
        left_layout_long = eqb-true _ _ (not_no _ t₆.0);
        right_layout_long = eqb-true _ _ (not_no _ t₇.0);
      },
    )

pub shape_0 : (P : Parts) → is_hold P.hold ≡ true → ShapedParts P → parts_shape_refusal P ≡ 0
unfolding shape_refusal
shape_0 P h g =
    rw (
      h,
      unsized P.size g.some g.most,
      eq-eqb _ _ g.left_long,
      eq-eqb _ _ g.right_long,
      eq-eqb _ _ g.links_long,
      eq-eqb _ _ g.left_layout_long,
      eq-eqb _ _ g.right_layout_long,
    ) refl

-- no row is told with it
shape_alone : (hold n left right links left_layout right_layout : ℕ) →
    Alone (shape_refusal hold n left right links left_layout right_layout)
unfolding shape_refusal
shape_alone hold n left right links left_layout right_layout =
    alone_when (not (is_hold hold)) 4 refl (alone_when (no_size n) 5 refl
    (alone_when (not (eqb left (2 * (n - 1)))) 6 refl (alone_when (not (eqb right (2 * (n - 1)))) 6 refl
    (alone_when (not (eqb links n)) 6 refl (alone_when (not (eqb left_layout (n - 1))) 6 refl
    (alone_when (not (eqb right_layout (n - 1))) 6 refl alone_0))))))

six : (b : Bool) {r : ℕ} → (r ≢ 0 → 6 ≡ r) → (6 when b else r) ≢ 0 → 6 ≡ (6 when b else r)
six true q z = refl
six false q z = q z

-- for code that tests the hold, n and then the lengths
module _ (P : Parts) where
  pub shape_4 : is_hold P.hold ≡ false → 4 ≡ parts_shape_refusal P
  unfolding shape_refusal
  shape_4 e = rw e refl

  module _ (hold : is_hold P.hold ≡ true) where
    pub shape_5 : no_size P.size ≡ true → 5 ≡ parts_shape_refusal P
    unfolding shape_refusal
    shape_5 e = rw (hold, e) refl

    -- some length is wrong
    pub shape_6 : no_size P.size ≡ false → (ShapedParts P → ⊥) → 6 ≡ parts_shape_refusal P
    unfolding shape_refusal
    shape_6 size wrong =
        let n = P.size in
        let some : parts_shape_refusal P ≢ 0 = λ z. wrong (shape_good P z).1 in
        rw (hold, size)
        (six (not (eqb (length P.left_rows) (2 * (n - 1)))) (six (not (eqb (length P.right_rows) (2 * (n - 1))))
        (six (not (eqb (length P.links) n)) (six (not (eqb (length P.left_layout) (n - 1)))
        (six (not (eqb (length P.right_layout) (n - 1))) (λ z. absurd (z refl))))))
        (rw (hold, size) at some))

parts_shape_alone : (P : Parts) → Alone (parts_shape_refusal P)
parts_shape_alone P =
    shape_alone P.hold P.size (length P.left_rows) (length P.right_rows) (length P.links) (length P.left_layout)
    (length P.right_layout)

-- ---- the bytes that parts make

pub length-packed : (P : Parts) → ShapedParts P → length (packed P) ≡ length_of P.size
unfolding packed
length-packed P g = simp (length-append, length-split) (omega arith)

-- a run of stores and a second one after it
sets_then : (vs ws l : List ℕ) (at next : ℕ) → at + length vs ≡ next → sets l at (vs ++ ws) ≡ sets (sets l at vs) next ws
sets_then vs ws l at next e = sets-append vs ws l at ∙ ap (λ k. sets (sets l at vs) k ws) e

-- the first eight bytes, stored from the first place on
pub opening_stored : (h n : ℕ) (l : List ℕ) {o o' : List ℕ} →
    o ≡ sets (sets l 0 (letter_t ∷ letter_g ∷ letter_p ∷ [])) version_at (split (1 ∷ [])) →
    o' ≡ sets (set o hold_at h) size_at (split (n ∷ [])) → o' ≡ sets l 0 (opening h n)
unfolding split
opening_stored h n l e f = f ∙ ap (λ r. sets (set r hold_at h) size_at (split (n ∷ []))) e

-- stored part after part, each where the one before it ends
pub stored : (h n : ℕ) (left right links left_layout right_layout : List ℕ) → Shaped n left right links left_layout right_layout →
    (l : List ℕ) {o₀ o₁ o₂ o₃ o₄ o₅ : List ℕ} → o₀ ≡ sets l 0 (opening h n) → o₁ ≡ sets o₀ 8 (split left) →
    o₂ ≡ sets o₁ (right_at n) (split right) → o₃ ≡ sets o₂ (links_at n) (split links) →
    o₄ ≡ sets o₃ (left_layout_at n) left_layout → o₅ ≡ sets o₄ (right_layout_at n) right_layout →
    o₅ ≡ sets l 0 (packed (given h n left right links left_layout right_layout))
unfolding packed
stored h n left right links left_layout right_layout g l e₀ e₁ e₂ e₃ e₄ e₅ =
    let layouts = left_layout ++ right_layout in
    let from-links = split links ++ layouts in
    let from_right = split right ++ from-links in
    let l₀ = sets l 0 (opening h n) in
    let l₁ = sets l₀ 8 (split left) in
    let l₂ = sets l₁ (right_at n) (split right) in
    let l₃ = sets l₂ (links_at n) (split links) in
    rw (e₅, e₄, e₃, e₂, e₁, e₀) (sym (sets_then (opening h n) (split left ++ from_right) l 0 8 refl
    ∙ sets_then (split left) from_right l₀ 8 (right_at n) (omega (arith, length-split left))
    ∙ sets_then (split right) from-links l₁ (right_at n) (links_at n) (omega (arith, length-split right))
    ∙ sets_then (split links) layouts l₂ (links_at n) (left_layout_at n) (omega (arith, length-split links))
    ∙ sets_then left_layout right_layout l₃ (left_layout_at n) (right_layout_at n) (omega arith)))

-- ---- the call

none-told : {k row : ℕ} → refused 0 ≡ refused_row k row → k ≡ 0
none-told e = sym (ap (λ (a : NumberAndRow). a.number) e)

module _ (P : Parts) (out : List ℕ) where
  packing_shape : parts_shape_refusal P ≢ 0 → parts_shape_refusal P ≡ pack_refusal P out
  unfolding pack_refusal
  packing_shape h = sym (else_first (parts_shape_refusal P) _ h)

  packing_contents : parts_shape_refusal P ≡ 0 → contents_refusal P ≢ 0 → contents_refusal P ≡ pack_refusal P out
  unfolding pack_refusal
  packing_contents s h = sym (else_second (parts_shape_refusal P) _ s ∙ else_first (contents_refusal P) _ h)

  pub packing_14 : parts_shape_refusal P ≡ 0 → contents_refusal P ≡ 0 → length out < length_of P.size → 14 ≡ pack_refusal P out
  unfolding pack_refusal
  packing_14 s c h = sym (else_second (parts_shape_refusal P) _ s ∙ else_second (contents_refusal P) _ c ∙ rw (lt-ltb _ _ h) refl)

  pub packing_0 : parts_shape_refusal P ≡ 0 → contents_refusal P ≡ 0 → length_of P.size ≤ length out → 0 ≡ pack_refusal P out
  unfolding pack_refusal
  packing_0 s c h = sym (else_second (parts_shape_refusal P) _ s ∙ else_second (contents_refusal P) _ c ∙ rw (le-ltb _ _ h) refl)

  -- where packing accepts, every test passed
  pub packing_good : pack_refusal P out ≡ 0 → (parts_shape_refusal P ≡ 0) × (contents_refusal P ≡ 0) × (length_of P.size ≤ length out)
  unfolding pack_refusal
  packing_good e =
      let s = none_both (parts_shape_refusal P) _ e in
      let t = none_both (contents_refusal P) _ s.1 in
      (s.0, t.0, ltb-false _ _ (none_first (ltb (length out) (length_of P.size)) 14 0 (omega arith) t.1).0)

  -- a row that is told is the lists'
  pub pack-own : tells_row (pack_refusal P out) ≡ true → contents_refusal P ≡ pack_refusal P out
  unfolding pack_refusal
  pack-own =
      let Q : ℕ → Type 0 = λ k. tells_row k ≡ true → contents_refusal P ≡ k in
      let none : (k : ℕ) → Alone k → Q k = λ k a t. absurd (differs a t refl) in
      each_else Q (parts_shape_refusal P) (none (parts_shape_refusal P) (parts_shape_alone P))
      (each_else Q (contents_refusal P) (λ t. refl)
      (none (14 when ltb (length out) (length_of P.size) else 0) (alone_when (ltb (length out) (length_of P.size)) 14 refl alone_0)))

  pack-refused : {k : ℕ} {answer : NumberAndRow} → k ≡ pack_refusal P out → k ≢ 0 → answer ≡ told_in P k → Packs P out answer out
  pack-refused {k} e h r = record { answers = r ∙ ap (told_in P) e; afterwards = rw (← e) (lent-refused k (packed P) out h) }

  pub pack_shape : {k : ℕ} → k ≡ parts_shape_refusal P → k ≢ 0 → Packs P out (refused k) out
  pack_shape e h = pack-refused (e ∙ packing_shape (λ z. h (e ∙ z))) h (told-alone P (subst Alone (sym e) (parts_shape_alone P)))

  -- parts that have the right lengths
  module _ (shape : refused 0 ≡ refused (parts_shape_refusal P)) where
    pub pack_contents : {answer : NumberAndRow} → ToldContents P answer → answer.number ≢ 0 → Packs P out answer out
    pack_contents t h =
        let some : contents_refusal P ≢ 0 = λ z. h (ap (λ (a : NumberAndRow). a.number) t.told ∙ z) in
        pack-refused (packing_contents (none-told shape) some) some t.told

    module _ (contents : ToldContents P (refused 0)) where
      pub pack-no-room : length out < length_of P.size → Packs P out (refused 14) out
      pack-no-room h =
          pack-refused (packing_14 (none-told shape) (none-told contents.told) h) (omega arith) (told-alone P (record { alone = refl }))

      pub pack-written : {out' : List ℕ} → length_of P.size ≤ length out → out' ≡ sets out 0 (packed P) → Packs P out (refused 0) out'
      pack-written room w =
          let e = packing_0 (none-told shape) (none-told contents.told) room in
          let g = (shape_good P (none-told shape)).1 in
          let h : length (packed P) ≤ length out = omega (arith, length-packed P g) in
          record {
            answers = told_none P (sym e);
            afterwards = w ∙ sets_front out (packed P) h ∙ lent-accepted (pack_refusal P out) (packed P) out (sym e);
          }
