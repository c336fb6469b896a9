-- From what a call found to its statement.
use Prim.Native.Nat.{ℕ, ◌≤◌, ◌<◌}
use mathlib.Core.Path.{◌≡◌, refl, sym, ap, ◌∙◌}
use mathlib.Core.Logic.{◌≢◌}
use mathlib.Core.Bool.{Bool, true, false, not}
use mathlib.Core.List.{List, ◌++◌}
use native.Mathlib.Omega.{arith}
use borrow.Author.Tests.{eq-eqb, ne_eqb, eqb-true, lt-ltb, le-ltb, ltb-false}
use lib.Dec.{eqb, ltb}
use lib.ListN.{length, take, drop}
use Rattle.tanglegram.specs.Entanglement.{worst}
use Rattle.tanglegram.specs.declared.side.Side.{Side}
use Rattle.tanglegram.proofs.Lists.{all-length}
use Rattle.tanglegram.proofs.Entanglement.{worst-most}
use Rattle.tanglegram.proofs.Thousandths.{only_one, worst_positive}
use Rattle.record_fields.specs.Fields.{size_of, parts}
use Rattle.record_fields.specs.Refusals.{refusal}
use Rattle.record_fields.specs.Refused.{NumberAndRow, refused, accepted}
use Rattle.record_fields.specs.Told.{told_of, OwnRow}
use Rattle.record_fields.proofs.Acceptance.{accepted-sized, else_first, none_both}
use Rattle.record_fields.proofs.Heading.{none_first, not_no}
use Rattle.record_fields.proofs.Refused.{lent-refused, lent-accepted}
use Rattle.record_fields.proofs.Told.{told_none, told-alone, alone_when, alone_0, own_when, own_then}
use Rattle.calls_show.specs.Answers.{Ratio, NoRatio, Refused}
use Rattle.calls_show.specs.InThousandths.{InThousandths}
use Rattle.calls_show.specs.InThousandths as in_thousandths
use Rattle.record_arrays.specs.Sides.{is_side, side_of, RecordOver}
use Rattle.calls_show.specs.Refusals.{order_refusal}
use Rattle.record_arrays.specs.Shown.{shown_order, shown_count, shown_displacement}
use Rattle.calls_show.specs.Calls.{Orders, Counts, ratio, squared_entanglement, SquaredEntangles, squared_refusal}
use Rattle.calls_show.specs.Calls.{ThousandthsOf, thousandths_refusal}
use Rattle.record_arrays.proofs.AsItStands.{side-perm}
use Rattle.record_arrays.proofs.Apart.{order-taken}
use Rattle.calls_show.proofs.Shown.{displacement-at-most}

module _ (s : List ℕ) where
  -- ---- counts

  pub count-refused : {answer : NumberAndRow} → answer ≡ told_of s (refusal s) → refusal s ≢ 0 →
      Counts s (record { refusal = answer; count = 0 })
  count-refused t h = record { answers = rw (t, ne_eqb (refusal s) 0 h) refl }

  pub count-accepted : {r : ℕ} → refusal s ≡ 0 → r ≡ shown_count s → Counts s (record { refusal = refused 0; count = r })
  count-accepted a e = record { answers = rw (told_none (parts s) a, a, e) refl }

  -- ---- squared entanglement

  pub squared-refused : {answer : NumberAndRow} → refusal s ≢ 0 → answer ≡ told_of s (refusal s) → SquaredEntangles s (Refused answer)
  unfolding squared_entanglement
  squared-refused h t = record { answers = ap Refused t ∙ rw (ne_eqb (refusal s) 0 h) refl }

  module _ (a : refusal s ≡ 0) where
    pub squared-none : size_of s ≡ 1 → SquaredEntangles s NoRatio
    unfolding squared_entanglement
    squared-none h = record { answers = rw (a, eq-eqb (size_of s) 1 h) refl }

    module _ {d w : ℕ} (h : 2 ≤ size_of s) (p : d ≡ shown_displacement s) (q : w ≡ worst (size_of s)) where
      pub squared-ratio : SquaredEntangles s (Ratio d w (ratio d w))
      unfolding squared_entanglement
      squared-ratio = record { answers = rw (a, ne_eqb (size_of s) 1 (λ z. omega (arith, h, z)), p, q) refl }

      -- D and W are as the work in thousandths asks
      pub thousandths_asked : (0 < w) × (d ≤ w) × (w ≤ 44739072)
      thousandths_asked =
          rw (p, q) (worst_positive (size_of s) h, displacement-at-most s a, worst-most (size_of s) (accepted-sized s a).most)

  -- its refusal, case by case
  pub squared-told : squared_refusal (squared_entanglement s) ≡ told_of s (refusal s)
  unfolding squared_entanglement
  squared-told = go (accepted (refusal s)) refl (eqb (size_of s) 1) refl
    where
      go : (b : Bool) → accepted (refusal s) ≡ b → (c : Bool) → eqb (size_of s) 1 ≡ c →
          squared_refusal (squared_entanglement s) ≡ told_of s (refusal s)
      go true e true f = rw (e, f) (told_none (parts s) (eqb-true (refusal s) 0 e))
      go true e false f = rw (e, f) (told_none (parts s) (eqb-true (refusal s) 0 e))
      go false e c f = rw e refl

-- ---- entanglement in thousandths

module _ (s : List ℕ) where
  -- there is one answer only
  pub one_thousandths : (a b : InThousandths) → ThousandthsOf s a → ThousandthsOf s b → a ≡ b
  one_thousandths (in_thousandths.Ratio j) (in_thousandths.Ratio k) p q = ap in_thousandths.Ratio (only_one _ _ q.2 p.2)
  one_thousandths (in_thousandths.Ratio j) in_thousandths.NoRatio p q = absurd (omega (arith, p.1, q.1))
  one_thousandths (in_thousandths.Ratio j) (in_thousandths.Refused r) p q = absurd (q.0 p.0)
  one_thousandths in_thousandths.NoRatio (in_thousandths.Ratio k) p q = absurd (omega (arith, p.1, q.1))
  one_thousandths in_thousandths.NoRatio in_thousandths.NoRatio p q = refl
  one_thousandths in_thousandths.NoRatio (in_thousandths.Refused r) p q = absurd (q.0 p.0)
  one_thousandths (in_thousandths.Refused r) (in_thousandths.Ratio k) p q = absurd (p.0 q.0)
  one_thousandths (in_thousandths.Refused r) in_thousandths.NoRatio p q = absurd (p.0 q.0)
  one_thousandths (in_thousandths.Refused r) (in_thousandths.Refused r') p q = ap in_thousandths.Refused (p.1 ∙ sym q.1)

  -- its refusal, case by case
  pub thousandths-told : (a : InThousandths) → ThousandthsOf s a → thousandths_refusal a ≡ told_of s (refusal s)
  thousandths-told (in_thousandths.Ratio k) p = told_none (parts s) p.0
  thousandths-told in_thousandths.NoRatio p = told_none (parts s) p.0
  thousandths-told (in_thousandths.Refused r) p = p.1

-- ---- a side's order

module _ (s : List ℕ) (side : ℕ) (out : List ℕ) where
  pub ordering_13 : is_side side ≡ false → 13 ≡ order_refusal s side out
  unfolding order_refusal
  ordering_13 h = rw h refl

  module _ (good : is_side side ≡ true) where
    pub ordering_record : refusal s ≢ 0 → refusal s ≡ order_refusal s side out
    unfolding order_refusal
    ordering_record h = rw good (sym (else_first (refusal s) _ h))

    module _ (a : refusal s ≡ 0) where
      pub ordering_14 : length out < size_of s → 14 ≡ order_refusal s side out
      unfolding order_refusal
      ordering_14 p = rw (good, a, lt-ltb (length out) (size_of s) p) refl

      pub ordering_0 : size_of s ≤ length out → 0 ≡ order_refusal s side out
      unfolding order_refusal
      ordering_0 p = rw (good, a, le-ltb (length out) (size_of s) p) refl

  -- where it is not refused
  pub ordering_good : order_refusal s side out ≡ 0 → (is_side side ≡ true) × (refusal s ≡ 0) × (size_of s ≤ length out)
  unfolding order_refusal
  ordering_good e =
      let t = none_first _ 13 _ (omega arith) e in
      let u = none_both (refusal s) _ t.1 in
      let v = none_first (ltb (length out) (size_of s)) 14 0 (omega arith) u.1 in
      (not_no _ t.0, u.0, ltb-false _ _ v.0)

  -- a row that is told is the record's
  pub order-own : {k : ℕ} → k ≡ order_refusal s side out → OwnRow s k
  unfolding order_refusal
  order-own e = rw e (own_when s (not (is_side side)) 13 refl (own_then s (alone_when (ltb (length out) (size_of s)) 14 refl alone_0)))

  order_refused : {k : ℕ} {answer : NumberAndRow} → k ≡ order_refusal s side out → k ≢ 0 → answer ≡ told_of s k →
      Orders s side out answer out
  order_refused {k} e h t = record {
    answers = t ∙ ap (told_of s) e;
    afterwards = rw (← e) (lent-refused k (shown_order s (side_of side)) out h);
  }

  pub order-no-side : is_side side ≡ false → Orders s side out (refused 13) out
  order-no-side h = order_refused (ordering_13 h) (λ e. omega (arith, e)) (told-alone (parts s) (record { alone = refl }))

  module _ (good : is_side side ≡ true) where
    pub order-record : {answer : NumberAndRow} → refusal s ≢ 0 → answer ≡ told_of s (refusal s) → Orders s side out answer out
    order-record h t = order_refused (ordering_record good h) h t

    module _ (n : ℕ) (over : RecordOver s n) where
      pub order-no-room : length out < n → Orders s side out (refused 14) out
      order-no-room p =
          order_refused (ordering_14 good over.accepted (rw over.sized.says p)) (λ e. omega (arith, e))
          (told-alone (parts s) (record { alone = refl }))

      pub order-made : {x : Side} (A found front : List ℕ) → n ≤ length out → side_of side ≡ x → A ≡ shown_order s x ++ drop n found →
          front ≡ take n A → Orders s side out (refused 0) (front ++ drop n out)
      order-made {x} A found front p f made w =
          let z : order_refusal s side out ≡ 0 = sym (ordering_0 good over.accepted (rw over.sized.says p)) in
          record {
            answers = told_none (parts s) z;
            afterwards =
                ap (λ l. l ++ drop n out) (w ∙ order-taken s n over x A found made)
                ∙ ap (λ k. shown_order s x ++ drop k out) (sym (all-length n _ (side-perm s n over x)))
                ∙ rw f (lent-accepted (order_refusal s side out) (shown_order s x) out z);
          }
