-- What an accepted entanglement says, squared and in thousandths, from their statements; whole numbers up to 2^53 are 64-bit floats without
-- loss.
use Prim.Native.Nat.{ℕ, ◌≤◌, ◌<◌}
use mathlib.Core.Path.{◌≡◌, refl, sym, ap, ◌∙◌, subst}
use mathlib.Core.Logic.{◌≢◌}
use mathlib.Core.Bool.{Bool, true, false}
use mathlib.Core.List.{List}
use mathlib.Core.Option.{some-injective, some-ne-none}
use native.Mathlib.Omega.{arith}
use borrow.Author.Tests.{eq-eqb, ne_eqb, eqb-true, eqb-false}
use lib.Dec.{eqb}
use lib.Ieee.{binary64, of_int}
use lib.Ieee.Back.{round_whole}
use Rattle.tanglegram.specs.Entanglement.{worst, Thousandths}
use Rattle.tanglegram.proofs.Entanglement.{worst-most}
use Rattle.tanglegram.proofs.Thousandths.{next_above, within_1000, worst_exactly, zero_exactly, worst_positive}
use Rattle.record_fields.specs.Fields.{size_of}
use Rattle.record_fields.specs.Refusals.{refusal}
use Rattle.record_fields.proofs.Acceptance.{accepted-sized}
use Rattle.record_arrays.specs.Shown.{shown_displacement}
use Rattle.calls_show.specs.InThousandths.{InThousandths}
use Rattle.calls_show.specs.InThousandths as in_thousandths
use Rattle.calls_show.specs.Calls.{ratio, squared_entanglement, squared_refusal, ThousandthsOf, thousandths_refusal}
use Rattle.calls_show.proofs.Shown.{displacement-at-most}
use Rattle.calls_show.proofs.Outcomes.{squared-told}
use Rattle.promises.specs.Entanglement as Entanglement
use Rattle.promises.specs.Entanglement.{Exact, SquaredKeeps, Root, ThousandthsKeeps, Beside}

pub exact : (x : ℕ) → x ≤ 44739072 → Exact x
unfolding of_int
exact x h = round_whole binary64 false x (omega (arith, h))

module _ (s : List ℕ) where
  -- an answer with number 0 is of a record that is accepted
  number_0 : (squared_refusal (squared_entanglement s)).number ≡ 0 → refusal s ≡ 0
  number_0 h = sym (ap (λ r. r.number) (squared-told s)) ∙ h

  module _ (a : refusal s ≡ 0) where
    at_most : shown_displacement s ≤ worst (size_of s)
    at_most = displacement-at-most s a

    most : worst (size_of s) ≤ 44739072
    most = worst-most (size_of s) (accepted-sized s a).most

    one_leaf : size_of s ≡ 1 → SquaredKeeps s (squared_entanglement s)
    unfolding squared_entanglement
    one_leaf n =
        let w : 0 ≡ worst (size_of s) = ap worst (sym n) in
        let d : 0 ≡ shown_displacement s = omega (arith, at_most, w) in
        rw (a, eq-eqb (size_of s) 1 n) (record {
          displaced = d;
          worst_value = w;
          no_worse = omega arith;
          bounded = omega arith;
          exact = (exact 0 (omega arith), exact 0 (omega arith));
          one_leaf = λ _. refl;
          divided = λ h. absurd (omega (arith, n, h));
        })

    more-leaves : 2 ≤ size_of s → SquaredKeeps s (squared_entanglement s)
    unfolding squared_entanglement ratio
    more-leaves n =
        rw (a, ne_eqb (size_of s) 1 (λ e. absurd (omega (arith, n, e)))) (record {
          displaced = refl;
          worst_value = refl;
          no_worse = at_most;
          bounded = most;
          exact = (exact (shown_displacement s) (omega (arith, at_most, most)), exact (worst (size_of s)) most);
          one_leaf = λ e. absurd (omega (arith, n, e));
          divided = λ h. refl;
        })

    keeps : SquaredKeeps s (squared_entanglement s)
    keeps = go (eqb (size_of s) 1) refl
      where
        go : (b : Bool) → eqb (size_of s) 1 ≡ b → SquaredKeeps s (squared_entanglement s)
        go true e = one_leaf (eqb-true (size_of s) 1 e)
        go false e =
            let some = (accepted-sized s a).some in
            let other = eqb-false (size_of s) 1 e in
            more-leaves (omega (arith, some, other))

-- ---- in thousandths

root : (d w k : ℕ) → 0 < w → d ≤ w → Thousandths d w k → Root d w k
root d w k positive no_worse t = record {
  largest = t;
  next_above = next_above d w t;
  at_most = within_1000 d w positive no_worse k t.has;
  worst_exactly = worst_exactly d w positive no_worse t;
  zero_exactly = zero_exactly d w t;
  nothing_displaced = λ e. (zero_exactly d w t).1 (omega (arith, e, positive));
}

module _ (s : List ℕ) where
  -- the promise, case by case; an answer with number 0 is no refusal
  thousandths_keeps : (answer : InThousandths) → ThousandthsOf s answer → (thousandths_refusal answer).number ≡ 0 → ThousandthsKeeps s answer
  thousandths_keeps (in_thousandths.Ratio k) p z = record {
    no_ratio = (λ e. absurd (some-ne-none k e), λ e. absurd (omega (arith, e, p.1)));
    root = λ j e.
        rw (← some-injective k j e)
        (root (shown_displacement s) (worst (size_of s)) k (worst_positive (size_of s) p.1) (displacement-at-most s p.0) p.2);
  }
  thousandths_keeps in_thousandths.NoRatio p z = record {
    no_ratio = (λ e. p.1, λ e. refl);
    root = λ j e. absurd (some-ne-none j (sym e));
  }
  thousandths_keeps (in_thousandths.Refused r) p z = absurd (p.0 (sym (ap (λ r'. r'.number) p.1) ∙ z))

  -- beside the squared one
  beside : (answer : InThousandths) → ThousandthsOf s answer → Beside (squared_entanglement s) answer
  unfolding squared_entanglement
  beside (in_thousandths.Ratio k) p =
      let more : size_of s ≢ 1 = λ e. omega (arith, e, p.1) in
      rw (p.0, ne_eqb (size_of s) 1 more) (record {
        same_refusal = refl;
        same_ratio = (λ e. absurd (some-ne-none k e), λ e. absurd (some-ne-none _ e));
        root = λ j e. rw (← some-injective k j e) p.2;
      })
  beside in_thousandths.NoRatio p =
      rw (p.0, eq-eqb (size_of s) 1 p.1) (record {
        same_refusal = refl;
        same_ratio = (λ e. refl, λ e. refl);
        root = λ j e. absurd (some-ne-none j (sym e));
      })
  beside (in_thousandths.Refused r) p =
      rw (ne_eqb (refusal s) 0 p.0) (record {
        same_refusal = p.1;
        same_ratio = (λ e. refl, λ e. refl);
        root = λ j e. absurd (some-ne-none j (sym e));
      })

pub entanglement : Entanglement.Entanglement
entanglement = record {
  squared = λ s answer o z.
      let e = sym o.answers in
      subst (SquaredKeeps s) e (keeps s (number_0 s (ap (λ a. (squared_refusal a).number) e ∙ z)));
  thousandths = λ s answer o z. thousandths_keeps s answer o.answers z;
  both = λ s squared answer o p. subst (λ a. Beside a answer) (sym o.answers) (beside s answer p.answers);
}
