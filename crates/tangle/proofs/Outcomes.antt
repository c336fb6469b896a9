-- The statements of the calls for C fix their outcomes, since those of the calls themselves do.
use mathlib.Core.Path.{◌≡◌, refl, sym, ap, ◌∙◌}
use Rattle.record.proofs.Outcomes.{equal_to_one}
use Rattle.calls_show.proofs.Outcomes.{one_thousandths}
use Rattle.tangle.specs.ForC.{Gives}
use Rattle.tangle.specs.Outcomes.{UnpackOutcomeForC, OutcomesForC}

-- two answers in one form, of calls that can only have answered alike
alike : {A B : Type 0} {P Q : A → Type 0} {form : A → B} {x y : B} → ((a b : A) → P a → Q b → a ≡ b) →
    Gives P form x → Gives Q form y → x ≡ y
alike {form = form} only g h = g.answers ∙ ap form (only _ _ g.called h.called) ∙ sym h.answers

unpack_outcome_for_c : {a b : UnpackOutcomeForC} → a.answer ≡ b.answer → a.left ≡ b.left → a.right ≡ b.right → a.links ≡ b.links →
    a.left_layout ≡ b.left_layout → a.right_layout ≡ b.right_layout → a ≡ b
unpack_outcome_for_c e₀ e₁ e₂ e₃ e₄ e₅ = rw (e₀, e₁, e₂, e₃, e₄, e₅) refl

pub outcomes_for_c : OutcomesForC
outcomes_for_c = record {
  check = λ s a b. alike (λ _ _ p q. equal_to_one p.answers q.answers);
  order =
      λ s side out a b x y g h.
      (alike (λ _ _ p q. equal_to_one p.answers q.answers) g h, equal_to_one g.called.afterwards h.called.afterwards);
  count = λ s a b. alike (λ _ _ p q. equal_to_one p.answers q.answers);
  squared_entanglement = λ s a b. alike (λ _ _ p q. equal_to_one p.answers q.answers);
  thousandths = λ s a b. alike (λ x y p q. one_thousandths s x y p.answers q.answers);
  free =
      λ s side a b x y g h.
      (alike (λ _ _ p q. equal_to_one p.answers q.answers) g h, equal_to_one g.called.afterwards h.called.afterwards);
  run =
      λ s allowance a b x y g h.
      (alike (λ _ _ p q. equal_to_one p.answers q.answers) g h, equal_to_one g.called.afterwards h.called.afterwards);
  hands =
      λ s hands a b x y g h.
      (alike (λ _ _ p q. equal_to_one p.answers q.answers) g h, equal_to_one g.called.afterwards h.called.afterwards);
  better = λ s side first second a b. alike (λ _ _ p q. equal_to_one p.answers q.answers);
  better_check = λ s side first second a b. alike (λ _ _ p q. equal_to_one p.answers q.answers);
  take_in =
      λ s side xs out a b x y g h.
      (alike (λ _ _ p q. equal_to_one p.answers q.answers) g h, equal_to_one g.called.afterwards h.called.afterwards);
  hold =
      λ s letter a b x y g h.
      (alike (λ _ _ p q. equal_to_one p.answers q.answers) g h, equal_to_one g.called.afterwards h.called.afterwards);
  pin =
      λ s side row pin a b x y g h.
      (alike (λ _ _ p q. equal_to_one p.answers q.answers) g h, equal_to_one g.called.afterwards h.called.afterwards);
  pack =
      λ P out a b x y g h.
      (alike (λ _ _ p q. equal_to_one p.answers q.answers) g h, equal_to_one g.called.afterwards h.called.afterwards);
  unpack =
      λ s left right links left_layout right_layout a b g h.
      unpack_outcome_for_c
      (alike (λ _ _ p q. equal_to_one p.answers q.answers) g h)
      (equal_to_one g.called.afterwards_left h.called.afterwards_left)
      (equal_to_one g.called.afterwards_right h.called.afterwards_right)
      (equal_to_one g.called.afterwards_links h.called.afterwards_links)
      (equal_to_one g.called.afterwards-left-layout h.called.afterwards-left-layout)
      (equal_to_one g.called.afterwards-right-layout h.called.afterwards-right-layout);
  newick_read =
      λ text out a b x y g h.
      (alike (λ _ _ p q. equal_to_one p.answers q.answers) g h, equal_to_one g.called.afterwards h.called.afterwards);
  newick_write =
      λ s side out a b x y g h.
      (alike (λ _ _ p q. equal_to_one p.answers q.answers) g h, equal_to_one g.called.afterwards h.called.afterwards);
  merge_read =
      λ n table out a b x y g h.
      (alike (λ _ _ p q. equal_to_one p.answers q.answers) g h, equal_to_one g.called.afterwards h.called.afterwards);
  merge_write =
      λ s side out a b x y g h.
      (alike (λ _ _ p q. equal_to_one p.answers q.answers) g h, equal_to_one g.called.afterwards h.called.afterwards);
}
