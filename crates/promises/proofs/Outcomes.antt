-- The calls' statements fix their outcomes: each part of two outcomes equals one and the same thing.
use mathlib.Core.Path.{◌≡◌, refl}
use Rattle.record.proofs.Outcomes.{equal_to_one}
use Rattle.calls_show.proofs.Outcomes.{one_thousandths}
use Rattle.promises.specs.Outcomes as Outcomes
use Rattle.promises.specs.Outcomes.{UnpackOutcome}

unpack_outcome : {a b : UnpackOutcome} → a.answer ≡ b.answer → a.left ≡ b.left → a.right ≡ b.right → a.links ≡ b.links →
    a.left_layout ≡ b.left_layout → a.right_layout ≡ b.right_layout → a ≡ b
unpack_outcome e₀ e₁ e₂ e₃ e₄ e₅ = rw (e₀, e₁, e₂, e₃, e₄, e₅) refl

pub outcomes : Outcomes.Outcomes
outcomes = record {
  check = λ s a b p q. equal_to_one p.answers q.answers;
  read = λ s a b p q. equal_to_one p.answers q.answers;
  set_hold = λ s letter a b x y p q. (equal_to_one p.answers q.answers, equal_to_one p.afterwards q.afterwards);
  unpack = λ s left right links left_layout right_layout a b p q.
      unpack_outcome
      (equal_to_one p.answers q.answers)
      (equal_to_one p.afterwards_left q.afterwards_left)
      (equal_to_one p.afterwards_right q.afterwards_right)
      (equal_to_one p.afterwards_links q.afterwards_links)
      (equal_to_one p.afterwards-left-layout q.afterwards-left-layout)
      (equal_to_one p.afterwards-right-layout q.afterwards-right-layout);
  pack = λ P out a b x y p q. (equal_to_one p.answers q.answers, equal_to_one p.afterwards q.afterwards);
  order = λ s side out a b x y p q. (equal_to_one p.answers q.answers, equal_to_one p.afterwards q.afterwards);
  count = λ s a b p q. equal_to_one p.answers q.answers;
  squared_entanglement = λ s a b p q. equal_to_one p.answers q.answers;
  thousandths = λ s a b p q. one_thousandths s a b p.answers q.answers;
  free = λ s side a b x y p q. (equal_to_one p.answers q.answers, equal_to_one p.afterwards q.afterwards);
  run = λ s allowance a b x y p q. (equal_to_one p.answers q.answers, equal_to_one p.afterwards q.afterwards);
  hands = λ s hands a b x y p q. (equal_to_one p.answers q.answers, equal_to_one p.afterwards q.afterwards);
  pin = λ s side row pinned a b x y p q. (equal_to_one p.answers q.answers, equal_to_one p.afterwards q.afterwards);
  better = λ s side first second first-at second_at x y x-at y-at p q.
      (equal_to_one p.answers q.answers, equal_to_one p.begins q.begins);
  compare = λ s side first second a b p q. equal_to_one p.answers q.answers;
  better_check = λ s side first second a b p q. equal_to_one p.answers q.answers;
  take_in = λ s side xs out a b x y p q. (equal_to_one p.answers q.answers, equal_to_one p.afterwards q.afterwards);
  newick_read = λ text out a b x y p q. (equal_to_one p.answers q.answers, equal_to_one p.afterwards q.afterwards);
  newick_write = λ s side out a b x y p q. (equal_to_one p.answers q.answers, equal_to_one p.afterwards q.afterwards);
  merge_read = λ n table out a b x y p q. (equal_to_one p.answers q.answers, equal_to_one p.afterwards q.afterwards);
  merge_write = λ s side out a b x y p q. (equal_to_one p.answers q.answers, equal_to_one p.afterwards q.afterwards);
}
