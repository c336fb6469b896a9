-- A row turned over twice by hand is as it was.
use mathlib.Core.Path.{◌≡◌, refl, sym, ap, ◌∙◌}
use mathlib.Core.List.{[], ◌∷◌}
use borrow.Author.Tests.{eq-eqb}
use Rattle.record_fields.specs.Meaning.{layouts_of, relaid}
use Rattle.record_arrays.specs.Sides.{side_of}
use Rattle.record_arrays.proofs.OneRow.{row_small}
use Rattle.calls_hands.specs.Refusals.{hands_refusal}
use Rattle.calls_hands.proofs.HandLists.{handing_accepted}
use Rattle.calls_hands.proofs.Handed.{twice-handed, twice_as_before}
use Rattle.promises.specs.HandsTwice as HandsTwice
use Rattle.promises.proofs.Afterwards.{afterwards}

pub hands_twice : HandsTwice.HandsTwice
hands_twice = record {
  alone = λ s h answer s' o.
      afterwards (λ r. r ≡ s) (hands_refusal s (h ∷ h ∷ [])) o.afterwards
      (λ e. twice_as_before s h (handing_accepted s (h ∷ h ∷ []) e).1) refl;
  before_others = λ s h hands answer s' o z.
      let e : hands_refusal s (h ∷ h ∷ hands) ≡ 0 = sym (ap (λ a. a.number) o.answers) ∙ z in
      let a = (handing_accepted s (h ∷ h ∷ hands) e).1 in
      o.afterwards
      ∙ rw (eq-eqb _ 0 e) (ap (relaid s) (twice-handed (layouts_of s) h hands (row_small s a (side_of h.side) h.row)));
}
