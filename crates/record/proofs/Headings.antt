-- What is told of a heading and of parts is told of the record.
use Prim.Native.Nat.{ℕ, ◌≤◌}
use mathlib.Core.Path.{◌≡◌, refl, sym, ap, subst, ◌∙◌}
use mathlib.Core.Logic.{◌≢◌}
use mathlib.Core.Bool.{Bool, true, false, and-true}
use mathlib.Core.List.{List, [], ◌∷◌}
use native.Mathlib.Omega.{arith}
use borrow.Author.Tests.{eq-eqb, ne_eqb, eqb-true, eqb-false}
use lib.Dec.{eqb}
use lib.ListN.{length}
use Rattle.std.specs.List.{starts_with}
use Rattle.record_fields.specs.Fields.{size_of, parts, parts_of, Sized}
use Rattle.record_fields.specs.Refusals.{heading_refusal, is_mark, refusal}
use Rattle.record_fields.specs.Refused.{NumberAndRow, refused}
use Rattle.record_fields.specs.Told.{told_of, ToldContents}
use Rattle.record_fields.proofs.Acceptance.{refusal_heading, refusal_contents, heading_sized}
use Rattle.record_fields.proofs.Told.{heading_alone, told-alone}

eqb-swap : (a b : ℕ) → eqb a b ≡ eqb b a
eqb-swap a b = go (eqb a b) refl
  where
    go : (c : Bool) → eqb a b ≡ c → eqb a b ≡ eqb b a
    go true e = e ∙ sym (eq-eqb b a (sym (eqb-true a b e)))
    go false e = e ∙ sym (ne_eqb b a (λ z. eqb-false a b e (sym z)))

-- the mark is what bytes begin with
pub marks : (s : List ℕ) → 3 ≤ length s → starts_with eqb s (84 ∷ 71 ∷ 80 ∷ []) ≡ is_mark s
unfolding is_mark
marks [] h = absurd (omega arith)
marks (x ∷ []) h = absurd (omega arith)
marks (x ∷ y ∷ []) h = absurd (omega arith)
marks (x ∷ y ∷ z ∷ s) h = rw (eqb-swap 84 x, eqb-swap 71 y, eqb-swap 80 z, and-true (eqb z 80)) refl

module _ (s : List ℕ) where
  -- a heading that is refused
  pub told-heading : {answer : NumberAndRow} → answer ≡ refused (heading_refusal s) → answer.number ≢ 0 → answer ≡ told_of s (refusal s)
  told-heading e h =
      e ∙ told-alone (parts s) (heading_alone s) ∙ ap (told_of s) (sym (refusal_heading s (λ z. h (ap (λ (a : NumberAndRow). a.number) e ∙ z))))

  -- a heading that is not, and what is told of the parts
  module _ {n : ℕ} (good : refused 0 ≡ refused (heading_refusal s)) (counts : n ≡ size_of s) where
    pub heading-passed : heading_refusal s ≡ 0
    heading-passed = sym (ap (λ (a : NumberAndRow). a.number) good)

    pub heading-over : Sized s n
    heading-over = subst (Sized s) (sym counts) (heading_sized s heading-passed)

    pub told-contents : {answer : NumberAndRow} → ToldContents (parts_of s n) answer → answer ≡ told_of s (refusal s)
    told-contents {answer} t =
        let own : ToldContents (parts s) answer = subst (λ k. ToldContents (parts_of s k) answer) counts t in
        own.told ∙ ap (told_of s) (sym (refusal_contents s heading-passed))

    pub none-refused : ToldContents (parts_of s n) (refused 0) → refusal s ≡ 0
    none-refused t = sym (ap (λ (a : NumberAndRow). a.number) (told-contents t))
