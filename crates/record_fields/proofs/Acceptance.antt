-- A record's refusal: its heading's, or its parts'; and what an accepted record is.
use Prim.Native.Nat.{ℕ, zero, suc}
use mathlib.Core.Path.{◌≡◌, refl}
use mathlib.Core.Logic.{◌≢◌}
use mathlib.Core.Bool.{true, not}
use mathlib.Core.List.{List}
use native.Mathlib.Omega.{arith}
use Rattle.record_fields.specs.Fields.{size_of, Sized, parts}
use Rattle.record_fields.specs.Refusals.{or_else, is_hold, heading_refusal, contents_refusal, refusal, set_hold_refusal}
use Rattle.record_fields.proofs.Heading.{GoodHeading, heading_good, none_first, not_no}
use Rattle.record_fields.proofs.Contents.{GoodParts, contents_good}

pub else_first : (k r : ℕ) → k ≢ 0 → or_else k r ≡ k
else_first zero r h = absurd (h refl)
else_first (suc k) r h = refl

pub else_second : (k r : ℕ) → k ≡ 0 → or_else k r ≡ r
else_second k r e = rw e refl

pub none_both : (k r : ℕ) → or_else k r ≡ 0 → (k ≡ 0) × (r ≡ 0)
none_both zero r e = (refl, e)
none_both (suc k) r e = absurd (omega arith)

module _ (s : List ℕ) where
  pub refusal_heading : heading_refusal s ≢ 0 → refusal s ≡ heading_refusal s
  unfolding refusal
  refusal_heading h = else_first (heading_refusal s) (contents_refusal (parts s)) h

  pub refusal_contents : heading_refusal s ≡ 0 → refusal s ≡ contents_refusal (parts s)
  unfolding refusal
  refusal_contents e = else_second (heading_refusal s) (contents_refusal (parts s)) e

  pub heading_sized : heading_refusal s ≡ 0 → Sized s (size_of s)
  heading_sized e = let g = heading_good s e in record { says = refl; some = g.some; most = g.most; whole = g.whole }

  -- an accepted record has a good heading and good parts
  pub accepted_heading : refusal s ≡ 0 → GoodHeading s
  unfolding refusal
  accepted_heading e = heading_good s (none_both (heading_refusal s) (contents_refusal (parts s)) e).0

  pub accepted-sized : refusal s ≡ 0 → Sized s (size_of s)
  unfolding refusal
  accepted-sized e = heading_sized (none_both (heading_refusal s) (contents_refusal (parts s)) e).0

  pub accepted_contents : refusal s ≡ 0 → contents_refusal (parts s) ≡ 0
  unfolding refusal
  accepted_contents e = (none_both (heading_refusal s) (contents_refusal (parts s)) e).1

  pub accepted-parts : refusal s ≡ 0 → GoodParts (parts s)
  accepted-parts e = contents_good (parts s) (accepted_contents e)

-- where the hold can be set, the letter is good and the record accepted
pub holding_accepted : (s : List ℕ) (letter : ℕ) → set_hold_refusal s letter ≡ 0 → (is_hold letter ≡ true) × (refusal s ≡ 0)
unfolding set_hold_refusal
holding_accepted s letter e =
    let t = none_first (not (is_hold letter)) 4 (refusal s) (omega arith) e in
    (not_no (is_hold letter) t.0, t.1)
