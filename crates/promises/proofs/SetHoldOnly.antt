-- Setting the hold writes byte 5 or nothing, and tests the letter before the record.
use mathlib.Core.Path.{◌≡◌, refl, sym, ap, ◌∙◌}
use mathlib.Core.Bool.{Bool, true, false, cond}
use mathlib.Core.List.{List}
use mathlib.Core.Logic.{◌≢◌}
use Prim.Native.Nat.{ℕ}
use native.Mathlib.Omega.{arith}
use borrow.Author.Tests.{eq-eqb}
use lib.ListN.{length, get_or, set, length-set}
use lib.Seq.{get_or-set_same, get_or-set_other}
use Rattle.tanglegram.specs.declared.side.Side.{Side}
use Rattle.tanglegram.specs.Table.{order_of}
use Rattle.record_fields.specs.Meaning.{table_in, layouts_in}
use Rattle.record_fields.specs.Refusals.{is_hold, refusal, set_hold_refusal}
use Rattle.record_fields.specs.Refused.{accepted}
use Rattle.record_fields.proofs.Acceptance.{accepted_heading, holding_accepted}
use Rattle.record_fields.proofs.Rehold.{parts_rehold, size_rehold, rehold_accepted}
use Rattle.record_arrays.specs.Shown.{shown_order}
use Rattle.promises.specs.HeldStays.{SameTrees}
use Rattle.promises.specs.SetHoldOnly.{SetHoldPromise}
use Rattle.promises.proofs.Afterwards.{afterwards}
use Rattle.promises.proofs.HeldStays.{trees_same}

-- the letter written, or nothing
module _ (s : List ℕ) (letter : ℕ) where
  others : (b : Bool) (i : ℕ) → i ≢ 5 → get_or (cond b (set s 5 letter) s) i 0 ≡ get_or s i 0
  others true i h = get_or-set_other s 5 i letter 0 h
  others false i h = refl

  long : (b : Bool) → length (cond b (set s 5 letter) s) ≡ length s
  long true = length-set s 5 letter
  long false = refl

  -- another hold, and nothing else
  reheld_trees : refusal s ≡ 0 → is_hold letter ≡ true → SameTrees s (set s 5 letter)
  reheld_trees a h =
      let g = accepted_heading s a in
      let same = parts_rehold s letter (omega (arith, g.long)) in
      record {
        same_size = size_rehold s letter;
        same_trees = λ side. ap (λ P. (table_in P).tree side) same;
        same_links = ap (λ P. P.links) same;
        accepted_again = λ _. rehold_accepted s letter a h;
      }

  trees : (after : List ℕ) (k : ℕ) → after ≡ cond (accepted k) (set s 5 letter) s →
      (k ≡ 0 → (is_hold letter ≡ true) × (refusal s ≡ 0)) → SameTrees s after × ((side : Side) → shown_order after side ≡ shown_order s side)
  trees after k e f =
      afterwards (λ r. SameTrees s r × ((side : Side) → shown_order r side ≡ shown_order s side)) k e
      (λ z.
      let good = f z in
      let same = parts_rehold s letter (omega (arith, (accepted_heading s good.1).long)) in
      (reheld_trees good.1 good.0, λ side. ap (λ P. order_of (table_in P) (layouts_in P) side) same))
      (trees_same s, λ side. refl)

pub set-hold-only : SetHoldPromise
unfolding set_hold_refusal
set-hold-only s letter answer after p =
    let b = accepted (set_hold_refusal s letter) in
    let number = ap (λ a. a.number) p.answers in
    let kept = trees s letter after (set_hold_refusal s letter) p.afterwards (holding_accepted s letter) in
    record {
      puts_the_letter =
          λ z.
          let e : set_hold_refusal s letter ≡ 0 = sym number ∙ z in
          let g = accepted_heading s (holding_accepted s letter e).1 in
          ap (λ r. get_or r 5 0) p.afterwards
          ∙ rw (eq-eqb (set_hold_refusal s letter) 0 e) (get_or-set_same s 5 letter 0 (omega (arith, g.long)));
      keeps_the_others = λ i h. ap (λ r. get_or r i 0) p.afterwards ∙ others s letter b i h;
      keeps_the_length = ap length p.afterwards ∙ long s letter b;
      keeps_the_trees = kept.0;
      keeps_the_orders = kept.1;
      bad_letter_first = λ h. number ∙ rw h refl;
      then_the_record = λ h. number ∙ rw h refl;
    }
