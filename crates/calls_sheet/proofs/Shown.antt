-- What the calls that show a record answer of one that is accepted.
use Prim.Native.Nat.{ℕ, ◌≤◌}
use mathlib.Core.Path.{◌≡◌, refl, sym, ap, ◌∙◌}
use mathlib.Core.Bool.{Bool, true, false}
use mathlib.Core.List.{List}
use native.Mathlib.Omega.{arith}
use borrow.Author.Tests.{eqb-true}
use lib.Dec.{eqb}
use lib.ListN.{length}
use Rattle.tanglegram.specs.declared.side.Side.{Side}
use Rattle.tanglegram.specs.Entanglement.{worst}
use Rattle.record_fields.specs.Fields.{size_of}
use Rattle.record_fields.specs.Refusals.{refusal}
use Rattle.record_fields.proofs.Acceptance.{accepted-sized}
use Rattle.record_arrays.specs.Shown.{shown_order, shown_count, shown_displacement}
use Rattle.record_arrays.proofs.AsItStands.{side-perm, over_its_leaves}
use Rattle.calls_show.specs.Answers.{Counted}
use Rattle.calls_show.specs.Answers.{SquaredEntanglement}
use Rattle.calls_show.specs.Calls.{Counts, SquaredEntangles, squared_entanglement, displaced_in, worst_in}
use Rattle.calls_show.proofs.Shown.{displacement-at-most}
use Rattle.work_text.specs.Puts.{Puts}
use Rattle.calls_sheet.specs.Lines.{order_line, entangled_line}
use Rattle.calls_sheet.specs.Sheet.{ThirdNumber}
use Rattle.calls_sheet.specs.Shown.{SaysEntangled}
use Rattle.calls_sheet.proofs.Room.{order-most}

module _ (s : List ℕ) (a : refusal s ≡ 0) where
  pub order_fits : (side : Side) (letter : ℕ) → length (order_line letter (shown_order s side)) ≤ 1942
  order_fits side letter =
      order-most letter (size_of s) _ (accepted-sized s a).most (side-perm s (size_of s) (over_its_leaves s a) side)

  -- ---- the count

  pub count-shown : {answer : Counted} → Counts s answer → answer.count ≡ shown_count s
  count-shown p = ap (λ (x : Counted). x.count) p.answers ∙ rw a refl

  -- ---- D and W

  none-displaced : size_of s ≡ 1 → shown_displacement s ≡ 0
  none-displaced e = let none : worst (size_of s) ≡ 0 = rw e refl in omega (arith, displacement-at-most s a)

  pub squared-shown : (displaced_in (squared_entanglement s) ≡ shown_displacement s)
      × (worst_in (squared_entanglement s) ≡ worst (size_of s))
  unfolding squared_entanglement
  squared-shown = go (eqb (size_of s) 1) refl
    where
      go : (b : Bool) → eqb (size_of s) 1 ≡ b →
          (displaced_in (squared_entanglement s) ≡ shown_displacement s) × (worst_in (squared_entanglement s) ≡ worst (size_of s))
      go true e = let one = eqb-true (size_of s) 1 e in rw (a, e) (sym (none-displaced one), rw one refl)
      go false e = rw (a, e) (refl, refl)

  -- the `E` line of the numbers that the answer has
  pub entangled_shown : {answer : SquaredEntanglement} {third r : ℕ} {out out' : List ℕ} → SquaredEntangles s answer →
      ThirdNumber s third → Puts (entangled_line (displaced_in answer) (worst_in answer) third) out 0 r out' → SaysEntangled s out r out'
  entangled_shown {third = third} p t q = record {
    third = third;
    third_told = t;
    puts = rw (ap displaced_in p.answers ∙ squared-shown.0, ap worst_in p.answers ∙ squared-shown.1) at q;
  }
