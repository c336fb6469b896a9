-- The steps of taking in an order: from what each function found to what it tells.
use Prim.Native.Nat.{ℕ, ◌-◌}
use mathlib.Core.Path.{◌≡◌, refl, sym, ap, ◌∙◌}
use mathlib.Core.Bool.{Bool, true, false, not}
use mathlib.Core.List.{List}
use native.Mathlib.Omega.{arith}
use borrow.Author.Tests.{le-leb}
use lib.ListN.{length, replicate}
use Rattle.tanglegram.specs.Order.{against_pins}
use Rattle.tanglegram.specs.declared.side.Side.{Side}
use Rattle.tanglegram.specs.Table.{layout}
use Rattle.work_matching.specs.Match.{KeepsPins}
use Rattle.record_fields.specs.Meaning.{table_of, layouts_of}
use Rattle.record_fields.specs.Refused.{refused}
use Rattle.record_arrays.specs.Sides.{RecordOver}
use Rattle.record_orders.specs.Proposed.{is_order, shown_layout, OrderRead}
use Rattle.record_orders.proofs.Proposals.{order-within}
use Rattle.calls_take_in.specs.Steps.{OrderTold}

module _ (s : List ℕ) (n : ℕ) (g : RecordOver s n) (side : Side) (xs : List ℕ) where
  abbrev shown : List ℕ
  shown = shown_layout n ((table_of s).tree side) xs

  module _ {lay₀ lay : List ℕ} {answer : Bool} (zeros : lay₀ ≡ replicate (n - 1) 0) (read : OrderRead s n side xs lay₀ answer lay)
      (good : answer ≡ true) where
    is_one : is_order n ((table_of s).tree side) xs ≡ true
    is_one = sym read.tells ∙ good

    -- the layout that was read is the one that the order shows
    pub read-shown : lay ≡ shown
    read-shown = read.writes ∙ rw (le-leb n (length xs) (order-within s n g side xs is_one), zeros) refl

    module _ {pins lay' : List ℕ} {kept : Bool} (present : pins ≡ layout (layouts_of s) side) (keeps : KeepsPins pins lay kept lay') where
      against_kept : against_pins (layout (layouts_of s) side) shown ≡ not kept
      against_kept = rw (← present, ← read-shown) (not-again (against_pins pins lay) keeps.tells)
        where
          not-again : {k : Bool} (b : Bool) → k ≡ not b → b ≡ not k
          not-again true e = rw e refl
          not-again false e = rw e refl

      pub told_0 : kept ≡ true → OrderTold s n side xs (refused 0) lay'
      told_0 e =
          let none = against_kept ∙ ap not e in
          let here : against_pins pins lay ≡ false = rw (present, read-shown) none in
          record {
            told = rw (is_one, none) refl;
            gives = λ z. keeps.writes ∙ rw (here, present, read-shown) refl;
          }

      pub told_23 : kept ≡ false → OrderTold s n side xs (refused 23) lay'
      told_23 e =
          let found = against_kept ∙ ap not e in
          record { told = rw (is_one, found) refl; gives = λ z. absurd (omega (arith, z)) }
