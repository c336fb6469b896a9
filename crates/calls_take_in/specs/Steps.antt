-- The steps of taking in an order: what each of its functions tells, and what it leaves in the bytes lent to it.
use Rattle.std.specs.Prelude.{ℕ, ◌≡◌, not, List}
use Rattle.tanglegram.specs.Order.{against_pins, pinned_as}
use Rattle.tanglegram.specs.declared.side.Side.{Side}
use Rattle.tanglegram.specs.Table.{layout, put, crossings, free}
use Rattle.record_fields.specs.Refusals.{◌when◌else◌}
use Rattle.record_fields.specs.Refused.{NumberAndRow, refused}
use Rattle.record_fields.specs.Meaning.{table_of, layouts_of}
use Rattle.record_orders.specs.Proposed.{is_order, shown_layout}

-- Of an accepted record over n leaves: 16, 23 or 0, and with 0 the bytes that give the order.
pub record OrderTold (s : List ℕ) (n : ℕ) (side : Side) (xs : List ℕ) (answer : NumberAndRow) (lay : List ℕ) : Type 0 where
  pub told : answer ≡ refused
      (16 when not (is_order n ((table_of s).tree side) xs)
      else 23 when against_pins (layout (layouts_of s) side) (shown_layout n ((table_of s).tree side) xs)
      else 0)
  pub gives : answer.number ≡ 0 → lay ≡ pinned_as (layout (layouts_of s) side) (shown_layout n ((table_of s).tree side) xs)

-- The count with the layout lay on a side, and the count that freeing it would leave.
pub record Weighed (s : List ℕ) (side : Side) (lay : List ℕ) (before after : ℕ) : Type 0 where
  pub counted : before ≡ crossings (table_of s) (put side lay (layouts_of s))
  pub freed : after ≡ crossings (table_of s) (free (table_of s) side (put side lay (layouts_of s)))
