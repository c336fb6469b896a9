-- One row of a record, by its side and its number: whether there is such a row, and its layout byte.
use Rattle.std.specs.Prelude.{ℕ, pred, ◌-◌, Bool, ◌||◌, List, eqb, ltb, set}
use Rattle.tanglegram.specs.Order.{byte}
use Rattle.tanglegram.specs.declared.side.Side.{Side}
use Rattle.tanglegram.specs.Table.{Layouts, layout, put}
use Rattle.record_fields.specs.Meaning.{layouts_of}

-- Row 0, or one above n - 1: there is none.
unfoldable pub no_row : ℕ → ℕ → Bool
no_row n row = eqb row 0 || ltb (n - 1) row

-- The byte of a side's row.
abbrev pub row_byte : List ℕ → Side → ℕ → ℕ
row_byte s side row = byte (layout (layouts_of s) side) row

-- Layouts with the byte x at a side's row, and every other byte as it was.
abbrev pub with_byte : Side → ℕ → ℕ → Layouts → Layouts
with_byte side row x at = put side (set (layout at side) (pred row) x) at
