-- Sides as numbers (`tanglegram`), which sides a hold holds, and where a side's parts stand in a record.
use Rattle.std.specs.Prelude.{ℕ}
use Rattle.tanglegram.specs.declared.side.Side.{Side}
use Rattle.tanglegram.specs.declared.side.Side.TheVariants.{Left as left, Right as right}
use Rattle.record_fields.specs.Fields.{right_at, left_layout_at, right_layout_at}
pub use Rattle.record_fields.specs.Refusals.{RecordOver}
unfoldable pub use Rattle.record_fields.specs.Holds.{holds}
unfoldable pub use Rattle.tanglegram.specs.Sides.{is_side}
pub use Rattle.tanglegram.specs.Sides.{side_of}

-- Where a side's rows and its layout begin.
abbrev pub rows_at : ℕ → Side → ℕ
rows_at n left = 8
rows_at n right = right_at n

abbrev pub layout_at : ℕ → Side → ℕ
layout_at n left = left_layout_at n
layout_at n right = right_layout_at n
