-- What pinning a row, or unpinning it, answers, and what the lent record is afterwards, for every input.
use Rattle.std.specs.Prelude.{ℕ, ◌≡◌, Bool, cond, List}
use Rattle.tanglegram.specs.Order.{pin_row}
use Rattle.tanglegram.specs.Table.{Layouts, layout, put}
use Rattle.record_fields.specs.Refused.{NumberAndRow, accepted}
use Rattle.record_fields.specs.Told.{told_of}
use Rattle.record_fields.specs.Meaning.{layouts_of, relaid}
use Rattle.record_arrays.specs.Sides.{side_of}
use Rattle.calls_pins.specs.Refusals.{pin_refusal}

-- The layouts of a record with that row of that side pinned, or unpinned.
abbrev pub pinned_layouts : List ℕ → ℕ → ℕ → Bool → Layouts
pinned_layouts s side row pinned =
    let at = layouts_of s in
    put (side_of side) (pin_row pinned (layout at (side_of side)) row) at

pub record Pins (s : List ℕ) (side row : ℕ) (pinned : Bool) (answer : NumberAndRow) (s' : List ℕ) : Type 0 where
  pub answers : answer ≡ told_of s (pin_refusal s side row)
  pub afterwards : s' ≡ cond (accepted (pin_refusal s side row)) (relaid s (pinned_layouts s side row pinned)) s
