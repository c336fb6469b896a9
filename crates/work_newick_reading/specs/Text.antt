-- Places in a text.
use Rattle.std.specs.Prelude.{ℕ, ◌≤◌, ◌<◌, ◌^◌, ◌≡◌, List, length, drop}

-- A place of a text, or its end; the text is in memory, so that its length is a number of 64 bits.
pub record Place (text : List ℕ) (at : ℕ) : Type 0 where
  pub within : at ≤ length text
  pub in_memory : length text < 2 ^ 64

-- A reader that stood at a place has come to place r, from which `rest` is left.
pub record Ends (text : List ℕ) (at : ℕ) (rest : List ℕ) (r : ℕ) : Type 0 where
  pub ahead : at ≤ r
  pub within : r ≤ length text
  pub left : drop r text ≡ rest
