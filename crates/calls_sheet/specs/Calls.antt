-- What asking for a line of a sheet answers, and what was lent to it is afterwards, for every input.
use Rattle.std.specs.Prelude.{ℕ, ◌≤◌, ◌≡◌, List, ◌++◌, length, drop}
use Rattle.calls_sheet.specs.Sheet.{ThirdNumber, line_text, after_line}

-- The most bytes of a line: an order of 512 leaves.
abbrev pub most_bytes : ℕ
most_bytes = 1942

-- The answer is how many bytes line k has, none if there is no such line; they stand in the memory's first places, and beyond it is as
-- found. The record is run by line 6, and kept by every other.
pub record SaysLine (s : List ℕ) (k : ℕ) (out : List ℕ) (answer : ℕ) (out' s' : List ℕ) : Type 0 where
  pub third : ℕ
  pub third_told : k ≡ 5 → ThirdNumber s third
  pub answers : answer ≡ length (line_text s third k)
  pub within : answer ≤ most_bytes
  pub writes : out' ≡ line_text s third k ++ drop answer out
  pub leaves : s' ≡ after_line s k
