-- What a function does that puts text into lent memory.
use Rattle.std.specs.Prelude.{ℕ, ◌+◌, ◌≤◌, ◌≡◌, List, length}
use Rattle.std.proofs.lemmas.List.Edits.{sets}

-- It writes the text from place `at` on, within the memory, answers the place after it, and keeps every other byte.
pub record Puts (text out : List ℕ) (at answer : ℕ) (out' : List ℕ) : Type 0 where
  pub ends : answer ≡ at + length text
  pub within : answer ≤ length out
  pub writes : out' ≡ sets out at text
