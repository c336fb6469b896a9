-- What the readers answer and note, for what is read by the definitions (`newick/specs/Reading`): none where the text breaks the grammar,
-- and then nothing is said of the notes; else the place after what was read.
use Rattle.std.specs.Prelude.{ℕ, ◌+◌, ◌<◌, ◌≡◌, ◌≢◌, Bool, true, false, cond, List, Option, Some, None, leb, get_or, drop}
use Rattle.newick.specs.Sentence.{value}
use Rattle.newick.specs.Reading.{LengthRead, no_length, length_read, Read, broken, read, digits, past_digits}
use Rattle.work_newick_reading.specs.Text.{Ends}
use Rattle.work_newick_reading.specs.Notes.{Noted}

-- The place behind a byte, if that byte stands at a place.
abbrev pub Behind : List ℕ → ℕ → ℕ → Option ℕ → Type 0
Behind text byte at None = get_or text at 256 ≢ byte
Behind text byte at (Some r) = (get_or text at 256 ≡ byte) × (r ≡ at + 1)

-- A leaf number, if it is at most 512.
unfoldable pub leaf_of : ℕ → Option ℕ
leaf_of v = cond (leb v 512) (Some v) None

-- Digits: where they end, and the leaf number that they say.
pub record DigitsEnd (text : List ℕ) (at end : ℕ) (leaf : Option ℕ) : Type 0 where
  pub ends : Ends text at (past_digits (drop at text)) end
  pub says : leaf ≡ leaf_of (value (digits (drop at text)))

abbrev pub LengthEnds : LengthRead → List ℕ → ℕ → Option ℕ → Type 0
LengthEnds no_length text at None = Unit {0}
LengthEnds no_length text at (Some r) = ⊥
LengthEnds (length_read l rest) text at None = ⊥
LengthEnds (length_read l rest) text at (Some r) = Ends text at rest r

abbrev pub Reads : Read → List ℕ → ℕ → List ℕ → List ℕ → Option ℕ → Type 0
Reads broken text at T T' None = Unit {0}
Reads broken text at T T' (Some r) = ⊥
Reads (read s rest) text at T T' None = ⊥
Reads (read s rest) text at T T' (Some r) = Ends text at rest r × (at < r) × Noted s T T'

-- The whole text: whether it keeps the grammar.
abbrev pub ReadsWhole : Read → List ℕ → List ℕ → Bool → Type 0
ReadsWhole broken T T' r = r ≡ false
ReadsWhole (read s rest) T T' r = (r ≡ true) × Noted s T T'
