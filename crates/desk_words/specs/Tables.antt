-- The signed 32-bit numbers that a word says with commas between: decimal digits, with a dash before them where the number is
-- below zero. What goes beyond 32 bits is no number.
use Rattle.std.specs.Prelude.{ℕ, cond, List, [], ◌∷◌, eqb, ℤ, pos, neg_ℤ, Option, None, option_map}
use Rattle.desk_words.specs.Numbers.{number_in}
use Rattle.desk_words.specs.Lists.{entries_in}

-- The number as far below zero as n is above it.
abbrev pub minus : ℕ → ℤ
minus n = neg_ℤ (pos n)

-- The largest number of 32 bits.
abbrev pub largest : ℕ
largest = 2147483647

-- How far the least number of 32 bits is below zero.
abbrev pub lowest : ℕ
lowest = 2147483648

-- The signed number that a word says: behind a dash one of at most `lowest`, below zero, else one of at most `largest`.
unfoldable pub signed_in : List ℕ → Option ℤ
signed_in [] = None
signed_in (x ∷ s) = cond (eqb x 45) (option_map minus (number_in lowest s)) (option_map pos (number_in largest (x ∷ s)))

-- The list of signed numbers that a word says.
unfoldable pub table_in : List ℕ → Option (List ℤ)
table_in word = entries_in signed_in word
