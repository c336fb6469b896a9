-- The bytes that a word of hexadecimal digits says, two digits for each, and the digits that bytes are written in.
use Rattle.std.specs.Prelude.{ℕ, ◌+◌, ◌*◌, ◌-◌, ◌/◌, ◌%◌, cond, ◌&&◌, List, [], ◌∷◌, leb, ltb, eqb, Option, None, Some}
use Rattle.desk_words.specs.Words.{dash}

-- A hexadecimal digit's value, 0 to 9 or a to f; 16 for any other byte.
unfoldable pub hex_of : ℕ → ℕ
hex_of x = cond (leb 48 x && leb x 57) (x - 48) (cond (leb 97 x && leb x 102) (x - 87) 16)

-- The byte that two hexadecimal digits say.
unfoldable pub byte_in : ℕ → ℕ → Option ℕ
byte_in a b = cond (leb (hex_of a) 15 && leb (hex_of b) 15) (Some (16 * hex_of a + hex_of b)) None

-- An entry in front of others, where there are both.
abbrev pub joined : {A : Type 0} → Option A → Option (List A) → Option (List A)
joined None o = None
joined (Some x) None = None
joined (Some x) (Some xs) = Some (x ∷ xs)

-- The bytes that digits say, two for each; none where one is no digit or stands alone.
unfoldable pub pairs_in : List ℕ → Option (List ℕ)
pairs_in [] = Some []
pairs_in (a ∷ []) = None
pairs_in (a ∷ b ∷ s) = joined (byte_in a b) (pairs_in s)

-- How many bytes a number of digits says; none where it is odd or 0.
unfoldable pub pairs_of : ℕ → Option ℕ
pairs_of n = cond (eqb n 0) None (cond (eqb (n % 2) 1) None (Some (n / 2)))

-- The bytes that a word says: none for a dash, else those of its digits, of which there are some.
unfoldable pub bytes_in : List ℕ → Option (List ℕ)
bytes_in [] = None
bytes_in (x ∷ s) = cond (dash (x ∷ s)) (Some []) (pairs_in (x ∷ s))

-- The digit of a number below 16, as a byte.
unfoldable pub hex_digit : ℕ → ℕ
hex_digit x = cond (ltb x 10) (48 + x) (87 + x)

-- The digits of bytes, two for each, the higher first.
unfoldable pub spelling : List ℕ → List ℕ
spelling [] = []
spelling (x ∷ s) = hex_digit (x / 16) ∷ hex_digit (x % 16) ∷ spelling s
