-- The number that a word of decimal digits says.
use Rattle.std.specs.Prelude.{ℕ, ◌+◌, ◌*◌, ◌-◌, Bool, true, cond, ◌&&◌, List, [], ◌∷◌, leb, Option, None, Some}

-- A number, if it is at most `most`.
unfoldable pub within : ℕ → ℕ → Option ℕ
within most x = cond (leb x most) (Some x) None

-- A decimal digit's value; 10 for any other byte.
unfoldable pub digit_of : ℕ → ℕ
digit_of x = cond (leb 48 x && leb x 57) (x - 48) 10

-- Each byte is a decimal digit.
unfoldable pub digits : List ℕ → Bool
digits [] = true
digits (x ∷ s) = leb (digit_of x) 9 && digits s

-- The number that digits say, after those before them said x.
unfoldable pub value : ℕ → List ℕ → ℕ
value x [] = x
value x (d ∷ s) = value (10 * x + digit_of d) s

-- The number that one or more digits say, if it is at most `most`.
unfoldable pub number_in : ℕ → List ℕ → Option ℕ
number_in most [] = None
number_in most (d ∷ s) = let x = value 0 (d ∷ s) in cond (digits (d ∷ s) && leb x most) (Some x) None
