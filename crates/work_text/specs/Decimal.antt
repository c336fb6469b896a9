-- A number's decimal text: the bytes of its digits, the highest first and none too many.
use Rattle.std.specs.Prelude.{ℕ, zero, suc, ◌+◌, ◌/◌, ◌%◌, cond, List, [], ◌∷◌, ◌++◌, ltb}

-- The digits of x, which has at most `most` of them: below 10 its own digit, else those of its tenth part, and then the last one.
unfoldable pub digits_within : ℕ → ℕ → List ℕ
digits_within zero x = []
digits_within (suc most) x =
    let tenths = digits_within most (x / 10) in
    cond (ltb x 10) ((48 + x) ∷ []) (tenths ++ ((48 + x % 10) ∷ []))

-- The text of x. A number of 64 bits has at most twenty digits.
unfoldable pub decimal : ℕ → List ℕ
unfolding digits_within
decimal x = digits_within 20 x
