-- Laws of lists of numbers that are the numbers themselves.
use Rattle.std.proofs.Common.{ℕ, ◌<◌, ◌≡◌, List, [], ◌∷◌, zero, suc, length, get_or, refl, arith}

pub same_length : (xs : List ℕ) → length xs ≡ length xs
same_length xs = refl

pub same_read : (xs : List ℕ) (i d : ℕ) → i < length xs → get_or xs i 0 ≡ get_or xs i d
same_read [] i d h = absurd (omega arith)
same_read (x ∷ xs) zero d h = refl
same_read (x ∷ xs) (suc i) d h = same_read xs i d (omega (arith, h))
