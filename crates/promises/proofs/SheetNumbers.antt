-- A number's text reads back as the number, as the digits of Newick text are read; and a leaf's number is spelled there as in a sheet.
use Prim.Native.Nat.{ℕ, ◌+◌, ◌-◌, ◌*◌, ◌/◌, ◌%◌, ◌<◌}
use mathlib.Core.Path.{◌≡◌, refl, ◌∙◌}
use mathlib.Core.List.{List, [], ◌∷◌, ◌++◌}
use native.Mathlib.Decide.{dec_lt}
use native.Mathlib.Omega.{arith}
use borrow.Author.Tests.{lt-ltb, le-ltb}
use Rattle.newick.specs.Sentence.{value_from, value}
use Rattle.newick.specs.Writing as newick
use Rattle.work_text.specs.Decimal.{digits_within, decimal}
use Rattle.work_text.proofs.Decimal.{Written, decimal-true}

-- one digit more
value-more : (ds : List ℕ) (x d : ℕ) → value_from x (ds ++ (d ∷ [])) ≡ 10 * value_from x ds + (d - 48)
unfolding value_from
value-more [] x d = refl
value-more (e ∷ ds) x d = value-more ds (10 * x + (e - 48)) d

pub reads_back : (x : ℕ) → Written x → value (decimal x) ≡ x
unfolding value_from
reads_back =
    decimal-true (λ x ds. value ds ≡ x) (λ x h. omega arith)
    (λ x ds h p. value-more ds 0 (48 + x % 10) ∙ omega arith)

hundredth : (a : ℕ) → a / 10 / 10 ≡ a / 100
hundredth a = omega arith

pub as_in_newick : (a : ℕ) → a < 1000 → newick.decimal a ≡ decimal a
unfolding newick.decimal digits_within decimal
as_in_newick a h = go (dec_lt a 10) (dec_lt a 100)
  where
    go : Dec (a < 10) → Dec (a < 100) → newick.decimal a ≡ decimal a
    go (yes p) q = rw (lt-ltb a 10 p) refl
    go (no p) (yes q) = rw (le-ltb a 10 (omega arith), lt-ltb a 100 q, lt-ltb (a / 10) 10 (omega arith)) refl
    go (no p) (no q) =
        rw (
          le-ltb a 10 (omega arith),
          le-ltb a 100 (omega arith),
          le-ltb (a / 10) 10 (omega arith),
          lt-ltb (a / 10 / 10) 10 (omega arith),
          hundredth a,
        ) refl
