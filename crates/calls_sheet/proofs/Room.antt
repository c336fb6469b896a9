-- How much room lines take: those whose numbers have 32 bits, and those of an order.
use Prim.Native.Nat.{ℕ, zero, suc, ◌+◌, ◌-◌, ◌*◌, ◌^◌, ◌≤◌, ◌<◌}
use mathlib.Core.Path.{◌≡◌, refl, ◌∙◌}
use mathlib.Core.List.{List, [], ◌∷◌, Permᴰ}
use native.Mathlib.Decide.{dec_lt}
use native.Mathlib.Nat.{pow-le-pow_right}
use native.Mathlib.Numerals.{add-one}
use native.Mathlib.Omega.{arith}
use lib.ListN.{length, length-append}
use Rattle.tanglegram.specs.Lists.{Each, range}
use Rattle.tanglegram.specs.Entanglement.{sum}
use Rattle.tanglegram.proofs.Lists.{all-length}
use Rattle.tanglegram.proofs.ListSums.{sum-last, sum-perm}
use Rattle.work_text.specs.Decimal.{decimal}
use Rattle.work_text.specs.Lines.{next, spaced, line}
use Rattle.work_text.proofs.Decimal.{length_most}
use Rattle.work_text.proofs.Spaced.{line-length}
use Rattle.calls_sheet.specs.Lines.{order_line}

abbrev pub Of32 : ℕ → Type 0
Of32 x = x < 4294967296

pub next-most : (x : ℕ) → Of32 x → length (next x) ≤ 11
next-most x h = omega (arith, length_most 9 x (omega arith) (omega arith))

spaced-most : (xs : List ℕ) → Each Of32 xs → length (spaced xs) ≤ 11 * length xs
unfolding spaced
spaced-most [] p = omega arith
spaced-most (x ∷ xs) p = omega (arith, length-append (next x) (spaced xs), next-most x p.0, spaced-most xs p.1)

pub line-most : (first xs : List ℕ) → Each Of32 xs → length (line first xs) ≤ length first + 11 * length xs + 1
line-most first xs p = omega (arith, line-length first xs, spaced-most xs p)

-- the room for a line of one number
pub line-room : (at room : ℕ) (first : List ℕ) (x : ℕ) → Of32 x → at + (length first + 12) ≤ room →
    at + length (line first (x ∷ [])) ≤ room
line-room at room first x h enough = omega (arith, line-most first (x ∷ []) (h, tt))

-- ---- an order's line

digits_of : ℕ → ℕ
digits_of a = length (decimal a)

digits-most : (n a : ℕ) → a < 10 ^ suc n → n < 20 → digits_of a ≤ suc n
unfolding digits_of
digits-most n a h few = length_most n a (omega (arith, pow-le-pow_right {n = 10} (omega arith) {i = suc n} {j = 20} (omega arith))) h

spaced-digits : (xs : List ℕ) → length (spaced xs) ≡ length xs + sum digits_of xs
unfolding spaced sum digits_of
spaced-digits [] = refl
spaced-digits (x ∷ xs) = length-append (next x) (spaced xs) ∙ omega (arith, spaced-digits xs)

-- one number more: it has one digit, one more above 9, and one more above 99
one_more : (n : ℕ) → n < 999 → digits_of (suc n) + (n - 9) + (n - 99) ≤ 1 + (suc n - 9) + (suc n - 99)
one_more n h = go (dec_lt (suc n) 10) (dec_lt (suc n) 100)
  where
    go : Dec (suc n < 10) → Dec (suc n < 100) → digits_of (suc n) + (n - 9) + (n - 99) ≤ 1 + (suc n - 9) + (suc n - 99)
    go (yes a) b = omega (arith, digits-most 0 (suc n) (omega arith) (omega arith))
    go (no a) (yes b) = omega (arith, digits-most 1 (suc n) (omega arith) (omega arith))
    go (no a) (no b) = omega (arith, digits-most 2 (suc n) (omega arith) (omega arith))

digits_sum : (n : ℕ) → n < 1000 → sum digits_of (range 1 n) ≤ n + (n - 9) + (n - 99)
unfolding sum range
digits_sum zero h = omega arith
digits_sum (suc n) h =
    omega (arith, rw (add-one n) at (sum-last digits_of n), one_more n (omega arith), digits_sum n (omega arith))

pub order-most : (letter n : ℕ) (xs : List ℕ) → n ≤ 512 → Permᴰ xs (range 1 n) → length (order_line letter xs) ≤ 1942
order-most letter n xs h d =
    let digits = sum-perm digits_of d in
    omega (arith, line-length (letter ∷ []) xs, spaced-digits xs, all-length n xs d, digits_sum n (omega arith))
