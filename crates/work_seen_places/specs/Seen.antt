-- Seen places: one bit for each of 512 places, in eight words of 64 bits.
use Rattle.std.specs.Prelude.{ℕ, zero, suc, ◌-◌, ◌/◌, ◌%◌, ◌^◌, Bool, true, ◌&&◌, List, [], ◌∷◌, eqb, ltb, get_or, set}
use Rattle.std.specs.Int.Bits.{bit_or}
use Rattle.tanglegram.specs.Entanglement.{sum}
use Rattle.tanglegram.specs.Lists.{range, bit}

-- The digit of a word at i, 0 or 1.
unfoldable pub digit : ℕ → ℕ → ℕ
digit x i = x / 2 ^ i % 2

-- The lowest j digits of a word are ones.
abbrev pub low_ones : ℕ → ℕ → Bool
low_ones x j = eqb (x % 2 ^ j) (2 ^ j - 1)

-- 1 if place q is marked, else 0.
unfoldable pub marked : List ℕ → ℕ → ℕ
marked w q = digit (get_or w (q / 64) 0) (q % 64)

-- Place q is marked.
abbrev pub is_marked : List ℕ → ℕ → Bool
is_marked w q = eqb (marked w q) 1

-- Each place before n is marked.
unfoldable pub all_before : List ℕ → ℕ → Bool
all_before w zero = true
all_before w (suc q) = all_before w q && is_marked w q

-- The words with place p marked too.
unfoldable pub mark_at : List ℕ → ℕ → List ℕ
mark_at w p = set w (p / 64) (bit_or (get_or w (p / 64) 0) (2 ^ (p % 64)))

-- The words with each of the places ps marked too.
unfoldable pub mark_all : List ℕ → List ℕ → List ℕ
mark_all w [] = w
mark_all w (p ∷ ps) = mark_all (mark_at w p) ps

-- How many places past p are marked, up to place 511.
unfoldable pub past : List ℕ → ℕ → ℕ
past w p = sum (marked w) (range (suc p) (511 - p))

-- How many of the places ps are past p.
unfoldable pub above : ℕ → List ℕ → ℕ
above p ps = sum (λ q. bit (ltb p q)) ps
