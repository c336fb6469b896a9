-- The ones of a word are the sum of its digits, and the marked places from a place on are those of one word after the other.
use Prim.Native.Nat.{ℕ, zero, suc, ◌+◌, ◌-◌, ◌*◌, ◌/◌, ◌%◌, ◌^◌, ◌≤◌, ◌<◌}
use mathlib.Core.Path.{◌≡◌, refl, sym, ap, ap₂, ◌∙◌, subst}
use mathlib.Core.List.{List}
use native.Mathlib.Nat.{zero-add, add-zero, add-suc, one-mul, mod-eq_of_lt}
use native.Mathlib.Numerals.{add-one}
use native.Mathlib.Omega.{arith}
use lib.Arith.{lt-one}
use lib.Count.{ones, ones_in, ones_step}
use lib.Pow.{shr_lt, shr-shr, pow-lt}
use lib.ListN.{get_or}
use Rattle.tanglegram.specs.Lists.{range}
use Rattle.tanglegram.specs.Entanglement.{sum}
use Rattle.work_seen_places.specs.Seen.{digit, marked}
use Rattle.tanglegram.proofs.ListSums.{range-append, sum-append}

-- ---- one word

-- the ones from digit j on
ones-sum : (d j x : ℕ) → x < 2 ^ (j + d) → ones (x / 2 ^ j) ≡ sum (digit x) (range j d)
unfolding sum range digit ones ones_in
ones-sum zero j x h = ap ones (lt-one (shr_lt 0 j (rw zero-add (rw add-zero at h))))
ones-sum (suc d) j x h =
    ones_step (x / 2 ^ j)
    ∙ ap (λ (y : ℕ). x / 2 ^ j % 2 + ones y) (shr-shr x j 1 ∙ ap (λ (y : ℕ). x / 2 ^ y) (add-one j))
    ∙ ap (λ (y : ℕ). x / 2 ^ j % 2 + y) (ones-sum d (suc j) x (subst (λ (y : ℕ). x < 2 ^ y) (omega arith) h))

pub word_ones : (x : ℕ) → x < 2 ^ 64 → ones x ≡ sum (digit x) (range 0 64)
word_ones x h = let e : x ≡ x / 2 ^ 0 = omega arith in ap ones e ∙ ones-sum 64 0 x h

pub word_after : (x j : ℕ) → x < 2 ^ 64 → j < 64 → ones (x / 2 ^ j / 2) ≡ sum (digit x) (range (suc j) (63 - j))
word_after x j h l =
    let all : 64 ≡ suc j + (63 - j) = omega arith in
    ap ones (shr-shr x j 1 ∙ ap (λ (y : ℕ). x / 2 ^ y) (add-one j))
    ∙ ones-sum (63 - j) (suc j) x (subst (λ (n : ℕ). x < 2 ^ n) all h)

-- `1 << j`
pub one_shl : (j : ℕ) → j < 64 → 1 * 2 ^ j % 2 ^ 64 ≡ 2 ^ j
one_shl j h = rw one-mul (mod-eq_of_lt (pow-lt h))

-- ---- the words

pub marked-at : (w : List ℕ) (i j : ℕ) → j < 64 → marked w (64 * i + j) ≡ digit (get_or w i 0) j
unfolding marked
marked-at w i j h =
    let q : (64 * i + j) / 64 ≡ i = omega arith in let r : (64 * i + j) % 64 ≡ j = omega arith in rw (q, r)

-- the digits of word i from j on
word : (w : List ℕ) (i j d : ℕ) → j + d ≤ 64 → sum (marked w) (range (64 * i + j) d) ≡ sum (digit (get_or w i 0)) (range j d)
unfolding sum range
word w i j zero h = refl
word w i j (suc d) h =
    ap₂ (λ (x y : ℕ). x + y) (marked-at w i j (omega arith))
    (ap (λ (n : ℕ). sum (marked w) (range n d)) (sym (add-suc (64 * i) j)) ∙ word w i (suc j) d (omega arith))

-- what stands past p in its own word
pub first_word : (w : List ℕ) (p : ℕ) →
    sum (digit (get_or w (p / 64) 0)) (range (suc (p % 64)) (63 - p % 64)) ≡ sum (marked w) (range (suc p) (64 * (p / 64 + 1) - suc p))
first_word w p =
    let from : 64 * (p / 64) + suc (p % 64) ≡ suc p = omega arith in
    let d : 63 - p % 64 ≡ 64 * (p / 64 + 1) - suc p = omega arith in
    sym (word w (p / 64) (suc (p % 64)) (63 - p % 64) (omega arith)) ∙ ap₂ (λ (a d : ℕ). sum (marked w) (range a d)) from d

-- one word more
pub next : (w : List ℕ) (p i n m : ℕ) → p < 64 * i → n ≡ sum (marked w) (range (suc p) (64 * i - suc p)) →
    m ≡ sum (digit (get_or w i 0)) (range 0 64) → n + m ≡ sum (marked w) (range (suc p) (64 * (i + 1) - suc p))
next w p i n m l e f =
    let from : 64 * i + 0 ≡ suc p + (64 * i - suc p) = omega arith in
    let d : 64 * i - suc p + 64 ≡ 64 * (i + 1) - suc p = omega arith in
    ap₂ (λ (x y : ℕ). x + y) e (f ∙ sym (word w i 0 64 (omega arith)) ∙ ap (λ (a : ℕ). sum (marked w) (range a 64)) from)
    ∙ sym (sum-append (marked w) (range (suc p) (64 * i - suc p)) (range (suc p + (64 * i - suc p)) 64))
    ∙ ap (sum (marked w)) (sym (range-append (suc p) (64 * i - suc p) 64))
    ∙ ap (λ (d : ℕ). sum (marked w) (range (suc p) d)) d
