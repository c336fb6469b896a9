-- Laws of decimal text: no 0 stands in front but 0's own, each byte is a digit, how long it is; and the kit's digits, the fewest that hold
-- a number, are its decimal text. That it reads back as the number is said where the number of digits is defined, by Newick text
-- (`promises/proofs/SheetNumbers`), by `decimal-true`.
use Prim.Native.Nat.{ℕ, zero, suc, ◌+◌, ◌-◌, ◌/◌, ◌%◌, ◌^◌, ◌≤◌, ◌<◌}
use mathlib.Core.Path.{◌≡◌, refl, sym, ap, ◌∙◌}
use mathlib.Core.Logic.{◌≢◌}
use mathlib.Core.Bool.{Bool, true, false, cond}
use mathlib.Core.List.{List, [], ◌∷◌, ◌++◌}
use native.Mathlib.Decide.{dec_lt}
use native.Mathlib.Nat.{pow-suc, one-le-pow, pow-le-pow_right}
use native.Mathlib.Omega.{arith}
use borrow.Author.Tests.{ltb-true, ltb-false, lt-ltb, le-ltb}
use lib.Dec.{ltb}
use lib.ListN.{length, get_or, length-append, get_or-append}
use Rattle.io.specs.Digits.{last_digits, IsDigitCount, hex_digit_ascii}
use Rattle.tanglegram.specs.Lists.{Each}
use Rattle.tanglegram.proofs.Lists.{each_append}
use Rattle.work_text.specs.Decimal.{digits_within, decimal}

-- ---- one digit, or the digits of the tenth part and the last one

module _ (most x : ℕ) where
  one_digit : x < 10 → digits_within (suc most) x ≡ (48 + x) ∷ []
  unfolding digits_within
  one_digit h = ap (λ b. cond b ((48 + x) ∷ []) (digits_within most (x / 10) ++ ((48 + x % 10) ∷ []))) (lt-ltb x 10 h)

  more-digits : 10 ≤ x → digits_within (suc most) x ≡ digits_within most (x / 10) ++ ((48 + x % 10) ∷ [])
  unfolding digits_within
  more-digits h = ap (λ b. cond b ((48 + x) ∷ []) (digits_within most (x / 10) ++ ((48 + x % 10) ∷ []))) (le-ltb x 10 h)

-- a number below 10 to the n + 1 has a tenth part below 10 to the n
tenth : (n x : ℕ) → x < 10 ^ suc n → x / 10 < 10 ^ n
tenth n x h = omega (arith, pow-suc 10 n)

-- What is true of the digits of every number, if it is of one digit, and with one digit more.
digits-true : (P : ℕ → List ℕ → Type 0) → ((x : ℕ) → x < 10 → P x ((48 + x) ∷ [])) →
    ((x : ℕ) (ds : List ℕ) → 10 ≤ x → P (x / 10) ds → P x (ds ++ ((48 + x % 10) ∷ []))) →
    (most x : ℕ) → x < 10 ^ suc most → P x (digits_within (suc most) x)
digits-true P one more zero x h = let below : x < 10 = omega (arith, pow-suc 10 0) in rw (one_digit 0 x below) (one x below)
digits-true P one more (suc most) x h = go (ltb x 10) refl (digits-true P one more most (x / 10) (tenth (suc most) x h))
  where
    go : (b : Bool) → ltb x 10 ≡ b → P (x / 10) (digits_within (suc most) (x / 10)) → P x (digits_within (suc (suc most)) x)
    go true e p = let below = ltb-true x 10 e in rw (one_digit (suc most) x below) (one x below)
    go false e p =
        let above = ltb-false x 10 e in
        rw (more-digits (suc most) x above) (more x (digits_within (suc most) (x / 10)) above p)

-- the numbers that have a decimal text: all of 64 bits are among them
abbrev pub Written : ℕ → Type 0
Written x = x < 10 ^ 20

pub decimal-true : (P : ℕ → List ℕ → Type 0) → ((x : ℕ) → x < 10 → P x ((48 + x) ∷ [])) →
    ((x : ℕ) (ds : List ℕ) → 10 ≤ x → P (x / 10) ds → P x (ds ++ ((48 + x % 10) ∷ []))) → (x : ℕ) → Written x → P x (decimal x)
unfolding decimal
decimal-true P one more x h = digits-true P one more 19 x h

-- ---- it begins with no 0 but 0's own

pub zero_alone : decimal 0 ≡ 48 ∷ []
unfolding decimal
zero_alone = one_digit 19 0 (omega arith)

-- some digit, and the first is not 0
Headed : ℕ → List ℕ → Type 0
Headed x ds = (1 ≤ length ds) × (x ≢ 0 → get_or ds 0 0 ≢ 48)

pub no_zero_first : (x : ℕ) → Written x → x ≢ 0 → get_or (decimal x) 0 0 ≢ 48
unfolding Headed
no_zero_first x w = (decimal-true Headed (λ x h. (omega arith, λ p e. p (omega arith))) more x w).1
  where
    more : (x : ℕ) (ds : List ℕ) → 10 ≤ x → Headed (x / 10) ds → Headed x (ds ++ ((48 + x % 10) ∷ []))
    more x ds h p = (
      simp length-append (omega (arith, p.0)),
      λ q e. p.1 (λ z. omega arith) (sym (get_or-append ds ((48 + x % 10) ∷ []) 0 0 (omega (arith, p.0))) ∙ e),
    )

-- ---- each byte is a digit

pub each_digit : (x : ℕ) → Written x → Each (λ d. (48 ≤ d) × (d ≤ 57)) (decimal x)
each_digit =
    decimal-true (λ x ds. Each (λ d. (48 ≤ d) × (d ≤ 57)) ds) (λ x h. ((omega arith, omega arith), tt))
    (λ x ds h p. each_append (λ d. (48 ≤ d) × (d ≤ 57)) ds _ p ((omega arith, omega arith), tt))

-- ---- how long it is

-- a number that n + 1 digits hold has no more; one that n digits don't hold has more
pub length_most : (n x : ℕ) → Written x → x < 10 ^ suc n → length (decimal x) ≤ suc n
length_most n x w h = decimal-true (λ x ds. (n : ℕ) → x < 10 ^ suc n → length ds ≤ suc n) (λ x _ n _. omega arith) more x w n h
  where
    more : (x : ℕ) (ds : List ℕ) → 10 ≤ x → ((n : ℕ) → x / 10 < 10 ^ suc n → length ds ≤ suc n) → (n : ℕ) → x < 10 ^ suc n →
        length (ds ++ ((48 + x % 10) ∷ [])) ≤ suc n
    more x ds a p zero h = absurd (omega (arith, pow-suc 10 0))
    more x ds a p (suc n) h = simp length-append (omega (arith, p n (tenth (suc n) x h)))

pub length-least : (n x : ℕ) → Written x → 10 ^ n ≤ x → n < length (decimal x)
length-least n x w h = decimal-true (λ x ds. (n : ℕ) → 10 ^ n ≤ x → n < length ds) one more x w n h
  where
    one : (x : ℕ) → x < 10 → (n : ℕ) → 10 ^ n ≤ x → n < 1
    one x a zero h = omega arith
    one x a (suc n) h = absurd (omega (arith, pow-suc 10 n, one-le-pow n 10 (omega arith)))

    more : (x : ℕ) (ds : List ℕ) → 10 ≤ x → ((n : ℕ) → 10 ^ n ≤ x / 10 → n < length ds) → (n : ℕ) → 10 ^ n ≤ x →
        n < length (ds ++ ((48 + x % 10) ∷ []))
    more x ds a p zero h = simp length-append (omega arith)
    more x ds a p (suc n) h = simp length-append (omega (arith, p n (omega (arith, pow-suc 10 n))))

-- ---- the kit's digits are it

less_one : (k : ℕ) → suc k - 1 ≡ k
less_one k = omega arith

fewest_tenth : (k x : ℕ) → IsDigitCount 10 1 x (suc (suc k)) → IsDigitCount 10 1 (x / 10) (suc k)
fewest_tenth k x f =
    let least : 10 ^ suc k ≤ x = rw (less_one (suc k)) at (f.2 (omega arith)) in
    (omega arith, tenth (suc k) x f.1, λ h. rw (less_one k) (omega (arith, pow-suc 10 k)))

digit_glyph : (x : ℕ) → x < 10 → hex_digit_ascii x ≡ 48 + x
digit_glyph x h = rw (lt-ltb x 10 h) refl

fewest-within : (most k x : ℕ) → k ≤ most → IsDigitCount 10 1 x k → last_digits 10 k x ≡ digits_within most x
fewest-within most zero x h f = absurd (omega (arith, f.0))
fewest-within zero (suc k) x h f = absurd (omega arith)
fewest-within (suc most) (suc zero) x h f =
    let below : x < 10 = omega (arith, f.1, pow-suc 10 0) in
    let same : x % 10 ≡ x = omega arith in
    ap (λ d. d ∷ []) (ap hex_digit_ascii same ∙ digit_glyph x below) ∙ sym (one_digit most x below)
fewest-within (suc most) (suc (suc k)) x h f =
    let least : 10 ^ suc k ≤ x = rw (less_one (suc k)) at (f.2 (omega arith)) in
    let above : 10 ≤ x = omega (arith, pow-suc 10 k, one-le-pow k 10 (omega arith)) in
    let tenths : last_digits 10 (suc k) (x / 10) ≡ digits_within most (x / 10) =
    fewest-within most (suc k) (x / 10) (omega arith) (fewest_tenth k x f) in
    ap (λ ds. ds ++ (hex_digit_ascii (x % 10) ∷ [])) tenths
    ∙ ap (λ d. digits_within most (x / 10) ++ (d ∷ [])) (digit_glyph (x % 10) (omega arith))
    ∙ sym (more-digits most x above)

fewest-few : (k x : ℕ) → Written x → IsDigitCount 10 1 x (suc k) → k < 20
fewest-few k x w f = go (dec_lt k 20)
  where
    go : Dec (k < 20) → k < 20
    go (yes h) = h
    go (no h) =
        let least : 10 ^ k ≤ x = rw (less_one k) at (f.2 (omega arith)) in
        absurd (omega (arith, pow-le-pow_right {n = 10} (omega arith) {i = 20} {j = k} (omega arith)))

pub fewest-decimal : (k x : ℕ) → Written x → IsDigitCount 10 1 x k → last_digits 10 k x ≡ decimal x
unfolding decimal
fewest-decimal zero x w f = absurd (omega (arith, f.0))
fewest-decimal (suc k) x w f = fewest-within 20 (suc k) x (omega (arith, fewest-few k x w f)) f
