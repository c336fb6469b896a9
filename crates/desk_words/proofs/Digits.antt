-- Laws of one digit, decimal or hexadecimal, and of the byte that two hexadecimal ones say.
use Rattle.std.proofs.Common.{ℕ, ◌+◌, ◌-◌, ◌*◌, ◌<◌, ◌≤◌, ◌≡◌, Bool, true, false, cond, ◌&&◌, arith, le-leb, leb, refl}
use Rattle.std.proofs.lemmas.Bool.{lt-leb}
use Rattle.std.specs.Prelude.{None, Some}
use Rattle.desk_words.specs.Numbers.{digit_of, within}
use Rattle.desk_words.specs.Bytes.{hex_of, byte_in}
use Rattle.desk_words.proofs.Reading.{within_some, within_none}

pub digit_one : (x : ℕ) → 48 ≤ x → x ≤ 57 → Some (x - 48) ≡ within 9 (digit_of x)
unfolding digit_of within
digit_one x h l = rw (le-leb 48 x h, le-leb x 57 l) (rw (le-leb (x - 48) 9 (omega arith)))

pub digit_low : (x : ℕ) → x < 48 → None ≡ within 9 (digit_of x)
unfolding digit_of within
digit_low x h = rw (lt-leb 48 x h)

pub digit_high : (x : ℕ) → 57 < x → None ≡ within 9 (digit_of x)
unfolding digit_of within
digit_high x h = rw (le-leb 48 x (omega arith), lt-leb x 57 h)

pub hex_number : (x : ℕ) → 48 ≤ x → x ≤ 57 → Some (x - 48) ≡ within 15 (hex_of x)
unfolding hex_of within
hex_number x h l = rw (le-leb 48 x h, le-leb x 57 l) (rw (le-leb (x - 48) 15 (omega arith)))

pub hex_letter : (x : ℕ) → 97 ≤ x → x ≤ 102 → Some (x - 97 + 10) ≡ within 15 (hex_of x)
unfolding hex_of within
hex_letter x h l =
    let e : x - 97 + 10 ≡ x - 87 = omega arith in
    rw (le-leb 48 x (omega arith), lt-leb x 57 (omega arith), le-leb 97 x h, le-leb x 102 l)
    (rw (e, le-leb (x - 87) 15 (omega arith)))

pub hex_low : (x : ℕ) → x < 48 → None ≡ within 15 (hex_of x)
unfolding hex_of within
hex_low x h = rw (lt-leb 48 x h, lt-leb 97 x (omega arith))

pub hex_middle : (x : ℕ) → 57 < x → x < 97 → None ≡ within 15 (hex_of x)
unfolding hex_of within
hex_middle x h l = rw (le-leb 48 x (omega arith), lt-leb x 57 h, lt-leb 97 x l)

pub hex_high : (x : ℕ) → 102 < x → None ≡ within 15 (hex_of x)
unfolding hex_of within
hex_high x h = rw (le-leb 48 x (omega arith), lt-leb x 57 (omega arith), le-leb 97 x (omega arith), lt-leb x 102 h)

-- ---- one byte
pub byte_no_first : (a b : ℕ) → None ≡ within 15 (hex_of a) → None ≡ byte_in a b
unfolding byte_in
byte_no_first a b e = rw (lt-leb (hex_of a) 15 (within_none 15 (hex_of a) e))

both : (b : Bool) {A : Type 0} (x y : A) → y ≡ cond (b && false) x y
both true x y = refl
both false x y = refl

pub byte_no_second : (a b : ℕ) → None ≡ within 15 (hex_of b) → None ≡ byte_in a b
unfolding byte_in
byte_no_second a b e = rw (lt-leb (hex_of b) 15 (within_none 15 (hex_of b) e)) (both (leb (hex_of a) 15) _ _)

pub byte_both : (a b x y : ℕ) → Some x ≡ within 15 (hex_of a) → Some y ≡ within 15 (hex_of b) → Some (16 * x + y) ≡ byte_in a b
unfolding byte_in
byte_both a b x y d e =
    let f = within_some 15 (hex_of a) x d in
    let g = within_some 15 (hex_of b) y e in
    rw (le-leb (hex_of a) 15 f.0, le-leb (hex_of b) 15 g.0) (rw (f.1, g.1))
