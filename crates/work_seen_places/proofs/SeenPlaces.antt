-- The marked places past a place are the seen ones past it: marking a place that is not yet marked adds one to the count past
-- each place before it, and so the words that stand for a list of different places count those of the list.
use Prim.Native.Nat.{ℕ, zero, suc, pred, suc-le-suc, ◌+◌, ◌-◌, ◌/◌, ◌%◌, ◌^◌, ◌≤◌, ◌<◌, max}
use mathlib.Core.Path.{◌≡◌, refl, sym, ap, ap₂, ◌∙◌, subst}
use mathlib.Core.Bool.{Bool, true, false, ◌||◌, or-false}
use mathlib.Core.List.{List, [], ◌∷◌, ◌++◌}
use mathlib.Core.Logic.{⊎_elim, ◌≢◌}
use native.Mathlib.Nat.{zero-add, add-zero, eq-or-lt_of_le, max-zero, zero-max, max-le, zero-div, mul-mod_left, pow-suc}
use native.Mathlib.Decide.{ℕ_discrete}
use native.Mathlib.Omega.{arith}
use lib.Arith.{lt-one, digits_mod}
use lib.Bits.{bit_or, or_shr, or_step}
use lib.Dec.{eqb, ltb}
use lib.Pow.{pow-lt, pow-add, shl-shr, shr_lt}
use lib.ListN.{get_or, set, length, replicate, length-set}
use lib.Seq.{get_or-set_same, get_or-set_other}
use borrow.Author.Tests.{eq-eqb, ne_eqb, ltb-true, ltb-false, eqb-true, eqb-false}
use Rattle.tanglegram.specs.Lists.{Each, Distinct, range, bit}
use Rattle.tanglegram.specs.Entanglement.{sum}
use Rattle.tanglegram.proofs.Lists.{each_zip, each_all, range-each, length-range}
use Rattle.work_seen_places.specs.Seen.{digit, marked, is_marked, mark_at, mark_all, past, above}
use Rattle.tanglegram.proofs.ListSums.{sum_ext, sum_add, sum-zero, sum-most}

-- 1 if q is x
abbrev is : ℕ → ℕ → ℕ
is x q = bit (eqb x q)

is_same : (x : ℕ) → is x x ≡ 1
is_same x = rw (eq-eqb x x refl) refl

is-other : (x q : ℕ) → x ≢ q → is x q ≡ 0
is-other x q h = rw (ne_eqb x q h) refl

-- ---- a digit of a word with one more

two-max : (x y : ℕ) → max (x % 2) (y % 2) < 2
two-max x y = let h : x % 2 ≤ 1 = omega arith in let k : y % 2 ≤ 1 = omega arith in suc-le-suc (max-le h k)

digit_or : (a b i : ℕ) → digit (bit_or a b) i ≡ max (digit a i) (digit b i)
unfolding digit
digit_or a b i =
    ap (λ (x : ℕ). x % 2) (or_shr a b i ∙ or_step (a / 2 ^ i) (b / 2 ^ i))
    ∙ digits_mod (bit_or (a / 2 ^ i / 2) (b / 2 ^ i / 2)) (two-max (a / 2 ^ i) (b / 2 ^ i))

digit_low : (i d : ℕ) → digit (2 ^ (d + i)) i ≡ 2 ^ d % 2
unfolding digit
digit_low i d = ap (λ (x : ℕ). x % 2) (ap (λ (x : ℕ). x / 2 ^ i) (pow-add 2 d i) ∙ shl-shr (2 ^ d) i)

digit_high : (j i : ℕ) → j < i → digit (2 ^ j) i ≡ 0
unfolding digit
digit_high j i h = ap (λ (x : ℕ). x % 2) (lt-one (shr_lt 0 i (subst (λ (n : ℕ). 2 ^ j < 2 ^ n) (sym (zero-add i)) (pow-lt h))))

even : (d : ℕ) → 2 ^ suc d % 2 ≡ 0
even d = ap (λ (x : ℕ). x % 2) (pow-suc 2 d) ∙ mul-mod_left (2 ^ d) 2

-- the digits of 2 ^ j
digit_pow : (j i : ℕ) → digit (2 ^ j) i ≡ is j i
digit_pow j i = go (ltb j i) refl
  where
    low : i ≤ j → digit (2 ^ j) i ≡ is j i
    low h = ⊎_elim
        (λ (e : i ≡ j). ap (λ (n : ℕ). digit (2 ^ n) i) (sym e ∙ sym (zero-add i)) ∙ digit_low i 0 ∙ sym (is_same i) ∙ ap (λ n. is n i) e)
        (λ (l : i < j). let s : j ≡ suc (j - suc i) + i = omega arith in
        ap (λ (n : ℕ). digit (2 ^ n) i) s ∙ digit_low i (suc (j - suc i)) ∙ even (j - suc i) ∙ sym (is-other j i (λ e. omega arith)))
        (eq-or-lt_of_le h)

    go : (b : Bool) → ltb j i ≡ b → digit (2 ^ j) i ≡ is j i
    go true e = let l = ltb-true j i e in digit_high j i l ∙ sym (is-other j i (λ e. omega arith))
    go false e = low (ltb-false j i e)

-- ---- marking a place

is-parts : (p q : ℕ) → q / 64 ≡ p / 64 → is (p % 64) (q % 64) ≡ is p q
is-parts p q s = go (eqb p q) refl
  where
    go : (b : Bool) → eqb p q ≡ b → is (p % 64) (q % 64) ≡ is p q
    go true e = let h = eqb-true p q e in ap (λ (n : ℕ). is (p % 64) (n % 64)) (sym h) ∙ is_same (p % 64) ∙ sym (is_same p) ∙ ap (is p) h
    go false e = let h = eqb-false p q e in is-other (p % 64) (q % 64) (λ f. h (omega arith)) ∙ sym (is-other p q h)

marked_or : (w : List ℕ) (p q : ℕ) → length w ≡ 8 → p < 512 → marked (mark_at w p) q ≡ max (marked w q) (is p q)
unfolding marked mark_at
marked_or w p q n hp = go (eqb (q / 64) (p / 64)) refl
  where
    go : (b : Bool) → eqb (q / 64) (p / 64) ≡ b → marked (mark_at w p) q ≡ max (marked w q) (is p q)
    go true e =
        let s = eqb-true (q / 64) (p / 64) e in
        let x = get_or w (p / 64) 0 in
        ap (λ (k : ℕ). digit (get_or (set w (p / 64) (bit_or x (2 ^ (p % 64)))) k 0) (q % 64)) s
        ∙ ap (λ (k : ℕ). digit k (q % 64)) (get_or-set_same w (p / 64) (bit_or x (2 ^ (p % 64))) 0 (omega arith))
        ∙ digit_or x (2 ^ (p % 64)) (q % 64)
        ∙ ap₂ (λ (k m : ℕ). max (digit (get_or w k 0) (q % 64)) m) (sym s) (digit_pow (p % 64) (q % 64) ∙ is-parts p q s)
    go false e =
        let s = eqb-false (q / 64) (p / 64) e in
        ap (λ (k : ℕ). digit k (q % 64)) (get_or-set_other w (p / 64) (q / 64) _ 0 s)
        ∙ sym (max-zero (marked w q))
        ∙ ap (max (marked w q)) (sym (is-other p q (λ f. s (ap (λ (k : ℕ). k / 64) (sym f)))))

marked-most : (w : List ℕ) (q : ℕ) → marked w q ≤ 1
unfolding marked digit
marked-most w q = omega arith

-- a place is marked then if it was, or is that place
mark_too : (w : List ℕ) (p q : ℕ) → length w ≡ 8 → p < 512 → is_marked (mark_at w p) q ≡ (is_marked w q || eqb p q)
mark_too w p q n hp = ap (λ m. eqb m 1) (marked_or w p q n hp) ∙ go (eqb p q) (marked w q) (marked-most w q)
  where
    go : (b : Bool) (m : ℕ) → m ≤ 1 → eqb (max m (bit b)) 1 ≡ (eqb m 1 || b)
    go true zero h = refl
    go true (suc zero) h = refl
    go true (suc (suc m)) h = absurd (omega arith)
    go false m h = ap (λ k. eqb k 1) (max-zero m) ∙ sym (or-false (eqb m 1))

-- the same where a place stands for the number after it
pub mark_number : (w : List ℕ) (x v : ℕ) → length w ≡ 8 → 1 ≤ x → x ≤ 512 → 1 ≤ v →
    is_marked (mark_at w (pred x)) (pred v) ≡ (is_marked w (pred v) || eqb v x)
mark_number w x v n hx hm hv =
    mark_too w (pred x) (pred v) n (omega arith) ∙ ap (λ b. is_marked w (pred v) || b) (same (ℕ_discrete v x))
  where
    same : Dec (v ≡ x) → eqb (pred x) (pred v) ≡ eqb v x
    same (yes e) = eq-eqb (pred x) (pred v) (omega arith) ∙ sym (eq-eqb v x e)
    same (no e) = ne_eqb (pred x) (pred v) (λ f. e (omega arith)) ∙ sym (ne_eqb v x e)

pub length_mark : (w : List ℕ) (p : ℕ) → length (mark_at w p) ≡ length w
unfolding mark_at
length_mark w p = length-set w (p / 64) (bit_or (get_or w (p / 64) 0) (2 ^ (p % 64)))

module _ (w : List ℕ) (p : ℕ) (long : length w ≡ 8) (hp : p < 512) (new : marked w p ≡ 0) where
  -- a place that is not yet marked is marked besides the others
  marked_mark : (q : ℕ) → marked (mark_at w p) q ≡ marked w q + is p q
  marked_mark q = marked_or w p q long hp ∙ go (eqb p q) refl
    where
      go : (b : Bool) → eqb p q ≡ b → max (marked w q) (bit b) ≡ marked w q + bit b
      go true e = let z : marked w q ≡ 0 = ap (marked w) (sym (eqb-true p q e)) ∙ new in rw z (zero-max 1)
      go false e = max-zero (marked w q) ∙ sym (add-zero (marked w q))

  marked_other : (q : ℕ) → p ≢ q → marked (mark_at w p) q ≡ marked w q
  marked_other q h = omega (arith, marked_mark q, is-other p q h)

-- ---- counting past a place

is_before : (x a d : ℕ) → x < a → sum (is x) (range a d) ≡ 0
is_before x a d h = sum-zero (is x) (range a d) (range-each (λ q. is x q ≡ 0) a d (λ q l u. is-other x q (λ e. omega arith)))

is_within : (x a d : ℕ) → a ≤ x → x < a + d → sum (is x) (range a d) ≡ 1
unfolding sum range
is_within x a zero l u = absurd (omega arith)
is_within x a (suc d) l u =
    ⊎_elim
    (λ (e : a ≡ x). ap₂ (λ (m n : ℕ). m + n) (ap (is x) e ∙ is_same x) (is_before x (suc a) d (omega arith)))
    (λ (h : a < x). ap₂ (λ (m n : ℕ). m + n) (is-other x a (λ e. omega arith)) (is_within x (suc a) d (omega arith) (omega arith)))
    (eq-or-lt_of_le l)

-- a place is one of those past p, or none
is-past : (x p : ℕ) → x < 512 → sum (is x) (range (suc p) (511 - p)) ≡ bit (ltb p x)
is-past x p hx = go (ltb p x) refl
  where
    go : (b : Bool) → ltb p x ≡ b → sum (is x) (range (suc p) (511 - p)) ≡ bit b
    go true e = let l = ltb-true p x e in is_within x (suc p) (511 - p) l (omega arith)
    go false e = let l = ltb-false p x e in is_before x (suc p) (511 - p) (omega arith)

past_mark : (w : List ℕ) (p r : ℕ) → length w ≡ 8 → p < 512 → marked w p ≡ 0 → past (mark_at w p) r ≡ past w r + bit (ltb r p)
unfolding past
past_mark w p r long hp new =
    let qs = range (suc r) (511 - r) in
    sum_ext (marked (mark_at w p)) (λ q. marked w q + is p q) qs (each_all qs (marked_mark w p long hp new))
    ∙ sum_add (marked w) (is p) qs
    ∙ ap (λ n. sum (marked w) qs + n) (is-past p r hp)

past_marks : (ps w : List ℕ) (r : ℕ) → length w ≡ 8 → Each (λ p. p < 512) ps → Distinct ps → Each (λ p. marked w p ≡ 0) ps →
    past (mark_all w ps) r ≡ past w r + above r ps
unfolding mark_all above sum
past_marks [] w r long h d z = omega arith
past_marks (p ∷ ps) w r long h d z =
    let others = each_zip ps (λ q n b. marked_other w p long h.0 z.0 q n ∙ b) d.0 z.1 in
    let rest = past_marks ps (mark_at w p) r (length_mark w p ∙ long) h.1 d.1 others in
    omega (arith, rest, past_mark w p r long h.0 z.0)

-- ---- the words that stand for a list of places

get_d_zeros : (n k : ℕ) → get_or {A = ℕ} (replicate n 0) k 0 ≡ 0
get_d_zeros zero k = refl
get_d_zeros (suc n) zero = refl
get_d_zeros (suc n) (suc k) = get_d_zeros n k

marked-none : (q : ℕ) → marked (replicate 8 0) q ≡ 0
unfolding marked digit
marked-none q = ap (λ x. digit x (q % 64)) (get_d_zeros 8 (q / 64)) ∙ rw zero-div refl

past-none : (r : ℕ) → past (replicate 8 0) r ≡ 0
unfolding past
past-none r = let qs = range (suc r) (511 - r) in sum-zero (marked (replicate 8 0)) qs (each_all qs marked-none)

pub none_before : (q : ℕ) → is_marked (replicate 8 0) q ≡ false
none_before q = rw (marked-none q) refl

pub past_words : (ps : List ℕ) (r : ℕ) → Each (λ p. p < 512) ps → Distinct ps → past (mark_all (replicate 8 0) ps) r ≡ above r ps
past_words ps r h d = omega (arith, past_marks ps (replicate 8 0) r refl h d (each_all ps marked-none), past-none r)

-- one place more
pub mark_all-last : (w ps : List ℕ) (p : ℕ) → mark_all w (ps ++ (p ∷ [])) ≡ mark_at (mark_all w ps) p
unfolding mark_all
mark_all-last w [] p = refl
mark_all-last w (q ∷ ps) p = mark_all-last (mark_at w q) ps p

-- at most as many as there are places
pub past-most : (w : List ℕ) (p : ℕ) → past w p ≤ 511
unfolding past
past-most w p =
    let h = sum-most (marked w) (marked-most w) (range (suc p) (511 - p)) in
    omega (arith, rw length-range at h)
