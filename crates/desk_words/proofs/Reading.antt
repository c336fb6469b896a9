-- Laws of the number that digits say: it does not fall as digits are added, and it is found from the front.
use Prim.Native.Nat.{ℕ, suc, ◌+◌, ◌*◌, ◌≤◌, ◌<◌}
use native.Mathlib.Omega.{arith}
use native.Mathlib.Numerals.{add-one}
use native.Mathlib.Nat.{le_refl, le_trans}
use mathlib.Core.Path.{◌≡◌, refl, sym, ◌∙◌}
use mathlib.Core.Bool.{Bool, true, false, cond, ◌&&◌}
use mathlib.Core.List.{List, [], ◌∷◌}
use Rattle.std.specs.Prelude.{Option, None, Some}
use borrow.Author.Tests.{eqb-true, eqb-false, le-leb, lt-leb, leb-true, leb-false}
use Rattle.std.proofs.lemmas.Option.{cond_some}
use lib.Dec.{eqb, leb}
use lib.ListN.{length, get_or, drop}
use lib.Seq.{drop-cons, drop-length}
use Rattle.desk_words.specs.Numbers.{digit_of, digits, value, number_in, within}

grows : (x d : ℕ) → x ≤ 10 * x + d
grows x d = omega arith

pub value-least : (x : ℕ) (s : List ℕ) → x ≤ value x s
unfolding value
value-least x [] = le_refl x
value-least x (d ∷ s) = le_trans (grows x (digit_of d)) (value-least (10 * x + digit_of d) s)

-- What was read up to place i said x, and each byte up to there is a digit.
pub record DigitsRead (word : List ℕ) (i x : ℕ) : Type 0 where
  pub valued : value x (drop i word) ≡ value 0 word
  pub digital : digits (drop i word) ≡ digits word

pub read_none : (word : List ℕ) → DigitsRead word 0 0
read_none word = record { valued = refl; digital = refl }

pub read_more : (word : List ℕ) (i x : ℕ) → i < length word → digit_of (get_or word i 0) ≤ 9 → DigitsRead word i x
    → DigitsRead word (suc i) (10 * x + digit_of (get_or word i 0))
unfolding value digits
read_more word i x h d r = record {
  valued = rw (drop-cons word i 0 h) at r.valued;
  digital = rw (drop-cons word i 0 h, le-leb (digit_of (get_or word i 0)) 9 d) at r.digital;
}

said : (most : ℕ) (word : List ℕ) → 0 < length word
    → number_in most word ≡ cond (digits word && leb (value 0 word) most) (Some (value 0 word)) None
unfolding number_in
said most [] h = absurd (let z : 0 < 0 = h in omega arith)
said most (d ∷ s) h = refl

pub empty_none : (most : ℕ) (word : List ℕ) → length word ≡ 0 → number_in most word ≡ None
unfolding number_in
empty_none most [] e = refl
empty_none most (x ∷ s) e = absurd (let z : suc (length s) ≡ 0 = e in omega arith)

pub bad_digit : (most : ℕ) (word : List ℕ) (i x : ℕ) → i < length word → 9 < digit_of (get_or word i 0) → DigitsRead word i x
    → number_in most word ≡ None
unfolding digits
bad_digit most word i x h d r =
    let bad : digits (drop i word) ≡ false = rw (drop-cons word i 0 h) (rw (lt-leb (digit_of (get_or word i 0)) 9 d)) in
    rw (said most word (omega arith)) (rw (sym r.digital ∙ bad))

both : (b : Bool) {A : Type 0} (x y : A) → cond (b && false) x y ≡ y
both true x y = refl
both false x y = refl

pub too_large : (most : ℕ) (word : List ℕ) (i x : ℕ) → 0 < length word → most < x → DigitsRead word i x → number_in most word ≡ None
too_large most word i x h m r =
    let l : most < value 0 word = omega (arith, r.valued, value-least x (drop i word)) in
    rw (said most word h) (rw (lt-leb (value 0 word) most l) (both (digits word) (Some (value 0 word)) None))

pub all_read : (most : ℕ) (word : List ℕ) (x : ℕ) → 0 < length word → x ≤ most → DigitsRead word (length word) x
    → number_in most word ≡ Some x
unfolding value digits
all_read most word x h m r =
    let v : x ≡ value 0 word = rw (drop-length word) at r.valued in
    let d : true ≡ digits word = rw (drop-length word) at r.digital in
    rw (said most word h) (rw (← d, ← v) (rw (le-leb x most m)))

-- ---- a number is none, or at most the most
abbrev pub Limited : ℕ → Option ℕ → Type 0
Limited most None = Unit {0}
Limited most (Some x) = x ≤ most

limited_by : (most x : ℕ) (d t : Bool) → leb x most ≡ t → Limited most (cond (d && t) (Some x) None)
limited_by most x true true e = leb-true x most e
limited_by most x true false e = tt
limited_by most x false t e = tt

pub limited : (most : ℕ) (word : List ℕ) → Limited most (number_in most word)
unfolding number_in
limited most [] = tt
limited most (d ∷ s) = limited_by most (value 0 (d ∷ s)) (digits (d ∷ s)) (leb (value 0 (d ∷ s)) most) refl

pub bounded : (most x : ℕ) (word : List ℕ) → Some x ≡ number_in most word → x ≤ most
bounded most x word e = rw (← e) at (limited most word)

-- ---- a number within a bound
pub within_some : (most x y : ℕ) → Some y ≡ within most x → (x ≤ most) × (x ≡ y)
unfolding within
within_some most x y e = let h = cond_some (leb x most) x y (sym e) in (leb-true x most h.0, h.1)

above : (x most : ℕ) (b : Bool) → leb x most ≡ b → None ≡ cond b (Some x) None → most < x
above x most true e h = absurd (let z : ◌≡◌ {A = ℕ} 0 1 = cc in omega arith)
above x most false e h = leb-false x most e

pub within_none : (most x : ℕ) → None ≡ within most x → most < x
unfolding within
within_none most x e = above x most (leb x most) refl e

-- ---- one digit more
pub read_digit : (word : List ℕ) (i x d : ℕ) → i < length word → Some d ≡ within 9 (digit_of (get_or word i 0)) → DigitsRead word i x
    → DigitsRead word (i + 1) (10 * x + d)
read_digit word i x d h e r =
    let said = within_some 9 (digit_of (get_or word i 0)) d e in
    rw (add-one i, ← said.1) (read_more word i x h said.0 r)

pub no_digit : (most : ℕ) (word : List ℕ) (i x : ℕ) → i < length word → None ≡ within 9 (digit_of (get_or word i 0))
    → DigitsRead word i x → None ≡ number_in most word
no_digit most word i x h e r = sym (bad_digit most word i x h (within_none 9 (digit_of (get_or word i 0)) e) r)

pub nothing_read : (most : ℕ) (word : List ℕ) → true ≡ eqb (length word) 0 → None ≡ number_in most word
nothing_read most word e = sym (empty_none most word (eqb-true (length word) 0 (sym e)))

pub some_left : (word : List ℕ) → false ≡ eqb (length word) 0 → 0 < length word
some_left word e = let h = eqb-false (length word) 0 (sym e) in omega arith
