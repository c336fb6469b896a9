-- Laws of the bytes that hexadecimal digits say: two digits for each.
use Prim.Native.Nat.{ℕ, suc, ◌+◌, ◌*◌, ◌≤◌, ◌<◌, ◌/◌, ◌%◌}
use native.Mathlib.Omega.{arith}
use native.Mathlib.Numerals.{add-one}
use mathlib.Core.Path.{◌≡◌, refl, sym, ap, subst, ◌∙◌}
use mathlib.Core.Bool.{Bool, true, false, cond}
use mathlib.Core.List.{List, [], ◌∷◌}
use Rattle.std.specs.Prelude.{Option, None, Some}
use mathlib.Core.Logic.{◌⊎◌, inl, inr}
use borrow.Author.Tests.{eqb-true, eqb-false, eq-eqb, ne_eqb}
use lib.Dec.{eqb}
use lib.ListN.{length, get_or, drop, set, drop_of_length-le}
use lib.Seq.{drop-cons}
use Rattle.desk_words.specs.Words.{dash}
use Rattle.desk_words.specs.Bytes.{byte_in, joined, pairs_in, pairs_of, bytes_in}
use Rattle.desk_words.specs.Puts.{Puts}
use Rattle.desk_words.proofs.Filling.{Filling, puts_none, puts-over, fill_none, fill_more, fill_bad, fill_end}

-- ---- how many bytes
abbrev PairsSized : ℕ → Option (List ℕ) → Type 0
PairsSized n None = Unit {0}
PairsSized n (Some xs) = n ≡ 2 * length xs

sized-more : (n : ℕ) (o : Option ℕ) (p : Option (List ℕ)) → PairsSized n p → PairsSized (suc (suc n)) (joined o p)
sized-more n None p h = tt
sized-more n (Some x) None h = tt
sized-more n (Some x) (Some xs) h = let e : n ≡ 2 * length xs = h in omega arith

pairs-sized : (s : List ℕ) → PairsSized (length s) (pairs_in s)
unfolding pairs_in
pairs-sized [] = refl
pairs-sized (a ∷ []) = tt
pairs-sized (a ∷ b ∷ s) = sized-more (length s) (byte_in a b) (pairs_in s) (pairs-sized s)

fit_by : (w n : ℕ) (t u : Bool) → eqb w 0 ≡ t → eqb (w % 2) 1 ≡ u → Some n ≡ cond t None (cond u None (Some (w / 2)))
    → (w ≡ 2 * n) × (0 < w)
fit_by w n true u p q e = absurd (let y : ◌≡◌ {A = ℕ} 0 1 = cc in omega arith)
fit_by w n false true p q e = absurd (let y : ◌≡◌ {A = ℕ} 0 1 = cc in omega arith)
fit_by w n false false p q e =
    let z : n ≡ w / 2 = cc in
    let o : (w % 2 ≡ 1) → ⊥ = eqb-false (w % 2) 1 q in let k : w ≡ 0 → ⊥ = eqb-false w 0 p in omega arith

pub bytes_fit : (w n : ℕ) → Some n ≡ pairs_of w → (w ≡ 2 * n) × (0 < w)
unfolding pairs_of
bytes_fit w n e = fit_by w n (eqb w 0) (eqb (w % 2) 1) refl refl e

digits_say : (word : List ℕ) → 0 < length word → dash word ≡ false → bytes_in word ≡ pairs_in word
unfolding bytes_in
digits_say [] h e = absurd (let z : 0 < 0 = h in omega arith)
digits_say (x ∷ s) h e = rw e

odd_by : (w : ℕ) (t u : Bool) → eqb w 0 ≡ t → eqb (w % 2) 1 ≡ u → None ≡ cond t None (cond u None (Some (w / 2)))
    → (w ≡ 0) ⊎ (w % 2 ≡ 1)
odd_by w true u p q e = inl (eqb-true w 0 p)
odd_by w false true p q e = inr (eqb-true (w % 2) 1 q)
odd_by w false false p q e = absurd (let y : ◌≡◌ {A = ℕ} 0 1 = cc in omega arith)

odd_none : (word : List ℕ) (p : Option (List ℕ)) → PairsSized (length word) p → length word % 2 ≡ 1 → p ≡ None
odd_none word None s o = refl
odd_none word (Some xs) s o = absurd (let e : length word ≡ 2 * length xs = s in omega arith)

nothing_said : (word : List ℕ) → dash word ≡ false → (length word ≡ 0) ⊎ (length word % 2 ≡ 1) → bytes_in word ≡ None
unfolding bytes_in
nothing_said [] d h = refl
nothing_said (x ∷ s) d (inl e) = absurd (let z : suc (length s) ≡ 0 = e in omega arith)
nothing_said (x ∷ s) d (inr o) =
    rw (digits_say (x ∷ s) (omega arith) d) (odd_none (x ∷ s) (pairs_in (x ∷ s)) (pairs-sized (x ∷ s)) o)

-- A word that has no digits or an odd number of them.
pub pair_none : (word found left : List ℕ) → dash word ≡ false → None ≡ pairs_of (length word) → Puts (bytes_in word) found None left
unfolding pairs_of
pair_none word found left d e =
    let w = length word in
    puts_none found left (nothing_said word d (odd_by w (eqb w 0) (eqb (w % 2) 1) refl refl e))

narrow_by : (word : List ℕ) (p : Option (List ℕ)) (n : ℕ) (found left : List ℕ) → length word ≡ 2 * n → PairsSized (length word) p
    → length found < n → Puts p found None left
narrow_by word None n found left e s l = puts_none found left refl
narrow_by word (Some xs) n found left e s l =
    let z : length word ≡ 2 * length xs = s in
    puts-over xs found left refl (omega arith)

-- A word whose digits say more bytes than there is room for.
pub pair_narrow : (word : List ℕ) (n : ℕ) (found left : List ℕ) → dash word ≡ false → Some n ≡ pairs_of (length word)
    → length found < n → Puts (bytes_in word) found None left
pair_narrow word n found left d e l =
    let twice = bytes_fit (length word) n e in
    rw (digits_say word twice.1 d) (narrow_by word (pairs_in word) n found left twice.0 (pairs-sized word) l)

pub dash-said : (word : List ℕ) → dash word ≡ true → bytes_in word ≡ Some []
unfolding bytes_in
dash-said [] e = absurd (let z : ◌≡◌ {A = Bool} false true = e in let y : ◌≡◌ {A = ℕ} 0 1 = cc in omega arith)
dash-said (x ∷ s) e = rw e

-- ---- the loop
pub record Paired (word found : List ℕ) (n i : ℕ) (out : List ℕ) : Type 0 where
  pub even : length word ≡ 2 * n
  pub room : n ≤ length found
  pub filling : Filling (bytes_in word) (pairs_in (drop (2 * i) word)) found i out

pub paired_none : (word found : List ℕ) (n : ℕ) → dash word ≡ false → Some n ≡ pairs_of (length word) → n ≤ length found
    → Paired word found n 0 found
paired_none word found n d e h =
    let twice = bytes_fit (length word) n e in
    record {
      even = twice.0;
      room = h;
      filling = fill_none (pairs_in word) found (digits_say word twice.1 d);
    }

twice-more : (i : ℕ) → 2 * (i + 1) ≡ suc (2 * i + 1)
twice-more i = omega arith

two_dropped : (word : List ℕ) (i : ℕ) → 2 * i + 1 < length word
    → pairs_in (drop (2 * i) word)
    ≡ joined (byte_in (get_or word (2 * i) 0) (get_or word (2 * i + 1) 0)) (pairs_in (drop (2 * (i + 1)) word))
unfolding pairs_in
two_dropped word i h =
    let first : drop (2 * i) word ≡ get_or word (2 * i) 0 ∷ drop (2 * i + 1) word = rw add-one (drop-cons word (2 * i) 0 (omega arith)) in
    let second : drop (2 * i + 1) word ≡ get_or word (2 * i + 1) 0 ∷ drop (2 * (i + 1)) word =
    rw (twice-more i) (drop-cons word (2 * i + 1) 0 h) in
    rw (first, second)

module _ (word found : List ℕ) (n i : ℕ) (out : List ℕ) (h : i < n) (p : Paired word found n i out) where
  pub paired_more : (x : ℕ) → Some x ≡ byte_in (get_or word (2 * i) 0) (get_or word (2 * i + 1) 0)
      → Paired word found n (i + 1) (set out i x)
  paired_more x e =
      let rest = pairs_in (drop (2 * (i + 1)) word) in
      let here : pairs_in (drop (2 * i) word) ≡ joined (Some x) rest =
      two_dropped word i (omega (arith, p.even)) ∙ ap (λ (o : Option ℕ). joined o rest) (sym e) in
      let here-more = fill_more rest found i x out (omega (arith, p.room, p.filling.long)) (rw here at p.filling) in
      record {
        even = p.even;
        room = p.room;
        filling = subst (λ (k : ℕ). Filling (bytes_in word) rest found k (set out i x)) (sym (add-one i)) here-more;
      }

  pub paired_bad : None ≡ byte_in (get_or word (2 * i) 0) (get_or word (2 * i + 1) 0) → Puts (bytes_in word) found None out
  paired_bad e =
      let rest = pairs_in (drop (2 * (i + 1)) word) in
      let here : pairs_in (drop (2 * i) word) ≡ joined None rest =
      two_dropped word i (omega (arith, p.even)) ∙ ap (λ (o : Option ℕ). joined o rest) (sym e) in
      fill_bad rest found i out (rw here at p.filling)

pub paired_all : (word found : List ℕ) (n : ℕ) (out : List ℕ) → Paired word found n n out → Puts (bytes_in word) found (Some n) out
unfolding pairs_in
paired_all word found n out p =
    let none_left : drop (2 * n) word ≡ [] = drop_of_length-le word {i = 2 * n} (omega (arith, p.even)) in
    fill_end found n out p.room (rw none_left at p.filling)

-- ---- how many bytes, by the tests
pub pairs_empty : (n : ℕ) → n ≡ 0 → None ≡ pairs_of n
unfolding pairs_of
pairs_empty n e = rw (eq-eqb n 0 e)

pub pairs_odd : (n : ℕ) → (n ≡ 0 → ⊥) → n % 2 ≡ 1 → None ≡ pairs_of n
unfolding pairs_of
pairs_odd n h e = rw (ne_eqb n 0 h, eq-eqb (n % 2) 1 e)

pub pairs_even : (n : ℕ) → (n ≡ 0 → ⊥) → (n % 2 ≡ 1 → ⊥) → Some (n / 2) ≡ pairs_of n
unfolding pairs_of
pairs_even n h e = rw (ne_eqb n 0 h, ne_eqb (n % 2) 1 e)
