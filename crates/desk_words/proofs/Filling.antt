-- A buffer that is filled from its first place on with what a word says. The invariant of each such loop is a `Filling`:
-- what the word says is what stands in the first n places and then what the rest of the word says.
use Prim.Native.Nat.{ℕ, suc, ◌≤◌, ◌<◌}
use native.Mathlib.Omega.{arith}
use native.Mathlib.Numerals.{add-one}
use mathlib.Core.Path.{◌≡◌, refl, sym, ap, ◌∙◌}
use mathlib.Core.List.{List, [], ◌∷◌, ◌++◌, append_assoc, append-nil}
use Rattle.std.specs.Prelude.{Option, None, Some}
use borrow.Author.Tests.{le-leb, lt-leb}
use lib.ListN.{length, take, drop, set, length-set, length-append, length-take, take-append-drop}
use lib.Seq.{take-suc-set, drop-set-lt, drop-drop, length-take-le}
use Rattle.desk_words.specs.Bytes.{joined}
use Rattle.desk_words.specs.Puts.{places_filled, Puts}

-- ---- a word that puts nothing
pub puts_none : {A : Type 0} {said : Option (List A)} (found left : List A) → said ≡ None → Puts said found None left
unfolding places_filled
puts_none found left e = record { answers = rw e; puts = λ xs q. absurd (let z : ◌≡◌ {A = ℕ} 0 1 = cc in omega arith) }

pub puts-over : {A : Type 0} {said : Option (List A)} (xs found left : List A) → said ≡ Some xs → length found < length xs
    → Puts said found None left
unfolding places_filled
puts-over xs found left e h = record {
  answers = rw (e, lt-leb (length xs) (length found) h);
  puts = λ ys q l. absurd (let same : xs ≡ ys = cc in let z : length xs ≡ length ys = ap length same in omega arith);
}

pub puts_empty : {A : Type 0} {said : Option (List A)} (found : List A) → said ≡ Some [] → Puts said found (Some 0) found
unfolding places_filled
puts_empty found e = record {
  answers = rw (e, le-leb 0 (length found) (omega arith));
  puts = λ ys q l. let same : [] ≡ ys = cc in rw (← same);
}

-- ---- the loop
-- Entries in front of others, where there are others.
abbrev prepend : {A : Type 0} → List A → Option (List A) → Option (List A)
prepend xs None = None
prepend xs (Some ys) = Some (xs ++ ys)

pub record Filling {A : Type 0} (said rest : Option (List A)) (found : List A) (n : ℕ) (out : List A) : Type 0 where
  pub stood : said ≡ prepend (take n out) rest
  pub long : length out ≡ length found
  pub kept : drop n out ≡ drop n found

prepend_nil : {A : Type 0} (o : Option (List A)) → o ≡ prepend [] o
prepend_nil None = refl
prepend_nil (Some xs) = refl

pub fill_none : {A : Type 0} {said : Option (List A)} (rest : Option (List A)) (found : List A) → said ≡ rest
    → Filling said rest found 0 found
fill_none rest found e = record { stood = e ∙ prepend_nil rest; long = refl; kept = refl }

prepend_more : {A : Type 0} (xs : List A) (x : A) (o : Option (List A)) → prepend xs (joined (Some x) o) ≡ prepend (xs ++ (x ∷ [])) o
prepend_more xs x None = refl
prepend_more xs x (Some ys) = ap Some (sym (append_assoc xs (x ∷ []) ys))

drop_more : {A : Type 0} (n : ℕ) (a b : List A) → drop n a ≡ drop n b → drop (suc n) a ≡ drop (suc n) b
drop_more n a b e = rw (← add-one) (sym (drop-drop 1 n a) ∙ ap (drop 1) e ∙ drop-drop 1 n b)

pub fill_more : {A : Type 0} {said : Option (List A)} (rest : Option (List A)) (found : List A) (n : ℕ) (x : A) (out : List A)
    → n < length out → Filling said (joined (Some x) rest) found n out → Filling said rest found (suc n) (set out n x)
fill_more rest found n x out h f = record {
  stood = rw (take-suc-set out n x h) (f.stood ∙ prepend_more (take n out) x rest);
  long = length-set out n x ∙ f.long;
  kept = drop-set-lt (suc n) out n x (omega arith) ∙ drop_more n out found f.kept;
}

pub fill_bad : {A : Type 0} {said : Option (List A)} (rest : Option (List A)) (found : List A) (n : ℕ) (out : List A)
    → Filling said (joined None rest) found n out → Puts said found None out
fill_bad rest found n out f = puts_none found out f.stood

pub fill_end : {A : Type 0} {said : Option (List A)} (found : List A) (n : ℕ) (out : List A) → n ≤ length found
    → Filling said (Some []) found n out → Puts said found (Some n) out
unfolding places_filled
fill_end {A} found n out h f =
    let is : _ ≡ Some (take n out) = f.stood ∙ ap Some (append-nil (take n out)) in
    let size : length (take n out) ≡ n = length-take-le n out (omega (arith, f.long)) in
    record {
      answers = rw (is, size, le-leb n (length found) h);
      puts = λ xs q l.
          let same : take n out ≡ xs = cc in
          rw (← same) (rw size (sym (take-append-drop n out) ∙ ap (λ (t : List A). take n out ++ t) f.kept));
    }

full_by : {A : Type 0} {said : Option (List A)} (o : Option A) (rest : Option (List A)) (found : List A) (n : ℕ) (out : List A)
    → length found ≤ n → Filling said (joined o rest) found n out → Puts said found None out
full_by None rest found n out h f = puts_none found out f.stood
full_by (Some x) None found n out h f = puts_none found out f.stood
full_by (Some x) (Some ys) found n out h f =
    puts-over (take n out ++ (x ∷ ys)) found out f.stood
    (rw (length-append (take n out) (x ∷ ys), length-take n out) (omega (arith, f.long)))

pub fill_full : {A : Type 0} {said : Option (List A)} (o : Option A) (rest : Option (List A)) (found : List A) (n : ℕ) (out : List A)
    → length found ≤ n → Filling said (joined o rest) found n out → Puts said found None out
fill_full o rest found n out h f = full_by o rest found n out h f
