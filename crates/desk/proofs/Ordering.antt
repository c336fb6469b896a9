-- Two lists put one behind the other: what their words said stands in these places, and none is said where one is missing
-- or there is no room.
use Prim.Native.Nat.{ℕ, ◌+◌, ◌-◌, ◌≤◌, ◌<◌}
use native.Mathlib.Omega.{arith}
use mathlib.Core.Path.{◌≡◌, refl, sym, ap, ◌∙◌}
use mathlib.Core.Bool.{Bool, true, false, cond}
use mathlib.Core.List.{List}
use Rattle.std.specs.Prelude.{Option, None, Some}
use borrow.Author.Tests.{le-leb, lt-leb, leb-true, leb-false}
use lib.Dec.{leb}
use borrow.Rule.Slice.PartMut.{put_mid}
use lib.ListN.{length, take, drop, length-drop}
use lib.Seq.{take-append_seam, take-append-le, length-take-le, drop_at}
use Rattle.std.proofs.lemmas.Slice.{take-put_mid_below}
use Rattle.desk_words.specs.Puts.{places_filled, Puts}
use Rattle.desk.specs.Orders.{all_said}

some_by : (b : Bool) (n m : ℕ) → Some n ≡ cond b (Some m) None → (b ≡ true) × (n ≡ m)
some_by true n m e = (refl, cc)
some_by false n m e = absurd (let z : ◌≡◌ {A = ℕ} 0 1 = cc in omega arith)

none_by : (b : Bool) (m : ℕ) → None ≡ cond b (Some m) None → b ≡ false
none_by true m e = absurd (let z : ◌≡◌ {A = ℕ} 0 1 = cc in omega arith)
none_by false m e = refl

-- A list that was put.
pub record Put (said : Option (List ℕ)) (room n : ℕ) (after : List ℕ) : Type 0 where
  pub is : said ≡ Some (take n after)
  pub long : length (take n after) ≡ n
  pub within : n ≤ room

pub put_some : (said : Option (List ℕ)) (found after : List ℕ) (n : ℕ) → Puts said found (Some n) after → Put said (length found) n after
unfolding places_filled
put_some None found after n p = absurd (let e : Some n ≡ None = p.answers in let z : ◌≡◌ {A = ℕ} 0 1 = cc in omega arith)
put_some (Some xs) found after n p =
    let f = some_by (leb (length xs) (length found)) n (length xs) p.answers in
    let fits : length xs ≤ length found = leb-true (length xs) (length found) f.0 in
    let stands : take n after ≡ xs = rw (f.1, p.puts xs refl fits) (take-append_seam xs (drop (length xs) found)) in
    record { is = ap Some (sym stands); long = ap length stands ∙ sym f.1; within = omega (arith, f.1) }

-- A list that is too long.
too_long : (xs found after : List ℕ) → Puts (Some xs) found None after → length found < length xs
unfolding places_filled
too_long xs found after p = leb-false (length xs) (length found) (none_by (leb (length xs) (length found)) (length xs) p.answers)

-- ---- behind the first list
module _ (a : ℕ) (xs : List ℕ) (h : a ≤ length xs) where
  pub rest_long : length (take (length xs - a) (drop a xs)) + a ≡ length xs
  rest_long =
      let rest = length-drop a xs in
      omega (arith, length-take-le (length xs - a) (drop a xs) (omega arith))

  module _ (k : ℕ) (ys : List ℕ) where
    pub first_stands : take a (put_mid a k xs ys) ≡ take a xs
    first_stands = take-put_mid_below a k xs ys a (omega arith) h

    pub second_stands : (b : ℕ) → b ≤ length ys → take b (drop a (put_mid a k xs ys)) ≡ take b ys
    second_stands b l = ap (take b) (drop_at (take a xs) _ a (length-take-le a xs h)) ∙ take-append-le b ys _ l

-- ---- none
pub no_first : (side : Option ℕ) (first second : Option (List ℕ)) (found after : List ℕ) → Puts first found None after
    → all_said side first second (length found) ≡ None
no_first None first second found after p = refl
no_first (Some x) None second found after p = refl
no_first (Some x) (Some xs) None found after p = refl
no_first (Some x) (Some xs) (Some ys) found after p =
    rw (lt-leb (length xs + length ys) (length found) (omega (arith, too_long xs found after p)))

pub no_second : (side : Option ℕ) (first second : Option (List ℕ)) (xs found after : List ℕ) (room : ℕ)
    → first ≡ Some xs → length found + length xs ≡ room → Puts second found None after → all_said side first second room ≡ None
no_second None first second xs found after room e l p = refl
no_second (Some x) first None xs found after room e l p = rw e
no_second (Some x) first (Some ys) xs found after room e l p =
    rw (e, lt-leb (length xs + length ys) room (omega (arith, too_long ys found after p)))

-- ---- both
pub both_said : (side : ℕ) (first second : Option (List ℕ)) (xs ys : List ℕ) (room : ℕ) → first ≡ Some xs → second ≡ Some ys
    → length xs + length ys ≤ room → all_said (Some side) first second room ≡ Some (record { side = side; first = xs; second = ys })
both_said side first second xs ys room e f h = rw (e, f, le-leb (length xs + length ys) room h)
