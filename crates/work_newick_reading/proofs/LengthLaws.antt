-- The length that may stand behind a subtree: read from the byte at a place, and from where the digits behind it end.
use Rattle.std.specs.Prelude.{Option, Some, None}
use Rattle.std.specs.Bool.{then_some}
use Prim.Native.Nat.{ℕ, suc, ◌+◌, ◌≤◌}
use mathlib.Core.Path.{◌≡◌, refl, sym, ap, ◌∙◌}
use mathlib.Core.Logic.{◌≢◌}
use mathlib.Core.Bool.{Bool, true, false, cond}
use mathlib.Core.List.{List, [], ◌∷◌}
use native.Mathlib.Omega.{arith}
use borrow.Author.Tests.{eq-eqb, ne_eqb, ltb-true, ltb-false}
use lib.Dec.{eqb, ltb}
use lib.ListN.{length, get_or, drop, length-drop}
use Rattle.newick.specs.Sentence.{whole, pointed}
use Rattle.newick.specs.Reading.{is_digit, digits, past_digits, LengthRead, no_length, length_read, length_behind, length_in, head}
use Rattle.work_newick_reading.specs.Reads.{DigitsEnd, LengthEnds}
use Rattle.work_newick_reading.proofs.Text.{head_at, behind-at}

-- digits and what is left are the text
digits-split : (xs : List ℕ) → length (digits xs) + length (past_digits xs) ≡ length xs
unfolding digits past_digits
digits-split [] = refl
digits-split (x ∷ xs) = go (is_digit x) (digits-split xs)
  where
    go : (b : Bool) → length (digits xs) + length (past_digits xs) ≡ length xs →
        length (cond b (x ∷ digits xs) []) + length (cond b (past_digits xs) (x ∷ xs)) ≡ suc (length xs)
    go true e = omega arith
    go false e = omega arith

module _ (text : List ℕ) where
  -- as many as there are places up to their end
  pub digits_long : (at end : ℕ) (leaf : Option ℕ) → DigitsEnd text at end leaf → at + length (digits (drop at text)) ≡ end
  digits_long at end leaf d =
      let e = d.ends in
      let s = digits-split (drop at text) in
      let p : length (drop end text) ≡ length (past_digits (drop at text)) = ap length e.left in
      omega (arith, e.ahead, e.within, length-drop at text, length-drop end text)

  pub length_none : (at : ℕ) → at ≤ length text → get_or text at 256 ≢ 58 → LengthEnds (length_in (drop at text)) text at (Some at)
  unfolding length_in
  length_none at within h = rw (ne_eqb (head (drop at text)) 58 (λ z. h (sym (head_at text at) ∙ z))) (record {
    ahead = omega arith;
    within = within;
    left = refl;
  })

  -- from a place before
  length_before : (at from : ℕ) → at ≤ from → (L : LengthRead) (r : Option ℕ) → LengthEnds L text from r → LengthEnds L text at r
  length_before at from p no_length None h = tt
  length_before at from p no_length (Some r) h = h
  length_before at from p (length_read l rest) None h = h
  length_before at from p (length_read l rest) (Some r) h =
      record { ahead = omega (arith, h.ahead); within = h.within; left = h.left }

  behind-colon : (at : ℕ) → get_or text at 256 ≡ 58 → length_in (drop at text) ≡ length_behind (drop (at + 1) text)
  unfolding length_in
  behind-colon at there = rw (eq-eqb (head (drop at text)) 58 (head_at text at ∙ there), behind-at text at) refl

  pub length_colon : (at : ℕ) → get_or text at 256 ≡ 58 → (r : Option ℕ) →
      LengthEnds (length_behind (drop (at + 1) text)) text (at + 1) r → LengthEnds (length_in (drop at text)) text at r
  length_colon at there r h =
      rw (behind-colon at there) (length_before at (at + 1) (omega arith) (length_behind (drop (at + 1) text)) r h)

  -- ---- behind a colon

  module _ (from end : ℕ) (leaf : Option ℕ) (d : DigitsEnd text from end leaf) where
    rest_is : past_digits (drop from text) ≡ drop end text
    rest_is = sym d.ends.left

    -- no point
    module _ (no_point : get_or text end 256 ≢ 46) where
      whole-read : length_behind (drop from text)
          ≡ cond (eqb (length (digits (drop from text))) 0) no_length
          (length_read (whole (digits (drop from text))) (drop end text))
      unfolding length_behind
      whole-read = rw (rest_is, ne_eqb (head (drop end text)) 46 (λ z. no_point (sym (head_at text end) ∙ z))) refl

      pub whole_length : (b : Bool) → b ≡ ltb from end → LengthEnds (length_behind (drop from text)) text from (then_some b end)
      whole_length true h =
          let more = ltb-true from end (sym h) in
          let long = digits_long from end leaf d in
          rw (whole-read, ne_eqb (length (digits (drop from text))) 0 (λ z. absurd (omega arith))) (record {
            ahead = omega arith;
            within = d.ends.within;
            left = refl;
          })
      whole_length false h =
          let less = ltb-false from end (sym h) in
          let long = digits_long from end leaf d in
          rw (whole-read, eq-eqb (length (digits (drop from text))) 0 (omega arith)) tt

    -- a point
    module _ (point-there : get_or text end 256 ≡ 46) (end' : ℕ) (leaf' : Option ℕ) (d' : DigitsEnd text (end + 1) end' leaf') where
      pointed-read : length_behind (drop from text)
          ≡ cond (eqb (length (digits (drop from text)) + length (digits (drop (end + 1) text))) 0) no_length
          (length_read (pointed (digits (drop from text)) (digits (drop (end + 1) text))) (drop end' text))
      unfolding length_behind
      pointed-read =
          rw (rest_is, eq-eqb (head (drop end text)) 46 (head_at text end ∙ point-there), behind-at text end, ← d'.ends.left) refl

      long-both : (from + 1) + (length (digits (drop from text)) + length (digits (drop (end + 1) text))) ≡ end'
      long-both =
          let a = digits_long from end leaf d in
          let b = digits_long (end + 1) end' leaf' d' in
          omega arith

      pub pointed-length : (b : Bool) → b ≡ ltb (from + 1) end' →
          LengthEnds (length_behind (drop from text)) text from (then_some b end')
      pointed-length true h =
          let more = ltb-true (from + 1) end' (sym h) in
          let long = long-both in
          let some : length (digits (drop from text)) + length (digits (drop (end + 1) text)) ≢ 0 = λ z. absurd (omega arith) in
          rw (pointed-read, ne_eqb (length (digits (drop from text)) + length (digits (drop (end + 1) text))) 0 some)
          (record { ahead = omega arith; within = d'.ends.within; left = refl })
      pointed-length false h =
          let less = ltb-false (from + 1) end' (sym h) in
          let long = long-both in
          rw (pointed-read, eq-eqb (length (digits (drop from text)) + length (digits (drop (end + 1) text))) 0 (omega arith)) tt
