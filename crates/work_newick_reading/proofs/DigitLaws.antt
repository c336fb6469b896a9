-- Digits read one after the other, and the length that may stand behind a subtree.
use Rattle.std.specs.Prelude.{Option, Some, None, unwrap_or}
use Rattle.std.specs.Bool.{then_some}
use Rattle.std.specs.Char.{is_ascii_digit}
use Prim.Native.Nat.{ℕ, ◌+◌, ◌*◌, ◌-◌, ◌≤◌, ◌<◌}
use mathlib.Core.Path.{◌≡◌, refl, sym, ap, ◌∙◌}
use mathlib.Core.Bool.{Bool, true, false, cond, ◌&&◌}
use mathlib.Core.List.{List, [], ◌∷◌}
use native.Mathlib.Decide.{dec_le}
use native.Mathlib.Omega.{arith}
use borrow.Author.Tests.{le-leb, lt-leb, leb-true}
use lib.Dec.{leb}
use lib.ListN.{length, get_or, drop}
use Rattle.newick.specs.Sentence.{value_from, value}
use Rattle.newick.specs.Reading.{is_digit, digits, past_digits}
use Rattle.newick.specs.Noted.{noted}
use Rattle.work_newick_reading.specs.Reads.{DigitsEnd, leaf_of}
use Rattle.work_newick_reading.proofs.Text.{text_at, text-ended}

-- ---- one byte

pub digit_low : (x : ℕ) → x < 48 → false ≡ is_digit x
unfolding is_digit
digit_low x h = rw (lt-leb 48 x h) refl

pub digit_high : (x : ℕ) → 48 ≤ x → leb x 57 ≡ is_digit x
unfolding is_digit
digit_high x h = rw (le-leb 48 x h) refl

pub digit-same : (x : ℕ) → is_ascii_digit x ≡ is_digit x
unfolding is_digit
digit-same x = refl

pub digit-range : (x : ℕ) → is_digit x ≡ true → (48 ≤ x) × (x ≤ 57)
unfolding is_digit
digit-range x h = go (leb 48 x) refl (leb x 57) refl h
  where
    go : (a : Bool) → leb 48 x ≡ a → (b : Bool) → leb x 57 ≡ b → a && b ≡ true → (48 ≤ x) × (x ≤ 57)
    go true p true q e = (leb-true 48 x p, leb-true x 57 q)
    go true p false q e = let z : false ≡ true = e in absurd (let y : ◌≡◌ {A = ℕ} 0 1 = cc in omega arith)
    go false p b q e = absurd (let y : ◌≡◌ {A = ℕ} 0 1 = cc in omega arith)

-- ---- a text that begins with a digit, and one that does not

pub digits_more : (x : ℕ) (xs : List ℕ) → is_digit x ≡ true → (digits (x ∷ xs) ≡ x ∷ digits xs) × (past_digits (x ∷ xs) ≡ past_digits xs)
unfolding digits past_digits
digits_more x xs h = (rw h refl, rw h refl)

pub digits-none : (x : ℕ) (xs : List ℕ) → is_digit x ≡ false → (digits (x ∷ xs) ≡ []) × (past_digits (x ∷ xs) ≡ x ∷ xs)
unfolding digits past_digits
digits-none x xs h = (rw h refl, rw h refl)

-- ---- a leaf number, digit by digit

pub leaf-small : (v : ℕ) → v ≤ 512 → leaf_of v ≡ Some v
unfolding leaf_of
leaf-small v h = rw (le-leb v 512 h) refl

pub leaf-large : (v : ℕ) → 513 ≤ v → leaf_of v ≡ None
unfolding leaf_of
leaf-large v h = rw (lt-leb v 512 h) refl

-- a number is said as it is, if it is at most 512
pub leaf-said : (x : ℕ) → then_some (leb x 512) x ≡ leaf_of x
unfolding leaf_of
leaf-said x = go (leb x 512)
  where
    go : (b : Bool) → then_some b x ≡ cond b (Some x) None
    go true = refl
    go false = refl

-- as it is noted
pub leaf-noted : (ds : List ℕ) (leaf : Option ℕ) → leaf ≡ leaf_of (value ds) → unwrap_or leaf 0 ≡ noted ds
unfolding leaf_of noted
leaf-noted ds leaf e = rw e (go (leb (value ds) 512))
  where
    go : (b : Bool) → unwrap_or (cond b (Some (value ds)) None) 0 ≡ cond b (value ds) 0
    go true = refl
    go false = refl

-- ---- the loop

-- x stands for the number v: it is v, or both are above 512
pub record Stands (x v : ℕ) : Type 0 where
  pub small : v ≤ 512 → x ≡ v
  pub large : 513 ≤ v → 513 ≤ x

-- at place `at`, where the digits before it say so_far, for which x stands
pub record DigitsTo (text : List ℕ) (from x at : ℕ) : Type 0 where
  pub so_far : ℕ
  pub stands : Stands x so_far
  pub value-left : value_from so_far (digits (drop at text)) ≡ value (digits (drop from text))
  pub past-left : past_digits (drop at text) ≡ past_digits (drop from text)
  pub ahead : from ≤ at
  pub within : at ≤ length text

-- what stands for a number says the same leaf
stands-same : (x v : ℕ) → Stands x v → leaf_of x ≡ leaf_of v
stands-same x v st = go (dec_le v 512)
  where
    go : Dec (v ≤ 512) → leaf_of x ≡ leaf_of v
    go (yes q) = ap leaf_of (st.small q)
    go (no q) = leaf-large x (st.large (omega arith)) ∙ sym (leaf-large v (omega arith))

module _ (text : List ℕ) (from : ℕ) where
  pub digits_start : from ≤ length text → DigitsTo text from 0 from
  digits_start h = record {
    so_far = 0;
    stands = record { small = λ p. refl; large = λ p. omega arith };
    value-left = refl;
    past-left = refl;
    ahead = omega arith;
    within = h;
  }

  -- one digit more
  pub digits_step : (x at r : ℕ) → DigitsTo text from x at → at < length text → is_digit (get_or text at 0) ≡ true →
      (x ≤ 512 → r ≡ 10 * x + (get_or text at 0 - 48)) → (513 ≤ x → r ≡ x) → DigitsTo text from r (at + 1)
  unfolding value_from
  digits_step x at r d h is small large =
      let b = get_or text at 0 in
      let v = d.so_far in
      let there = text_at text at h in
      let more = digits_more b (drop (at + 1) text) is in
      let st = d.stands in
      record {
        so_far = 10 * v + (b - 48);
        stands = record {
          small = λ p. let e = st.small (omega arith) in small (omega arith) ∙ ap (λ z. 10 * z + (b - 48)) e;
          large = λ p. go p (dec_le v 512);
        };
        value-left = ap (value_from v) (sym (ap digits there ∙ more.0)) ∙ d.value-left;
        past-left = sym (ap past_digits there ∙ more.1) ∙ d.past-left;
        ahead = let a = d.ahead in omega arith;
        within = omega arith;
      }
    where
      go : 513 ≤ 10 * d.so_far + (get_or text at 0 - 48) → Dec (d.so_far ≤ 512) → 513 ≤ r
      go p (yes q) = let e = d.stands.small q in let f = small (omega arith) in omega arith
      go p (no q) = let e = d.stands.large (omega arith) in let f = large e in omega arith

  -- the digits have ended
  digits-end : (x at : ℕ) → DigitsTo text from x at →
      digits (drop at text) ≡ [] → past_digits (drop at text) ≡ drop at text → DigitsEnd text from at (leaf_of x)
  unfolding value_from
  digits-end x at d none past =
      let v = d.so_far in
      let e : v ≡ value (digits (drop from text)) = sym (ap (value_from v) none) ∙ d.value-left in
      record {
        ends = record { ahead = d.ahead; within = d.within; left = sym past ∙ d.past-left };
        says = stands-same x v d.stands ∙ ap leaf_of e;
      }

  pub digits-stop : (x at : ℕ) → DigitsTo text from x at → at < length text → is_digit (get_or text at 0) ≡ false →
      DigitsEnd text from at (leaf_of x)
  digits-stop x at d h is =
      let there = text_at text at h in
      let none = digits-none (get_or text at 0) (drop (at + 1) text) is in
      digits-end x at d (ap digits there ∙ none.0) (ap past_digits there ∙ none.1 ∙ sym there)

  pub digits-ended : (x at : ℕ) → DigitsTo text from x at → length text ≤ at → DigitsEnd text from at (leaf_of x)
  unfolding digits past_digits
  digits-ended x at d h =
      let there = text-ended text at h in
      digits-end x at d (ap digits there) (ap past_digits there ∙ sym there)
