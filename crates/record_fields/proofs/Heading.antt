-- The heading's refusal, test by test, for code that returns at the first that is met; and what a good heading says.
use Prim.Native.Nat.{ℕ, ◌≤◌, ◌<◌}
use mathlib.Core.Path.{◌≡◌, refl, sym, ◌∙◌}
use mathlib.Core.Logic.{◌≢◌}
use mathlib.Core.Bool.{Bool, true, false, cond, not, ◌||◌, true≢false}
use mathlib.Core.List.{List}
use native.Mathlib.Omega.{arith}
use borrow.Author.Tests.{lt-ltb, le-ltb, eq-eqb, ne_eqb, ltb-false, eqb-true, eqb-false}
use lib.Dec.{eqb, ltb}
use lib.ListN.{length}
use Rattle.record_fields.specs.Fields.{two, most_leaves, hold_of, size_of, length_of}
use Rattle.record_fields.specs.Refusals.{heading_refusal, is_mark, is_hold, no_size}

module _ (s : List ℕ) where
  pub heading_1 : length s < 8 → 1 ≡ heading_refusal s
  unfolding heading_refusal
  heading_1 h = simp (lt-ltb _ _ h)

  module _ (long : 8 ≤ length s) where
    pub heading_2 : is_mark s ≡ false → 2 ≡ heading_refusal s
    unfolding heading_refusal
    heading_2 h = rw (le-ltb (length s) 8 long, h) refl

    module _ (mark : is_mark s ≡ true) where
      pub heading_3 : two s 3 ≢ 1 → 3 ≡ heading_refusal s
      unfolding heading_refusal
      heading_3 h = rw (le-ltb (length s) 8 long, mark, ne_eqb (two s 3) 1 h) refl

      module _ (version : two s 3 ≡ 1) where
        pub heading_4 : is_hold (hold_of s) ≡ false → 4 ≡ heading_refusal s
        unfolding heading_refusal
        heading_4 h = rw (le-ltb (length s) 8 long, mark, eq-eqb (two s 3) 1 version, h) refl

        module _ (hold : is_hold (hold_of s) ≡ true) where
          pub heading_5 : no_size (size_of s) ≡ true → 5 ≡ heading_refusal s
          unfolding heading_refusal
          heading_5 h = rw (le-ltb (length s) 8 long, mark, eq-eqb (two s 3) 1 version, hold, h) refl

          module _ (size : no_size (size_of s) ≡ false) where
            pub heading_6 : length s ≢ length_of (size_of s) → 6 ≡ heading_refusal s
            unfolding heading_refusal
            heading_6 h =
                rw (le-ltb (length s) 8 long, mark, eq-eqb (two s 3) 1 version, hold, size, ne_eqb (length s) (length_of (size_of s)) h) refl

            pub heading_0 : length s ≡ length_of (size_of s) → 0 ≡ heading_refusal s
            unfolding heading_refusal
            heading_0 h =
                rw (le-ltb (length s) 8 long, mark, eq-eqb (two s 3) 1 version, hold, size, eq-eqb (length s) (length_of (size_of s)) h) refl

-- ---- what a good heading says

pub record GoodHeading (s : List ℕ) : Type 0 where
  pub long : 8 ≤ length s
  pub mark : is_mark s ≡ true
  pub version : two s 3 ≡ 1
  pub hold : is_hold (hold_of s) ≡ true
  pub some : 1 ≤ size_of s
  pub most : size_of s ≤ most_leaves
  pub whole : length s ≡ length_of (size_of s)

pub sized : (n : ℕ) → no_size n ≡ false → (1 ≤ n) × (n ≤ most_leaves)
unfolding no_size
sized n = go (eqb n 0) (ltb most_leaves n) refl refl
  where
    go : (a b : Bool) → eqb n 0 ≡ a → ltb most_leaves n ≡ b → (a || b) ≡ false → (1 ≤ n) × (n ≤ most_leaves)
    go true b e f h = absurd (true≢false h)
    go false true e f h = absurd (true≢false h)
    go false false e f h = let z = eqb-false n 0 e in (omega arith, ltb-false most_leaves n f)

pub unsized : (n : ℕ) → 1 ≤ n → n ≤ most_leaves → no_size n ≡ false
unfolding no_size
unsized n p q = rw (ne_eqb n 0 (omega arith), le-ltb most_leaves n q) refl

-- of a list of tests none of which is met, none is met
pub none_first : (b : Bool) (k r : ℕ) → 1 ≤ k → cond b k r ≡ 0 → (b ≡ false) × (r ≡ 0)
none_first true k r p e = absurd (omega arith)
none_first false k r p e = (refl, e)

pub not_no : (b : Bool) → not b ≡ false → b ≡ true
not_no true e = refl
not_no false e = sym e

-- a test of the code that was passed, and one that was not
pub passed : {r b : Bool} → r ≡ b → r ≡ true → b ≡ true
passed e h = sym e ∙ h

pub failed : {r b : Bool} → r ≡ b → r ≡ false → b ≡ false
failed e h = sym e ∙ h

pub heading_good : (s : List ℕ) → heading_refusal s ≡ 0 → GoodHeading s
unfolding heading_refusal
heading_good s e =
    let t₁ = none_first (ltb (length s) 8) 1 _ (omega arith) e in
    let t₂ = none_first (not (is_mark s)) 2 _ (omega arith) t₁.1 in
    let t₃ = none_first (not (eqb (two s 3) 1)) 3 _ (omega arith) t₂.1 in
    let t₄ = none_first (not (is_hold (hold_of s))) 4 _ (omega arith) t₃.1 in
    let t₅ = none_first (no_size (size_of s)) 5 _ (omega arith) t₄.1 in
    let t₆ = none_first (not (eqb (length s) (length_of (size_of s)))) 6 0 (omega arith) t₅.1 in
    let z = sized (size_of s) t₅.0 in
    record {
      long = ltb-false (length s) 8 t₁.0;
      mark = not_no (is_mark s) t₂.0;
      version = eqb-true (two s 3) 1 (not_no (eqb (two s 3) 1) t₃.0);
      hold = not_no (is_hold (hold_of s)) t₄.0;
      some = z.0;
      most = z.1;
      whole = eqb-true (length s) (length_of (size_of s)) (not_no (eqb (length s) (length_of (size_of s))) t₆.0);
    }
