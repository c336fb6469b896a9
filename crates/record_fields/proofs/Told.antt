-- The refusal that is told: its row, number by number; numbers without a row; and that the 7 and 8 of a call are its record's own. What it
-- says is `SaysRow`.
use Prim.Native.Nat.{ℕ, zero, suc, ◌-◌, ◌*◌}
use mathlib.Core.Path.{◌≡◌, refl, sym, ap, ◌∙◌}
use mathlib.Core.Logic.{◌≢◌}
use mathlib.Core.Bool.{Bool, true, false, cond, not, false≢true}
use mathlib.Core.List.{List}
use borrow.Author.Tests.{ne_eqb}
use lib.Dec.{eqb, ltb}
use lib.ListN.{length}
use Rattle.work_trees.specs.Rows.{upper, lower}
use Rattle.work_tree_rule.specs.Rule.{bad_row}
use Rattle.record_fields.specs.Fields.{two, numbers, version_at, left_at, hold_of, size_of, right_at, length_of}
use Rattle.record_fields.specs.Fields.{Parts, parts_of, parts, Sized}
use Rattle.record_fields.specs.Refusals.{or_else, is_mark, is_hold, no_size, breaks_rule, heading_refusal, contents_refusal}
use Rattle.record_fields.specs.Refusals.{refusal, set_hold_refusal}
use Rattle.record_fields.specs.Refused.{NumberAndRow, refused, refused_row}
use Rattle.record_fields.specs.Told.{row_for, told_in, told_of, ToldContents, tells_row, OwnRow}
use Rattle.record_fields.proofs.Contents.{broken, contents_7, contents_8}
use Rattle.record_fields.proofs.Acceptance.{refusal_contents, heading_sized}

-- ---- the row, number by number

module _ (n : ℕ) (left right : List ℕ) {k : ℕ} where
  pub row_7 : k ≡ 7 → bad_row n (upper left) (lower left) ≡ row_for n left right k
  unfolding row_for
  row_7 e = rw e refl

  pub row_8 : k ≡ 8 → bad_row n (upper right) (lower right) ≡ row_for n left right k
  unfolding row_for
  row_8 e = rw e refl

  pub row-none : k ≢ 7 → k ≢ 8 → 0 ≡ row_for n left right k
  unfolding row_for
  row-none p q = rw (ne_eqb k 7 p, ne_eqb k 8 q) refl

-- a number that is told alone, without a row
pub record Alone (k : ℕ) : Type 0 where
  pub alone : tells_row k ≡ false

-- it is none that a row is told with
pub differs : {k j : ℕ} → Alone k → tells_row j ≡ true → k ≢ j
differs a t e = false≢true (sym a.alone ∙ ap tells_row e ∙ t)

pub told-alone : (P : Parts) {k : ℕ} → Alone k → refused k ≡ told_in P k
told-alone P {k} a = ap (refused_row k) (row-none P.size P.left_rows P.right_rows (differs a refl) (differs a refl))

pub told_none : (P : Parts) {k : ℕ} → k ≡ 0 → refused 0 ≡ told_in P k
told_none P e = rw e (told-alone P (record { alone = refl }))

-- ---- from the row that was found in a record to what is told

module _ (s : List ℕ) {k : ℕ} {answer : NumberAndRow} where
  pub told-left : {n row : ℕ} → k ≡ 7 → n ≡ size_of s →
      row ≡ bad_row n (upper (numbers s left_at (2 * (n - 1)))) (lower (numbers s left_at (2 * (n - 1)))) → answer ≡ refused_row k row →
      answer ≡ told_of s k
  unfolding parts_of
  told-left e f b r =
      r ∙ ap (refused_row k) (b
      ∙ ap (λ n. bad_row n (upper (numbers s left_at (2 * (n - 1)))) (lower (numbers s left_at (2 * (n - 1))))) f
      ∙ row_7 (parts s).size (parts s).left_rows (parts s).right_rows e)

  pub told-right : {n at row : ℕ} → k ≡ 8 → n ≡ size_of s → at ≡ right_at n →
      row ≡ bad_row n (upper (numbers s at (2 * (n - 1)))) (lower (numbers s at (2 * (n - 1)))) → answer ≡ refused_row k row →
      answer ≡ told_of s k
  unfolding parts_of
  told-right {n} e f g b r =
      r ∙ ap (refused_row k) (b
      ∙ ap (λ at. bad_row n (upper (numbers s at (2 * (n - 1)))) (lower (numbers s at (2 * (n - 1))))) g
      ∙ ap (λ n. bad_row n (upper (numbers s (right_at n) (2 * (n - 1)))) (lower (numbers s (right_at n) (2 * (n - 1))))) f
      ∙ row_8 (parts s).size (parts s).left_rows (parts s).right_rows e)

  pub told-other : k ≢ 7 → k ≢ 8 → answer ≡ refused k → answer ≡ told_of s k
  told-other p q r = r ∙ ap (refused_row k) (row-none (parts s).size (parts s).left_rows (parts s).right_rows p q)

-- ---- from the test of parts that was met to what is told

module _ (P : Parts) {answer : NumberAndRow} where
  pub told_7 : {row : ℕ} → row ≡ bad_row P.size (upper P.left_rows) (lower P.left_rows) → row ≢ 0 → answer ≡ refused_row 7 row →
      ToldContents P answer
  told_7 b h r = record {
    told =
        r ∙ ap (refused_row 7) (b ∙ row_7 P.size P.left_rows P.right_rows refl)
        ∙ ap (told_in P) (contents_7 P (broken P.size P.left_rows b h));
  }

  pub told_8 : {row : ℕ} → breaks_rule P.size P.left_rows ≡ false →
      row ≡ bad_row P.size (upper P.right_rows) (lower P.right_rows) → row ≢ 0 → answer ≡ refused_row 8 row → ToldContents P answer
  told_8 left b h r = record {
    told =
        r ∙ ap (refused_row 8) (b ∙ row_8 P.size P.left_rows P.right_rows refl)
        ∙ ap (told_in P) (contents_8 P left (broken P.size P.right_rows b h));
  }

  -- 9, 10 and 0
  pub told-number : {k : ℕ} → Alone k → k ≡ contents_refusal P → answer ≡ refused k → ToldContents P answer
  told-number a e r = record { told = r ∙ told-alone P a ∙ ap (told_in P) e }

-- ---- what is so of each number that a list of tests may give, and of each of two refusals, is so of the one that is given

pub each_when : (Q : ℕ → Type 0) (b : Bool) {j r : ℕ} → Q j → Q r → Q (cond b j r)
each_when Q true p q = p
each_when Q false p q = q

pub each_else : (Q : ℕ → Type 0) (k : ℕ) {r : ℕ} → Q k → Q r → Q (or_else k r)
each_else Q zero p q = q
each_else Q (suc k) p q = p

-- of numbers that are told alone
pub alone_when : (b : Bool) (j : ℕ) {r : ℕ} → tells_row j ≡ false → Alone r → Alone (cond b j r)
alone_when b j e a = each_when Alone b (record { alone = e }) a

pub alone_0 : Alone 0
alone_0 = record { alone = refl }

-- ---- a 7 or an 8 that is a record's own

module _ (s : List ℕ) where
  -- the heading's numbers have no row
  pub heading_alone : Alone (heading_refusal s)
  unfolding heading_refusal
  heading_alone =
      alone_when (ltb (length s) 8) 1 refl (alone_when (not (is_mark s)) 2 refl (alone_when (not (eqb (two s version_at) 1)) 3 refl
      (alone_when (not (is_hold (hold_of s))) 4 refl (alone_when (no_size (size_of s)) 5 refl
      (alone_when (not (eqb (length s) (length_of (size_of s)))) 6 refl alone_0)))))

  module _ {k : ℕ} (is : OwnRow s k) (t : tells_row k ≡ true) where
    own_heading : heading_refusal s ≡ 0
    unfolding refusal
    own_heading = go (heading_refusal s) heading_alone (is.own t)
      where
        go : (h : ℕ) → Alone h → or_else h (contents_refusal (parts s)) ≡ k → h ≡ 0
        go zero a e = refl
        go (suc h) a e = absurd (differs a t e)

    pub own-sized : Sized s (size_of s)
    own-sized = heading_sized s own_heading

    pub own_contents : contents_refusal (parts s) ≡ k
    own_contents = sym (refusal_contents s own_heading) ∙ is.own t

  -- a record's own refusal; then those of other tests, before it and after it
  pub refusal-own : {k : ℕ} → k ≡ refusal s → OwnRow s k
  refusal-own e = record { own = λ t. sym e }

  pub alone-own : {k : ℕ} → Alone k → OwnRow s k
  alone-own a = record { own = λ t. absurd (differs a t refl) }

  pub own_when : (b : Bool) (j : ℕ) {r : ℕ} → tells_row j ≡ false → OwnRow s r → OwnRow s (cond b j r)
  own_when b j e is = each_when (OwnRow s) b (alone-own (record { alone = e })) is

  pub own_then : {r : ℕ} → Alone r → OwnRow s (or_else (refusal s) r)
  own_then a = each_else (OwnRow s) (refusal s) (refusal-own refl) (alone-own a)

  pub set-hold-own : (letter : ℕ) {k : ℕ} → k ≡ set_hold_refusal s letter → OwnRow s k
  unfolding set_hold_refusal
  set-hold-own letter e = rw e (own_when (not (is_hold letter)) 4 refl (refusal-own refl))
