-- Checking the rows in order with a mark at each object that an earlier row uses: how one row is tested by the marks, and what is true
-- before the first row, from row to row, and where the check ends.
use Prim.Native.Nat.{ℕ, zero, suc, pred, ◌+◌, ◌-◌, ◌≤◌, ◌<◌}
use mathlib.Core.Path.{◌≡◌, refl, sym, ap, ◌∙◌}
use mathlib.Core.Bool.{Bool, true, false, cond, ◌||◌, or-true}
use mathlib.Core.List.{List, [], ◌∷◌}
use mathlib.Core.Logic.{◌≢◌}
use native.Mathlib.Decide.{dec_le, ℕ_discrete}
use native.Mathlib.Numerals.{add-one, sub-one}
use native.Mathlib.Omega.{arith}
use borrow.Author.Tests.{le-leb, leb-false, eq-eqb, ne_eqb}
use lib.Dec.{leb, eqb}
use lib.ListN.{length, set, replicate, length-set, length-replicate, get_or-replicate}
use lib.Seq.{get_or-set_same, get_or-set_other}
use Rattle.tanglegram.specs.Lists.{range}
use Rattle.tanglegram.specs.Tree.{used}
use Rattle.work_tree_rule.specs.Rule.{among, first, wrong, breaks, bad_row}
use Rattle.work_tree_rule.specs.Marks.{used_by, refused_by, broken_by}
use Rattle.tanglegram.proofs.Bools.{or_neither}
use Rattle.work_tree_rule.proofs.Rule.{rows-from}

-- marks stand at the entries of xs, and nowhere else
pub record Marks (marks xs : List ℕ) : Type 0 where
  pub long : length marks ≡ 1024
  pub right : (v : ℕ) → v < 1024 → used_by marks v ≡ among v xs

no_marks : Marks (replicate 1024 0) []
unfolding among
no_marks = record { long = length-replicate {A = ℕ} 1024 0; right = λ v h. rw (get_or-replicate {A = ℕ} 1024 v 0 0 h) refl }

one_mark : (marks xs : List ℕ) (a : ℕ) → a < 1024 → Marks marks xs → Marks (set marks a 1) (a ∷ xs)
unfolding among
one_mark marks xs a h m = record { long = simp length-set m.long; right = λ v k. go v k (ℕ_discrete v a) }
  where
    go : (v : ℕ) → v < 1024 → Dec (v ≡ a) → used_by (set marks a 1) v ≡ (eqb v a || among v xs)
    go v k (yes e) = rw (eq-eqb v a e, e, get_or-set_same marks a 1 0 (omega (arith, m.long))) refl
    go v k (no e) = rw (ne_eqb v a e, get_or-set_other marks a v 1 0 e) (m.right v k)

-- ---- the test of one row by the marks

module _ (marks : List ℕ) (made a b : ℕ) where
  pub broken-same : a ≡ b → broken_by marks made a b ≡ true
  broken-same e = rw (eq-eqb a b e) (or-true (refused_by marks made a || refused_by marks made b))

  pub broken-first : refused_by marks made a ≡ true → broken_by marks made a b ≡ true
  broken-first e = rw e refl

  pub broken_second : refused_by marks made b ≡ true → broken_by marks made a b ≡ true
  broken_second e = rw (e, or-true (refused_by marks made a)) refl

  pub kept : a ≢ b → refused_by marks made a ≡ false → refused_by marks made b ≡ false → broken_by marks made a b ≡ false
  kept apart e f = rw (e, f) (ne_eqb a b apart)

-- an entry that is not refused is below the object that is made
pub allowed-below : (marks : List ℕ) (made v : ℕ) → refused_by marks made v ≡ false → v < made
allowed-below marks made v e =
    let r = or_neither (eqb v 0 || leb made v) (used_by marks v) e in
    leb-false made v (or_neither (eqb v 0) (leb made v) r.0).1

kept-below : (marks : List ℕ) (made a b : ℕ) → broken_by marks made a b ≡ false → (a < made) × (b < made)
kept-below marks made a b e =
    let r = (or_neither (refused_by marks made a || refused_by marks made b) (eqb a b) e).0 in
    let both = or_neither (refused_by marks made a) (refused_by marks made b) r in
    (allowed-below marks made a both.0, allowed-below marks made b both.1)

-- ---- row after row

-- the objects that rows 1 to i use: row i's, and the earlier rows'
used-row : (up low : ℕ → ℕ) (i : ℕ) → 1 ≤ i → used up low i ≡ up i ∷ low i ∷ used up low (pred i)
unfolding used
used-row up low zero h = absurd (omega arith)
used-row up low (suc i) h = refl

module _ (n : ℕ) (up low : ℕ → ℕ) where
  -- rows 1 to i - 1 keep the rule and have their entries marked
  pub record Checked (marks : List ℕ) (i : ℕ) : Type 0 where
    pub from : 1 ≤ i
    pub marks_right : Marks marks (used up low (pred i))
    pub rest : bad_row n up low ≡ first (breaks n up low) (range i (n - i))

  pub checked_none : Checked (replicate 1024 0) 1
  unfolding used bad_row
  checked_none = record { from = omega arith; marks_right = no_marks; rest = rw sub-one refl }

  pub checked_all : (marks : List ℕ) (i : ℕ) → n ≤ i → Checked marks i → 0 ≡ bad_row n up low
  unfolding first range
  checked_all marks i h k =
      let e : n - i ≡ 0 = omega arith in
      sym (k.rest ∙ ap (λ m. first (breaks n up low) (range i m)) e)

  -- the test of an entry by the marks is that by the earlier rows
  refused-wrong : (marks : List ℕ) (i v : ℕ) → n + i ≤ 1024 → Marks marks (used up low (pred i)) →
      refused_by marks (n + i) v ≡ wrong n up low i v
  refused-wrong marks i v h m = go (dec_le (n + i) v)
    where
      go : Dec (n + i ≤ v) → refused_by marks (n + i) v ≡ wrong n up low i v
      go (yes d) = rw (le-leb (n + i) v d, or-true (eqb v 0)) refl
      go (no d) = rw (m.right v (omega arith)) refl

  module _ (marks : List ℕ) (i : ℕ) (k : Checked marks i) (here : i < n) (most : n ≤ 512) where
    -- the test of row i by the marks is the rule's
    row_test : broken_by marks (n + i) (up i) (low i) ≡ breaks n up low i
    row_test =
        let one = refused-wrong marks i (up i) (omega arith) k.marks_right in
        let two = refused-wrong marks i (low i) (omega arith) k.marks_right in
        rw (one, two) refl

    -- what the test of row i's entries tells, by its contract
    module _ (a b : ℕ) (is-upper : a ≡ up i) (is-lower : b ≡ low i) (r : Bool) (tested : r ≡ broken_by marks (n + i) a b) where
      tells : r ≡ breaks n up low i
      tells = tested ∙ rw (is-upper, is-lower) row_test

      -- a row that breaks the rule is the lowest that does
      pub bad_here : r ≡ true → i ≡ bad_row n up low
      unfolding first
      bad_here e = sym (k.rest ∙ rw (rows-from n i here, sym tells ∙ e) refl)

      -- a row that keeps it has its entries marked
      pub checked_more : (marks' : List ℕ) → marks' ≡ cond r marks (set (set marks b 1) a 1) → r ≡ false → Checked marks' (i + 1)
      unfolding first
      checked_more marks' m e =
          let before = used up low (pred i) in
          let both = kept-below marks (n + i) a b (sym tested ∙ e) in
          let one = one_mark marks before b (omega (arith, both.1)) k.marks_right in
          let two = one_mark (set marks b 1) (b ∷ before) a (omega (arith, both.0)) one in
          rw (m ∙ ap (λ x. cond x marks (set (set marks b 1) a 1)) e, add-one i) record {
            from = omega arith;
            marks_right = rw (used-row up low i k.from, ← is-upper, ← is-lower) two;
            rest = k.rest ∙ rw (rows-from n i here, sym tells ∙ e) refl;
          }
