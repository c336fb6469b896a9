-- Marks: a number from 1 to n is marked exactly if it stands in the list, so 1 to n are all marked exactly if the list is one-to-one.
use Prim.Native.Nat.{ℕ, zero, suc, pred, ◌+◌, ◌≤◌, ◌<◌}
use mathlib.Core.Path.{◌≡◌, refl, sym, ap, ap₂, ◌∙◌}
use mathlib.Core.Bool.{Bool, true, false, cond, ◌&&◌, ◌||◌, or-false, or_assoc, and-true}
use mathlib.Core.List.{List, [], ◌∷◌, ◌++◌}
use mathlib.Core.Logic.{◌≢◌}
use native.Mathlib.Omega.{arith}
use borrow.Author.Tests.{eq-eqb, ne_eqb, eqb-true, eqb-false, ltb-true, ltb-false, lt-ltb, le-ltb}
use lib.Dec.{eqb, ltb}
use lib.ListN.{length, replicate}
use Rattle.tanglegram.specs.Lists.{range}
use Rattle.tanglegram.proofs.ListSums.{range_last}
use Rattle.work_tree_rule.specs.Rule.{among}
use Rattle.work_seen_places.specs.Seen.{mark_at, is_marked, all_before}
use Rattle.work_seen_places.proofs.SeenPlaces.{mark_number, length_mark, none_before}
use Rattle.record_fields.specs.Fields.{most_leaves}
use Rattle.record_fields.specs.Refusals.{all, one_to_one}
use Rattle.record_fields.proofs.Tests.{all_append}
use Rattle.record_contents.specs.Marks.{marking, marking_all}

-- ---- a number that can be marked, and those that can't

module _ (n : ℕ) (w : List ℕ) where
  pub from_1_to_n_marks : (x : ℕ) → 1 ≤ x → x ≤ n → marking n w x ≡ mark_at w (pred x)
  from_1_to_n_marks x some most = rw (ne_eqb x 0 (λ e. omega arith), le-ltb n x most) refl

  pub zero_marks_nothing : (x : ℕ) → x ≡ 0 → marking n w x ≡ w
  zero_marks_nothing x e = rw (eq-eqb x 0 e) refl

  pub above_marks_nothing : (x : ℕ) → n < x → marking n w x ≡ w
  above_marks_nothing x h = rw (ne_eqb x 0 (λ e. omega arith), lt-ltb n x h) refl

-- a link of 0, one of n + 1 and one of 65,535
pub marks_nothing : (n : ℕ) (w : List ℕ) → n ≤ most_leaves → (marking n w 0 ≡ w) × (marking n w (n + 1) ≡ w) × (marking n w 65535 ≡ w)
marks_nothing n w most =
    (zero_marks_nothing n w 0 refl, above_marks_nothing n w (n + 1) (omega arith), above_marks_nothing n w 65535 (omega arith))

-- ---- one number

length-marking : (n : ℕ) (w : List ℕ) (x : ℕ) → length (marking n w x) ≡ length w
length-marking n w x = go (eqb x 0 || ltb n x)
  where
    go : (b : Bool) → length (cond b w (mark_at w (pred x))) ≡ length w
    go true = refl
    go false = length_mark w (pred x)

module _ (n : ℕ) (most : n ≤ most_leaves) (q : ℕ) (here : q < n) where
  marking_too : (w : List ℕ) (x : ℕ) → length w ≡ 8 → is_marked (marking n w x) q ≡ (is_marked w q || eqb (suc q) x)
  marking_too w x long = go (eqb x 0) (ltb n x) refl refl
    where
      -- another number than the one that stands at q
      other : suc q ≢ x → is_marked w q ≡ (is_marked w q || eqb (suc q) x)
      other h = rw (ne_eqb (suc q) x h) (sym (or-false (is_marked w q)))

      go : (a b : Bool) → eqb x 0 ≡ a → ltb n x ≡ b →
          is_marked (cond (a || b) w (mark_at w (pred x))) q ≡ (is_marked w q || eqb (suc q) x)
      go true b e f = other (λ z. omega (arith, eqb-true x 0 e))
      go false true e f = other (λ z. omega (arith, ltb-true n x f))
      go false false e f =
          let some = eqb-false x 0 e in
          let in_reach = ltb-false n x f in
          mark_number w x (suc q) long (omega arith) (omega arith) (omega arith)

  -- the numbers of a list
  marking-all : (xs w : List ℕ) → length w ≡ 8 → is_marked (marking_all n w xs) q ≡ (is_marked w q || among (suc q) xs)
  unfolding marking_all among
  marking-all [] w long = sym (or-false (is_marked w q))
  marking-all (x ∷ xs) w long =
      marking-all xs (marking n w x) (length-marking n w x ∙ long)
      ∙ ap (λ b. b || among (suc q) xs) (marking_too w x long)
      ∙ or_assoc (is_marked w q) (eqb (suc q) x) (among (suc q) xs)

  marked-among : (xs : List ℕ) → is_marked (marking_all n (replicate 8 0) xs) q ≡ among (suc q) xs
  marked-among xs = marking-all xs (replicate 8 0) refl ∙ rw (none_before q) refl

-- one number more
pub marking-last : (n : ℕ) (xs w : List ℕ) (x : ℕ) → marking_all n w (xs ++ (x ∷ [])) ≡ marking n (marking_all n w xs) x
unfolding marking_all
marking-last n [] w x = refl
marking-last n (y ∷ xs) w x = marking-last n xs (marking n w y) x

-- ---- all of them

module _ (n : ℕ) (most : n ≤ most_leaves) (xs : List ℕ) where
  all-to : (m : ℕ) → m ≤ n → all_before (marking_all n (replicate 8 0) xs) m ≡ all (λ c. among c xs) (range 1 m)
  unfolding all_before all range
  all-to zero h = refl
  all-to (suc m) h =
      let last : suc m ≡ 1 + m = omega arith in
      ap₂ (λ (a b : Bool). a && b) (all-to m (omega arith)) (marked-among n most m (omega arith) xs)
      ∙ ap (λ b. all (λ c. among c xs) (range 1 m) && b) (sym (and-true (among (suc m) xs)))
      ∙ sym (all_append (λ c. among c xs) (range 1 m) (suc m ∷ []))
      ∙ ap (λ k. all (λ c. among c xs) (range 1 m ++ (k ∷ []))) last
      ∙ ap (all (λ c. among c xs)) (sym (range_last 1 m))

  -- 1 to n are marked exactly if each stands in the list
  pub all-marked : all_before (marking_all n (replicate 8 0) xs) n ≡ one_to_one n xs
  unfolding one_to_one
  all-marked = all-to n (omega arith)
