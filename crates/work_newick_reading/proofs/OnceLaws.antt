-- Leaves marked one after the other: a leaf is marked exactly if it was seen, so the marks tell what `fresh` tells.
use Prim.Native.Nat.{ℕ, pred, ◌+◌, ◌≤◌, ◌<◌}
use mathlib.Core.Path.{◌≡◌, refl, sym, ap, ◌∙◌}
use mathlib.Core.Logic.{◌≢◌, ◌⊎◌, inl, inr}
use mathlib.Core.Bool.{Bool, true, false, ◌||◌, or_comm}
use mathlib.Core.List.{List, [], ◌∷◌, ◌++◌}
use native.Mathlib.Decide.{dec_le, ℕ_discrete}
use native.Mathlib.Numerals.{add-one}
use native.Mathlib.Omega.{arith}
use borrow.Author.Tests.{eq-eqb, ne_eqb, lt-ltb, le-ltb, le-leb, lt-leb}
use lib.Dec.{eqb}
use lib.ListN.{length, get_or, take, drop, replicate, drop_of_length-le}
use lib.Seq.{drop-cons, get_or-take, length-take-le}
use Rattle.std.proofs.lemmas.List.{length-take}
use Rattle.work_tree_rule.specs.Rule.{among}
use Rattle.work_seen_places.specs.Seen.{is_marked, mark_at}
use Rattle.work_seen_places.proofs.SeenPlaces.{mark_number, length_mark, none_before}
use Rattle.work_newick_reading.specs.Notes.{last_in}
use Rattle.work_newick_reading.specs.Once.{refused_leaf, fresh, Marked, refused_by, MarkedMore}

pub true-false : {A : Type 0} → true ≡ false → A
true-false e = absurd (let z : ◌≡◌ {A = ℕ} 0 1 = cc in omega arith)

-- ---- the entries, which are the first k of the notes

module _ (T es : List ℕ) (k : ℕ) where
  pub within : es ≡ take k T → length es ≡ k → k ≤ length T
  within e long = omega (arith, ap length e, length-take k T)

  pub entry_of : (i : ℕ) → es ≡ take k T → length es ≡ k → i < length es → get_or es i 0 ≡ get_or T i 0
  entry_of i e long h = ap (λ z. get_or z i 0) e ∙ get_or-take k T i 0 (omega arith)

-- ---- one entry

module _ (w : List ℕ) (x n : ℕ) where
  pub marked_no_leaf : 1024 ≤ x → MarkedMore w x n true w
  marked_no_leaf h = record {
    no_leaf = λ p. (refl, refl);
    leaf_refused = λ p. absurd (omega arith);
    leaf_marked = λ p. absurd (omega arith);
  }

  refused-more : refused_by w n x ≡ true → x < 1024 → MarkedMore w x n false w
  refused-more e h = record {
    no_leaf = λ p. absurd (omega arith);
    leaf_refused = λ p q. refl;
    leaf_marked = λ p q. true-false (sym e ∙ q);
  }

  marked_0 : x ≡ 0 → MarkedMore w x n false w
  marked_0 h = refused-more (rw (eq-eqb x 0 h) refl) (omega arith)

  module _ (some : x ≢ 0) (below : x < 1024) where
    marked-above : n < x → MarkedMore w x n false w
    marked-above h = refused-more (rw (ne_eqb x 0 some, lt-ltb n x h) refl) below

    module _ (most : x ≤ n) where
      pub marked-twice : is_marked w (pred x) ≡ true → MarkedMore w x n false w
      marked-twice h = refused-more (rw (ne_eqb x 0 some, le-ltb n x most, h) refl) below

      pub marked_new : is_marked w (pred x) ≡ false → MarkedMore w x n true (mark_at w (pred x))
      marked_new h =
          let e : refused_by w n x ≡ false = rw (ne_eqb x 0 some, le-ltb n x most, h) refl in record {
            no_leaf = λ p. absurd (omega arith);
            leaf_refused = λ p q. true-false (sym q ∙ e);
            leaf_marked = λ p q. (refl, refl);
          }

  -- 0, or above n
  pub marked-beyond : x < 1024 → (x ≡ 0) ⊎ ((x ≡ 0 → ⊥) × (n < x)) → MarkedMore w x n false w
  marked-beyond below (inl none) = marked_0 none
  marked-beyond below (inr above) = marked-above above.0 below above.1

-- ---- marks and what was seen

refused-same : (seen w : List ℕ) (n x : ℕ) → n ≤ 512 → Marked seen w → refused_by w n x ≡ refused_leaf n seen x
unfolding refused_leaf
refused-same seen w n x most m = go (ℕ_discrete x 0) (dec_le x n)
  where
    go : Dec (x ≡ 0) → Dec (x ≤ n) → refused_by w n x ≡ refused_leaf n seen x
    go (yes z) d = rw (eq-eqb x 0 z) refl
    go (no z) (no d) = rw (ne_eqb x 0 z, lt-ltb n x (omega arith)) refl
    go (no z) (yes d) =
        rw (ne_eqb x 0 z, le-ltb n x d) (m.at_leaf x (omega arith) (omega arith))

marked_more : (seen w : List ℕ) (x : ℕ) → Marked seen w → 1 ≤ x → x ≤ 512 → Marked (x ∷ seen) (mark_at w (pred x))
unfolding among
marked_more seen w x m p q = record {
  long = length_mark w (pred x) ∙ m.long;
  at_leaf = λ v a b.
      mark_number w x v m.long p q a
      ∙ ap (λ y. y || eqb v x) (m.at_leaf v a b)
      ∙ or_comm (among v seen) (eqb v x);
}

pub none-marked : Marked [] (replicate 8 0)
unfolding among
none-marked = record { long = refl; at_leaf = λ v p q. none_before (pred v) }

-- ---- the entries, one after the other

module _ (n : ℕ) (seen : List ℕ) (x : ℕ) (xs : List ℕ) where
  pub fresh_no_leaf : 1024 ≤ x → fresh n seen (x ∷ xs) ≡ fresh n seen xs
  unfolding fresh
  fresh_no_leaf h = rw (le-leb 1024 x h) refl

  pub fresh-refused : x < 1024 → refused_leaf n seen x ≡ true → fresh n seen (x ∷ xs) ≡ false
  unfolding fresh
  fresh-refused h e = rw (lt-leb 1024 x h, e) refl

  pub fresh-more : x < 1024 → refused_leaf n seen x ≡ false → fresh n seen (x ∷ xs) ≡ fresh n (x ∷ seen) xs
  unfolding fresh
  fresh-more h e = rw (lt-leb 1024 x h, e) refl

pub refused-range : (n : ℕ) (seen : List ℕ) (x : ℕ) → refused_leaf n seen x ≡ false → (1 ≤ x) × (x ≤ n)
unfolding refused_leaf
refused-range n seen x e = go (ℕ_discrete x 0) (dec_le x n)
  where
    go : Dec (x ≡ 0) → Dec (x ≤ n) → (1 ≤ x) × (x ≤ n)
    go (yes z) d = true-false (rw (eq-eqb x 0 z) at e)
    go (no z) (no d) = true-false (rw (ne_eqb x 0 z, lt-ltb n x (omega arith)) at e)
    go (no z) (yes d) = (omega arith, d)

-- an entry tested, where `seen` was before: what is left to test
module _ (n : ℕ) (most : n ≤ 512) (seen w : List ℕ) (m : Marked seen w) (x : ℕ) (xs w' : List ℕ) where
  tested_on : MarkedMore w x n true w' →
      (seen' : List ℕ) × Marked seen' w' × (fresh n seen (x ∷ xs) ≡ fresh n seen' xs)
  tested_on t = go (dec_le 1024 x) (refused_leaf n seen x) refl
    where
      go : Dec (1024 ≤ x) → (b : Bool) → refused_leaf n seen x ≡ b →
          (seen' : List ℕ) × Marked seen' w' × (fresh n seen (x ∷ xs) ≡ fresh n seen' xs)
      go (yes h) b e = (seen, rw (t.no_leaf h).1 m, fresh_no_leaf n seen x xs h)
      go (no h) true e = true-false (t.leaf_refused (omega arith) (refused-same seen w n x most m ∙ e))
      go (no h) false e =
          let r = refused-range n seen x e in
          let k = t.leaf_marked (omega arith) (refused-same seen w n x most m ∙ e) in
          (x ∷ seen, rw k.1 (marked_more seen w x m r.0 (omega arith)), fresh-more n seen x xs (omega arith) e)

  tested_off : MarkedMore w x n false w' → fresh n seen (x ∷ xs) ≡ false
  tested_off t = go (dec_le 1024 x) (refused_leaf n seen x) refl
    where
      go : Dec (1024 ≤ x) → (b : Bool) → refused_leaf n seen x ≡ b → fresh n seen (x ∷ xs) ≡ false
      go (yes h) b e = true-false (sym (t.no_leaf h).0)
      go (no h) true e = fresh-refused n seen x xs (omega arith) e
      go (no h) false e = true-false (sym (t.leaf_marked (omega arith) (refused-same seen w n x most m ∙ e)).0)

-- ---- the loop

module _ (T : List ℕ) (n k : ℕ) where
  -- entry i of k is next
  pub record OnceTo (w : List ℕ) (i : ℕ) : Type 0 where
    pub seen : List ℕ
    pub marked : Marked seen w
    pub up_to : i ≤ k
    pub is-left : fresh n [] (take k T ++ (last_in T ∷ [])) ≡ fresh n seen (drop i (take k T) ++ (last_in T ∷ []))

  pub once_start : OnceTo (replicate 8 0) 0
  once_start = record { seen = []; marked = none-marked; up_to = omega arith; is-left = refl }

  module _ (most : n ≤ 512) (within : k ≤ length T) (w : List ℕ) (i : ℕ) (o : OnceTo w i) (w' : List ℕ) where
    here : i < k → drop i (take k T) ++ (last_in T ∷ []) ≡ get_or T i 0 ∷ (drop (i + 1) (take k T) ++ (last_in T ∷ []))
    here h =
        let long = length-take-le k T within in
        let entry = get_or-take k T i 0 h in
        let next : drop i (take k T) ≡ get_or T i 0 ∷ drop (i + 1) (take k T) =
        rw (add-one, ← entry) (drop-cons (take k T) i 0 (omega arith)) in
        ap (λ r. r ++ (last_in T ∷ [])) next

    pub once_more : i < k → MarkedMore w (get_or T i 0) n true w' → OnceTo w' (i + 1)
    once_more h t =
        let r = tested_on n most o.seen w o.marked (get_or T i 0) (drop (i + 1) (take k T) ++ (last_in T ∷ [])) w' t in
        record {
          seen = r.0;
          marked = r.1;
          up_to = omega arith;
          is-left = o.is-left ∙ ap (fresh n o.seen) (here h) ∙ r.2;
        }

    pub once_refused : i < k → MarkedMore w (get_or T i 0) n false w' → false ≡ fresh n [] (take k T ++ (last_in T ∷ []))
    once_refused h t =
        sym (o.is-left ∙ ap (fresh n o.seen) (here h)
        ∙ tested_off n most o.seen w o.marked (get_or T i 0) (drop (i + 1) (take k T) ++ (last_in T ∷ [])) w' t)

    pub once_last : k ≤ i → (r : Bool) → MarkedMore w (last_in T) n r w' → r ≡ fresh n [] (take k T ++ (last_in T ∷ []))
    unfolding fresh
    once_last h r t =
        let long = length-take-le k T within in
        let none = drop_of_length-le (take k T) {i = i} (omega arith) in
        let left = o.is-left ∙ ap (λ z. fresh n o.seen (z ++ (last_in T ∷ []))) none in
        go r t left
      where
        go : (b : Bool) → MarkedMore w (last_in T) n b w' →
            fresh n [] (take k T ++ (last_in T ∷ [])) ≡ fresh n o.seen (last_in T ∷ []) →
            b ≡ fresh n [] (take k T ++ (last_in T ∷ []))
        go true t e = sym (e ∙ (tested_on n most o.seen w o.marked (last_in T) [] w' t).2)
        go false t e = sym (e ∙ tested_off n most o.seen w o.marked (last_in T) [] w' t)
