-- The rows of a sentence. Their entries and the sentence's own object are its leaves and its groups' objects, each once. If its leaf
-- numbers are 1 to n, each once, the rows keep the tree rule over n leaves, their tree is the sentence's, and the leaves stand in the
-- order of the text.
use Prim.Native.Nat.{ℕ, zero, suc, pred, ◌+◌, ◌*◌, ◌≤◌, ◌<◌}
use mathlib.Core.Path.{◌≡◌, refl, sym, ap, ap₂, ◌∙◌}
use mathlib.Core.Logic.{◌≢◌}
use mathlib.Core.List.{List, [], ◌∷◌, ◌++◌, append_assoc, Permᴰ}
use native.Mathlib.Decide.{dec_le}
use native.Mathlib.Omega.{arith}
use lib.ListN.{length, get_or, length-append}
use lib.Seq.{append_snoc, get_or_at}
use Rattle.tanglegram.specs.Lists.{Each, Distinct, range, place}
use Rattle.tanglegram.specs.Tree.{fork, leaves, used, object, tree, Rule}
use Rattle.tanglegram.specs.Order.{byte, order}
use Rattle.tanglegram.proofs.Lists.{each-split, each-perm, pairwise_split, perm-append, append-nil, range-each, all_distinct, place_at}
use Rattle.tanglegram.proofs.ListSums.{range-append, range_last}
use Rattle.tanglegram.proofs.Tree.{object-leaf, object-fork}
use Rattle.work_trees.specs.Rows.{upper, lower}
use Rattle.newick.specs.Sentence.{Length, Sentence, number, group, groups, value, leaf_numbers, leaf_count}
use Rattle.newick.specs.Rows.{leaf_objects, object_from, rows_from, rows_of, tree_from}

-- ---- how many

pub groups-leaves : (s : Sentence) → suc (groups s) ≡ leaf_count s
unfolding groups leaf_numbers
groups-leaves (number ds l) = refl
groups-leaves (group a b l) = omega (arith, groups-leaves a, groups-leaves b, length-append (leaf_numbers a) (leaf_numbers b))

pub length-rows : (v : List ℕ → ℕ) (n k : ℕ) (s : Sentence) → length (rows_from v n k s) ≡ 2 * groups s
unfolding groups rows_from
length-rows v n k (number ds l) = refl
length-rows v n k (group a b l) =
    simp length-append (omega (arith, length-rows v n k a, length-rows v n (k + groups a) b))

-- ---- which

pub objects_value : (s : Sentence) → leaf_objects value s ≡ leaf_numbers s
unfolding leaf_objects leaf_numbers
objects_value (number ds l) = refl
objects_value (group a b l) = ap₂ ◌++◌ (objects_value a) (objects_value b)

-- two lists, each of two parts, by their first and their second parts
parts-perm : (a b c d : List ℕ) → Permᴰ (a ++ b ++ (c ++ d)) (a ++ c ++ (b ++ d))
parts-perm a b c d =
    rw (append_assoc a b (c ++ d), append_assoc a c (b ++ d), ← append_assoc b c d, ← append_assoc c b d)
    (mathlib.Core.List.Permᴰ.append_left a (mathlib.Core.List.Permᴰ.append_right d (mathlib.Core.List.Permᴰ.append_comm b c)))

-- the entries of a group's rows from those of its two parts
group-perm : (r r' g g' m m' : List ℕ) (x y z : ℕ) → Permᴰ (r ++ (x ∷ [])) (m ++ g) → Permᴰ (r' ++ (y ∷ [])) (m' ++ g') →
    Permᴰ (r ++ (r' ++ (x ∷ y ∷ [])) ++ (z ∷ [])) (m ++ m' ++ (g ++ g' ++ (z ∷ [])))
group-perm r r' g g' m m' x y z p q =
    let end = z ∷ [] in
    let own-last : Permᴰ (r ++ (r' ++ (x ∷ y ∷ []))) (r ++ (x ∷ []) ++ (r' ++ (y ∷ []))) =
    rw (append_snoc r x (r' ++ (y ∷ []))) (mathlib.Core.List.Permᴰ.append_left r (mathlib.Core.List.Permᴰ.middle x r' (y ∷ []))) in
    rw (← append_assoc (m ++ m') (g ++ g') end)
    (mathlib.Core.List.Permᴰ.append_right end (mathlib.Core.List.Permᴰ.trans own-last (mathlib.Core.List.Permᴰ.trans (perm-append p q) (parts-perm m g m' g'))))

-- the objects of a group, those of its two parts and its own
range-group : (n k g g' : ℕ) →
    range (n + suc k) (suc (g + g')) ≡ range (n + suc k) g ++ range (n + suc (k + g)) g' ++ ((n + (k + suc (g + g'))) ∷ [])
range-group n k g g' =
    let second : n + suc k + g ≡ n + suc (k + g) = omega arith in
    let own : n + suc k + (g + g') ≡ n + (k + suc (g + g')) = omega arith in
    rw (range_last (n + suc k) (g + g'), range-append (n + suc k) g g', second, own) refl

-- the entries of the rows and the sentence's object: the leaves, and the groups' objects
pub rows-perm : (v : List ℕ → ℕ) (n k : ℕ) (s : Sentence) →
    Permᴰ (rows_from v n k s ++ (object_from v n k s ∷ [])) (leaf_objects v s ++ range (n + suc k) (groups s))
unfolding groups rows_from leaf_objects range
rows-perm v n k (number ds l) = mathlib.Core.List.Permᴰ.refl (v ds ∷ [])
rows-perm v n k (group a b l) =
    let g = groups a in
    let g' = groups b in
    rw (range-group n k g g')
    (group-perm (rows_from v n k a) (rows_from v n (k + g) b) (range (n + suc k) g) (range (n + suc (k + g)) g')
    (leaf_objects v a) (leaf_objects v b) (object_from v n k a) (object_from v n (k + g) b) (n + (k + suc (g + g')))
    (rows-perm v n k a) (rows-perm v n (k + g) b))

-- ---- where they stand

-- the entries of the rows that a list T has for a sentence's groups, if k groups have closed before it begins
abbrev RowsAt : List ℕ → (List ℕ → ℕ) → ℕ → ℕ → Sentence → Type 0
RowsAt T v n k (number ds l) = Unit {0}
RowsAt T v n k (group a b l) =
    (upper T (k + groups (group a b l)) ≡ object_from v n k a) × (lower T (k + groups (group a b l)) ≡ object_from v n (k + groups a) b) ×
    RowsAt T v n k a × RowsAt T v n (k + groups a) b

row-there : (T front after : List ℕ) (x y i : ℕ) → T ≡ front ++ (x ∷ y ∷ after) → length front ≡ 2 * pred i →
    (upper T i ≡ x) × (lower T i ≡ y)
row-there T front after x y i e h =
    let behind = e ∙ sym (append_snoc front x (y ∷ after)) in
    let long : length (front ++ (x ∷ [])) ≡ 2 * pred i + 1 = omega (arith, length-append front (x ∷ [])) in
    (rw e (get_or_at front x (y ∷ after) 0 (2 * pred i) h), rw behind (get_or_at (front ++ (x ∷ [])) y after 0 (2 * pred i + 1) long))

-- a list with a sentence's rows behind k others
rows_at : (v : List ℕ → ℕ) (n k : ℕ) (s : Sentence) (T before after : List ℕ) → T ≡ before ++ (rows_from v n k s ++ after) →
    length before ≡ 2 * k → RowsAt T v n k s
unfolding groups rows_from
rows_at v n k (number ds l) T before after e h = tt
rows_at v n k (group a b l) T before after e h =
    let A = rows_from v n k a in
    let B = rows_from v n (k + groups a) b in
    let row = object_from v n k a ∷ object_from v n (k + groups a) b ∷ after in
    let first : T ≡ before ++ (A ++ (B ++ row)) = e ∙ simp append_assoc in
    let second = first ∙ sym (append_assoc before A (B ++ row)) in
    let long : length (before ++ A) ≡ 2 * (k + groups a) = omega (arith, length-append before A, length-rows v n k a) in
    let own = row-there T (before ++ A ++ B) after (object_from v n k a) (object_from v n (k + groups a) b) (k + groups (group a b l))
    (second ∙ sym (append_assoc (before ++ A) B row))
    (omega (arith, length-append (before ++ A) B, length-rows v n (k + groups a) b)) in (
      own.0,
      own.1,
      rows_at v n k a T before (B ++ row) first h,
      rows_at v n (k + groups a) b T (before ++ A) row second long,
    )

-- ---- the tree rule

-- a sentence's leaf numbers are among 1 to n
abbrev Among : ℕ → Sentence → Type 0
Among n s = Each (λ a. (1 ≤ a) × (a ≤ n)) (leaf_numbers s)

among-split : (n : ℕ) (a b : Sentence) (l : Length) → Among n (group a b l) → Among n a × Among n b
unfolding leaf_numbers
among-split n a b l p = each-split (λ x. (1 ≤ x) × (x ≤ n)) (leaf_numbers a) (leaf_numbers b) p

-- a sentence's object is a leaf, or the last of its groups' objects
object-within : (n k : ℕ) (s : Sentence) → Among n s →
    (1 ≤ object_from value n k s) × (object_from value n k s ≤ n + (k + groups s))
unfolding groups object_from leaf_numbers
object-within n k (number ds l) p = (p.0.0, omega (arith, p.0.1))
object-within n k (group a b l) p = (omega arith, omega arith)

-- the object of a whole sentence is the last
object-whole : (s : Sentence) → Among (leaf_count s) s → object_from value (leaf_count s) 0 s ≡ leaf_count s + pred (leaf_count s)
unfolding object_from leaf_numbers
object-whole (number ds l) p = omega (arith, p.0)
object-whole (group a b l) p = omega (arith, groups-leaves (group a b l))

-- row i has entries from 1 on, below the object that it makes
abbrev Within : List ℕ → ℕ → ℕ → Type 0
Within T n i = (1 ≤ upper T i) × (upper T i < n + i) × (1 ≤ lower T i) × (lower T i < n + i)

row_within : (T : List ℕ) (n k : ℕ) (s : Sentence) → RowsAt T value n k s → Among n s →
    (i : ℕ) → k < i → i ≤ k + groups s → Within T n i
unfolding groups
row_within T n k (number ds l) at p i h m = absurd (omega arith)
row_within T n k (group a b l) at p i h m =
    let r = among-split n a b l p in
    let u = object-within n k a r.0 in
    let w = object-within n (k + groups a) b r.1 in
    let own : Within T n (k + groups (group a b l)) =
    (omega (arith, at.0), omega (arith, at.0), omega (arith, at.1), omega (arith, at.1)) in
    go own (dec_le i (k + groups a)) (dec_le i (k + groups a + groups b))
    (λ q. row_within T n k a at.2 r.0 i h q) (λ q q'. row_within T n (k + groups a) b at.3 r.1 i q q')
  where
    go : Within T n (k + groups (group a b l)) → Dec (i ≤ k + groups a) → Dec (i ≤ k + groups a + groups b) →
        (i ≤ k + groups a → Within T n i) → (k + groups a < i → i ≤ k + groups a + groups b → Within T n i) → Within T n i
    go own (yes q) d f f' = f q
    go own (no q) (yes q') f f' = f' (omega arith) q'
    go own (no q) (no q') f f' = let e : i ≡ k + suc (groups a + groups b) = omega arith in rw e own

-- in a list without repeats, the entries at two places differ
at-apart : (xs : List ℕ) → Distinct xs → (i j : ℕ) → i < length xs → j < length xs → i ≢ j → get_or xs i 0 ≢ get_or xs j 0
at-apart xs d i j p q h e = h (sym (place_at xs i d p) ∙ ap (place xs) e ∙ place_at xs j d q)

-- what is true of the entries of rows 1 to m
used-each : (P : ℕ → Type 0) (up low : ℕ → ℕ) (m : ℕ) → ((j : ℕ) → 1 ≤ j → j ≤ m → P (up j) × P (low j)) → Each P (used up low m)
unfolding used
used-each P up low zero f = tt
used-each P up low (suc m) f =
    let r = f (suc m) (omega arith) (omega arith) in
    (r.0, (r.1, used-each P up low m (λ j p q. f j p (omega arith))))

-- ---- the leaves of a sentence's tree

pub tree-leaves : (k : ℕ) (s : Sentence) → leaves (tree_from k s) ≡ leaf_numbers s
unfolding leaves tree_from leaf_numbers
tree-leaves k (number ds l) = refl
tree-leaves k (group a b l) = ap₂ ◌++◌ (tree-leaves k a) (tree-leaves (k + groups a) b)

-- a layout that turns no row leaves the leaves in the order of the text
pub order-text : (lay : List ℕ) → ((i : ℕ) → byte lay i ≡ 0) → (k : ℕ) (s : Sentence) → order lay (tree_from k s) ≡ leaf_numbers s
unfolding order tree_from leaf_numbers
order-text lay z k (number ds l) = refl
order-text lay z k (group a b l) =
    rw (z (k + groups (group a b l))) (ap₂ ◌++◌ (order-text lay z k a) (order-text lay z (k + groups a) b))

-- ---- a sentence of the leaf numbers 1 to n, each once

module _ (s : Sentence) (once : Permᴰ (leaf_numbers s) (range 1 (leaf_count s))) where
  numbers-among : Among (leaf_count s) s
  numbers-among =
      let P : ℕ → Type 0 = λ a. (1 ≤ a) × (a ≤ leaf_count s) in
      each-perm P (mathlib.Core.List.Permᴰ.symm once) (range-each P 1 (leaf_count s) (λ i p q. (p, omega arith)))

  rows_stand : RowsAt (rows_of s) value (leaf_count s) 0 s
  unfolding rows_of
  rows_stand = rows_at value (leaf_count s) 0 s (rows_of s) [] [] (sym (append-nil (rows_of s))) refl

  -- no object is an entry twice
  rows_distinct : Distinct (rows_of s)
  unfolding rows_of
  rows_distinct =
      let n = leaf_count s in
      let g = groups s in
      let R = rows_from value n 0 s in
      let o = object_from value n 0 s in
      let e : n + suc 0 ≡ 1 + n = omega arith in
      let all : Permᴰ (R ++ (o ∷ [])) (range 1 (n + g)) =
      rw (range-append 1 n g, ← e)
      (mathlib.Core.List.Permᴰ.trans (rw (objects_value s) at (rows-perm value n 0 s)) (mathlib.Core.List.Permᴰ.append_right (range (n + suc 0) g) once)) in
      (pairwise_split (λ x y. x ≢ y) R (o ∷ []) (all_distinct (n + g) (R ++ (o ∷ [])) all)).0

  pub rows-rule : Rule (leaf_count s) (upper (rows_of s)) (lower (rows_of s))
  unfolding rows_of
  rows-rule i p q =
      let T = rows_of s in
      let w = row_within T (leaf_count s) 0 s rows_stand numbers-among i p (omega (arith, groups-leaves s)) in
      let long = length-rows value (leaf_count s) 0 s in
      let apart : (x y : ℕ) → x < 2 * i → y < 2 * i → x ≢ y → get_or T x 0 ≢ get_or T y 0 =
      λ x y a b. at-apart T rows_distinct x y (omega (arith, groups-leaves s)) (omega (arith, groups-leaves s)) in
      let new : (x : ℕ) → x < 2 * i → 2 * pred i ≤ x → Each (λ k. get_or T x 0 ≢ k) (used (upper T) (lower T) (pred i)) =
      λ x a b. used-each (λ k. get_or T x 0 ≢ k) (upper T) (lower T) (pred i) (λ j c d. (
        apart x (2 * pred j) a (omega arith) (omega arith),
        apart x (2 * pred j + 1) a (omega arith) (omega arith),
      )) in
      record {
        upper_least = w.0;
        upper-below = w.1;
        lower_least = w.2;
        lower-below = w.3;
        apart = apart (2 * pred i) (2 * pred i + 1) (omega arith) (omega arith) (omega arith);
        upper_new = new (2 * pred i) (omega arith) (omega arith);
        lower_new = new (2 * pred i + 1) (omega arith) (omega arith);
      }

  -- the object of a part of the sentence, behind k closed groups
  object-tree : (k : ℕ) (a : Sentence) → RowsAt (rows_of s) value (leaf_count s) k a → Among (leaf_count s) a →
      k + groups a < leaf_count s →
      object (upper (rows_of s)) (lower (rows_of s)) (leaf_count s) (object_from value (leaf_count s) k a) ≡ tree_from k a
  unfolding groups object_from leaf_numbers tree_from
  object-tree k (number ds l) at p h = object-leaf (leaf_count s) (upper (rows_of s)) (lower (rows_of s)) rows-rule (value ds) p.0.1
  object-tree k (group a b l) at p h =
      let r = among-split (leaf_count s) a b l p in
      let i = k + suc (groups a + groups b) in
      object-fork (leaf_count s) (upper (rows_of s)) (lower (rows_of s)) rows-rule i (omega arith) h
      ∙ rw (at.0, at.1)
      (ap₂ (fork i) (object-tree k a at.2 r.0 (omega arith)) (object-tree (k + groups a) b at.3 r.1 (omega arith)))

  pub rows-tree : tree (upper (rows_of s)) (lower (rows_of s)) (leaf_count s) ≡ tree_from 0 s
  rows-tree =
      ap (object (upper (rows_of s)) (lower (rows_of s)) (leaf_count s)) (sym (object-whole s numbers-among))
      ∙ object-tree 0 s rows_stand numbers-among (omega (arith, groups-leaves s))

  pub rows-order : (lay : List ℕ) → ((i : ℕ) → byte lay i ≡ 0) →
      order lay (tree (upper (rows_of s)) (lower (rows_of s)) (leaf_count s)) ≡ leaf_numbers s
  rows-order lay z = rw rows-tree (order-text lay z 0 s)
