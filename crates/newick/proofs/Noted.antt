-- Rows as they are noted: with the number of leaves put in they are the sentence's rows, and the leaves among their entries are the
-- sentence's. The noted leaves are 1 to n, each once, exactly if the leaf numbers are.
use Prim.Native.Nat.{ℕ, suc, ◌+◌, ◌≤◌, ◌<◌}
use mathlib.Core.Path.{◌≡◌, refl, ap, ap₂, ◌∙◌}
use mathlib.Core.Logic.{◌↔◌}
use mathlib.Core.Bool.{Bool, true, false, cond}
use mathlib.Core.List.Permᴰ
use mathlib.Core.List.{List, [], ◌∷◌, ◌++◌, map, map-append, Permᴰ}
use native.Mathlib.Omega.{arith}
use borrow.Author.Tests.{leb-true, le-leb, lt-ltb, le-ltb}
use lib.Dec.{leb, ltb}
use Rattle.tanglegram.specs.Lists.{Each, range}
use Rattle.tanglegram.proofs.Lists.{each_map, each-split, each_append, each-perm, append-nil, range-each}
use Rattle.newick.specs.Sentence.{Sentence, number, group, groups, value, leaf_numbers}
use Rattle.newick.specs.Rows.{leaf_objects, object_from, rows_from}
use Rattle.newick.specs.Noted.{noted, noted_leaves, fixed, leaves_in}
use Rattle.newick.proofs.Rows.{rows-perm}

-- ---- leaves

noted-most : (ds : List ℕ) → noted ds ≤ 512
unfolding noted
noted-most ds = go (leb (value ds) 512) refl
  where
    go : (b : Bool) → leb (value ds) 512 ≡ b → cond b (value ds) 0 ≤ 512
    go true e = leb-true (value ds) 512 e
    go false e = omega arith

noted-value : (ds : List ℕ) → value ds ≤ 512 → noted ds ≡ value ds
unfolding noted
noted-value ds h = rw (le-leb (value ds) 512 h) refl

-- what is noted as a leaf is its number
noted-some : (ds : List ℕ) → 1 ≤ noted ds → value ds ≤ 512
unfolding noted
noted-some ds h = go (leb (value ds) 512) refl h
  where
    go : (b : Bool) → leb (value ds) 512 ≡ b → 1 ≤ cond b (value ds) 0 → value ds ≤ 512
    go true e h = leb-true (value ds) 512 e
    go false e h = absurd (omega arith)

each-noted : (s : Sentence) → Each (λ a. a ≤ 512) (noted_leaves s)
unfolding noted_leaves leaf_objects
each-noted (number ds l) = (noted-most ds, tt)
each-noted (group a b l) = each_append (λ a. a ≤ 512) (noted_leaves a) (noted_leaves b) (each-noted a) (each-noted b)

pub noted-same : (s : Sentence) → Each (λ a. a ≤ 512) (leaf_numbers s) → noted_leaves s ≡ leaf_numbers s
unfolding noted_leaves leaf_numbers leaf_objects
noted-same (number ds l) p = ap (λ x. x ∷ []) (noted-value ds p.0)
noted-same (group a b l) p =
    let r = each-split (λ a. a ≤ 512) (leaf_numbers a) (leaf_numbers b) p in
    ap₂ ◌++◌ (noted-same a r.0) (noted-same b r.1)

some_same : (s : Sentence) → Each (λ a. 1 ≤ a) (noted_leaves s) → noted_leaves s ≡ leaf_numbers s
unfolding noted_leaves leaf_numbers leaf_objects
some_same (number ds l) p = ap (λ x. x ∷ []) (noted-value ds (noted-some ds p.0))
some_same (group a b l) p =
    let r = each-split (λ a. 1 ≤ a) (noted_leaves a) (noted_leaves b) p in
    ap₂ ◌++◌ (some_same a r.0) (some_same b r.1)

pub noted_once : (s : Sentence) (n : ℕ) → n ≤ 512 → Permᴰ (noted_leaves s) (range 1 n) ↔ Permᴰ (leaf_numbers s) (range 1 n)
noted_once s n h = (
  λ d. rw (some_same s (each-perm (λ a. 1 ≤ a) (Permᴰ.symm d) (range-each (λ a. 1 ≤ a) 1 n (λ i p q. p)))) at d,
  λ d. rw (noted-same s (each-perm (λ a. a ≤ 512) (Permᴰ.symm d) (range-each (λ a. a ≤ 512) 1 n (λ i p q. omega arith)))) d,
)

-- ---- rows

fixed-leaf : (n e : ℕ) → e < 1024 → fixed n e ≡ e
unfolding fixed
fixed-leaf n e h = rw (lt-ltb e 1024 h) refl

fixed_made : (n i : ℕ) → 1 ≤ i → fixed n (1023 + i) ≡ n + i
unfolding fixed
fixed_made n i h = rw (le-ltb (1023 + i) 1024 (omega arith)) (omega arith)

fixed-object : (n k : ℕ) (s : Sentence) → Each (λ a. a ≤ 512) (leaf_numbers s) → fixed n (object_from noted 1023 k s) ≡ object_from value n k s
unfolding groups object_from leaf_numbers
fixed-object n k (number ds l) p = fixed-leaf n (noted ds) (omega (arith, noted-most ds)) ∙ noted-value ds p.0
fixed-object n k (group a b l) p = fixed_made n (k + groups (group a b l)) (omega arith)

-- the rows once there are n leaves
pub fixed-rows : (n k : ℕ) (s : Sentence) → Each (λ a. a ≤ 512) (leaf_numbers s) →
    map (fixed n) (rows_from noted 1023 k s) ≡ rows_from value n k s
unfolding rows_from leaf_numbers
fixed-rows n k (number ds l) p = refl
fixed-rows n k (group a b l) p =
    let r = each-split (λ a. a ≤ 512) (leaf_numbers a) (leaf_numbers b) p in
    let k' = k + groups a in
    let row = object_from noted 1023 k a ∷ object_from noted 1023 k' b ∷ [] in
    rw (
      map-append (fixed n) (rows_from noted 1023 k a) (rows_from noted 1023 k' b ++ row),
      map-append (fixed n) (rows_from noted 1023 k' b) row,
      fixed-rows n k a r.0,
      fixed-rows n k' b r.1,
      fixed-object n k a r.0,
      fixed-object n k' b r.1,
    ) refl

-- ---- the leaves among noted entries

leaves_in-append : (xs ys : List ℕ) → leaves_in (xs ++ ys) ≡ leaves_in xs ++ leaves_in ys
unfolding leaves_in
leaves_in-append [] ys = refl
leaves_in-append (x ∷ xs) ys = go (ltb x 1024) (leaves_in-append xs ys)
  where
    go : (b : Bool) → leaves_in (xs ++ ys) ≡ leaves_in xs ++ leaves_in ys →
        cond b (x ∷ leaves_in (xs ++ ys)) (leaves_in (xs ++ ys)) ≡ cond b (x ∷ leaves_in xs) (leaves_in xs) ++ leaves_in ys
    go true r = ap (λ l. x ∷ l) r
    go false r = r

leaves_in-all : (xs : List ℕ) → Each (λ x. x < 1024) xs → leaves_in xs ≡ xs
unfolding leaves_in
leaves_in-all [] p = refl
leaves_in-all (x ∷ xs) p = rw (lt-ltb x 1024 p.0) (ap (λ l. x ∷ l) (leaves_in-all xs p.1))

leaves_in-none : (xs : List ℕ) → Each (λ x. 1024 ≤ x) xs → leaves_in xs ≡ []
unfolding leaves_in
leaves_in-none [] p = refl
leaves_in-none (x ∷ xs) p = rw (le-ltb x 1024 p.0) (leaves_in-none xs p.1)

leaves_in-perm : {xs ys : List ℕ} → Permᴰ xs ys → Permᴰ (leaves_in xs) (leaves_in ys)
unfolding leaves_in
leaves_in-perm Permᴰ.nil = Permᴰ.nil
leaves_in-perm (Permᴰ.cons {a = a} {l₁ = xs} {l₂ = ys} e d) = rw (← e) (go (ltb a 1024) (leaves_in-perm d))
  where
    go : (c : Bool) → Permᴰ (leaves_in xs) (leaves_in ys) →
        Permᴰ (cond c (a ∷ leaves_in xs) (leaves_in xs)) (cond c (a ∷ leaves_in ys) (leaves_in ys))
    go true r = Permᴰ.cons refl r
    go false r = r
leaves_in-perm (Permᴰ.swap {a = a} {b = b} {l = l} e f) = rw (← e, ← f) (go (ltb a 1024) (ltb b 1024))
  where
    rest : List ℕ
    rest = leaves_in l

    go : (c d : Bool) → Permᴰ
        (cond c (a ∷ cond d (b ∷ rest) rest) (cond d (b ∷ rest) rest)) (cond d (b ∷ cond c (a ∷ rest) rest) (cond c (a ∷ rest) rest))
    go true true = Permᴰ.swap refl refl
    go true false = Permᴰ.refl (a ∷ rest)
    go false true = Permᴰ.refl (b ∷ rest)
    go false false = Permᴰ.refl rest
leaves_in-perm (Permᴰ.trans d e) = Permᴰ.trans (leaves_in-perm d) (leaves_in-perm e)

-- the leaves among the entries of the rows and the sentence's own object
pub leaves-noted : (k : ℕ) (s : Sentence) →
    Permᴰ (leaves_in (rows_from noted 1023 k s ++ (object_from noted 1023 k s ∷ []))) (noted_leaves s)
unfolding noted_leaves
leaves-noted k s =
    let made = range (1023 + suc k) (groups s) in
    let all = leaves_in-all (noted_leaves s) (each_map (noted_leaves s) (λ x h. omega arith) (each-noted s)) in
    let none = leaves_in-none made (range-each (λ x. 1024 ≤ x) (1023 + suc k) (groups s) (λ i p q. omega arith)) in
    rw (leaves_in-append (noted_leaves s) made ∙ ap₂ ◌++◌ all none ∙ append-nil (noted_leaves s)) at (leaves_in-perm (rows-perm noted 1023 k s))

-- of a group the rows have them all
pub leaves-noted-rows : (s : Sentence) → 1 ≤ groups s → Permᴰ (leaves_in (rows_from noted 1023 0 s)) (noted_leaves s)
unfolding groups object_from
leaves-noted-rows (number ds l) h = absurd (omega arith)
leaves-noted-rows (group a b l) h =
    let rows = rows_from noted 1023 0 (group a b l) in
    let own = object_from noted 1023 0 (group a b l) ∷ [] in
    let none = leaves_in-none own (omega arith, tt) in
    rw (leaves_in-append rows own ∙ ap (λ r. leaves_in rows ++ r) none ∙ append-nil (leaves_in rows)) at (leaves-noted 0 (group a b l))
