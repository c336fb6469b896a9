-- What is written for a tree is a good text that is read back: its leaf numbers stand in the layout's order, the tree that it says has
-- the same leaves under its rows, and writing that tree as it is given writes the same text. Also how long the text is.
use Prim.Native.Nat.{ℕ, zero, suc, ◌+◌, ◌-◌, ◌*◌, ◌/◌, ◌%◌, ◌≤◌, ◌<◌}
use mathlib.Core.Path.{◌≡◌, refl, ap, ap₂, ◌∙◌}
use mathlib.Core.Logic.{◌≢◌, inl, inr}
use mathlib.Core.Bool.{Bool, true, false, cond}
use mathlib.Core.List.Permᴰ
use mathlib.Core.List.{List, [], ◌∷◌, ◌++◌, Permᴰ}
use native.Mathlib.Numerals.{add-one}
use native.Mathlib.Omega.{arith}
use borrow.Author.Tests.{ltb-true, ltb-false}
use lib.Dec.{ltb}
use lib.ListN.{length, get_or, length-append}
use Rattle.tanglegram.specs.Lists.{Each, range}
use Rattle.tanglegram.specs.Tree.{Tree, leaf, fork, leaves}
use Rattle.tanglegram.specs.Order.{byte, turned, order}
use Rattle.tanglegram.specs.Entanglement.{sum}
use Rattle.tanglegram.proofs.Lists.{each_map, each-split, length-perm, all-length}
use Rattle.tanglegram.proofs.ListSums.{sum-append, sum-last, sum-perm}
use Rattle.tanglegram.proofs.Tree.{each_row_map}
use Rattle.tanglegram.proofs.Order.{order-perm}
use Rattle.newick.specs.Sentence.{Sentence, number, group, none, spell, opens, groups, semicolon}
use Rattle.newick.specs.Sentence.{value_from, value, leaf_numbers, leaf_count}
use Rattle.newick.specs.Grammar.{Digit, Good, Spells}
use Rattle.newick.specs.Rows.{tree_from}
use Rattle.newick.specs.Writing.{decimal, sentence_of, text_of, text_length}
use Rattle.newick.specs.Same.{SetsIn, SameSets}
use Rattle.newick.proofs.Rows.{groups-leaves, tree-leaves}

-- a tree whose leaf numbers can be written
abbrev pub Writable : Tree → Type 0
Writable t = Each (λ a. (1 ≤ a) × (a < 1000)) (leaves t)

writable_split : (i : ℕ) (u l : Tree) → Writable (fork i u l) → Writable u × Writable l
unfolding leaves
writable_split i u l p = each-split (λ a. (1 ≤ a) × (a < 1000)) (leaves u) (leaves l) p

-- ---- a leaf's number

-- what is true of the digits of a number of one, of two and of three digits
decimal-true : (P : List ℕ → Type 0) (a : ℕ) → (a < 10 → P ((48 + a) ∷ [])) →
    (10 ≤ a → a < 100 → P ((48 + a / 10) ∷ (48 + a % 10) ∷ [])) →
    (100 ≤ a → P ((48 + a / 100) ∷ (48 + a / 10 % 10) ∷ (48 + a % 10) ∷ [])) → P (decimal a)
unfolding decimal
decimal-true P a one two three = go (ltb a 10) refl (ltb a 100) refl
  where
    go : (b : Bool) → ltb a 10 ≡ b → (c : Bool) → ltb a 100 ≡ c →
        P (cond b ((48 + a) ∷ []) (cond c ((48 + a / 10) ∷ (48 + a % 10) ∷ [])
        ((48 + a / 100) ∷ (48 + a / 10 % 10) ∷ (48 + a % 10) ∷ [])))
    go true e c f = one (ltb-true a 10 e)
    go false e true f = two (ltb-false a 10 e) (ltb-true a 100 f)
    go false e false f = three (ltb-false a 100 f)

pub decimal-value : (a : ℕ) → a < 1000 → value (decimal a) ≡ a
unfolding value_from
decimal-value a h =
    decimal-true (λ ds. value ds ≡ a) a (λ p. omega arith) (λ p q. omega arith) (λ p. omega arith)

pub decimal-digits : (a : ℕ) → a < 1000 → Each Digit (decimal a)
decimal-digits a h =
    decimal-true (λ ds. Each Digit ds) a (λ p. omega arith) (λ p q. omega arith) (λ p. omega arith)

pub decimal-good : (a : ℕ) → 1 ≤ a → a < 1000 → Good (number (decimal a) none)
decimal-good a p h = (
  decimal-digits a h,
  decimal-true (λ ds. 1 ≤ length ds) a (λ q. omega arith) (λ q r. omega arith) (λ q. omega arith),
  decimal-true (λ ds. get_or ds 0 0 ≢ 48) a (λ q. omega arith) (λ q r. omega arith) (λ q. omega arith),
  tt,
)

-- ---- the sentence of a tree

-- two layouts that turn the same rows give the same sentence
pub sentence_same : (lay lay' : List ℕ) → ((i : ℕ) → turned (byte lay i) ≡ turned (byte lay' i)) → (t : Tree) →
    sentence_of lay t ≡ sentence_of lay' t
unfolding sentence_of
sentence_same lay lay' h (leaf a) = refl
sentence_same lay lay' h (fork i u l) = rw (h i, sentence_same lay lay' h u, sentence_same lay lay' h l) refl

-- what is true of a leaf's number, and of a group if it is true of its two parts
sentence_true : (P : Sentence → Type 0) (lay : List ℕ) → ((a b : Sentence) → P a → P b → P (group a b none)) →
    (t : Tree) → Each (λ a. P (number (decimal a) none)) (leaves t) → P (sentence_of lay t)
unfolding sentence_of leaves
sentence_true P lay f (leaf a) p = p.0
sentence_true P lay f (fork i u l) p =
    let r = each-split (λ a. P (number (decimal a) none)) (leaves u) (leaves l) p in
    go (turned (byte lay i)) (sentence_true P lay f u r.0) (sentence_true P lay f l r.1)
  where
    go : (b : Bool) → P (sentence_of lay u) → P (sentence_of lay l) →
        P (cond b (group (sentence_of lay l) (sentence_of lay u) none) (group (sentence_of lay u) (sentence_of lay l) none))
    go true x y = f (sentence_of lay l) (sentence_of lay u) y x
    go false x y = f (sentence_of lay u) (sentence_of lay l) x y

pub written-leaves : (lay : List ℕ) (t : Tree) → Writable t → leaf_numbers (sentence_of lay t) ≡ order lay t
unfolding sentence_of leaf_numbers order leaves
written-leaves lay (leaf a) p = ap (λ x. x ∷ []) (decimal-value a p.0.1)
written-leaves lay (fork i u l) p =
    let r = writable_split i u l p in
    go (turned (byte lay i)) (written-leaves lay u r.0) (written-leaves lay l r.1)
  where
    go : (b : Bool) → leaf_numbers (sentence_of lay u) ≡ order lay u → leaf_numbers (sentence_of lay l) ≡ order lay l →
        leaf_numbers (cond b (group (sentence_of lay l) (sentence_of lay u) none) (group (sentence_of lay u) (sentence_of lay l) none))
        ≡ cond b (order lay l ++ order lay u) (order lay u ++ order lay l)
    go true x y = ap₂ ◌++◌ y x
    go false x y = ap₂ ◌++◌ x y

opens-groups : (s : Sentence) → opens s ≤ groups s
unfolding opens groups
opens-groups (number ds l) = omega arith
opens-groups (group a b l) = omega (arith, opens-groups a, opens-groups b)

pub written_spells : (lay : List ℕ) (t : Tree) → Writable t → length (leaves t) ≤ 512 →
    Spells (text_of (sentence_of lay t)) (sentence_of lay t)
unfolding text_of
written_spells lay t p h =
    let s = sentence_of lay t in
    let count : leaf_count s ≡ length (leaves t) = ap length (written-leaves lay t p) ∙ length-perm (order-perm lay t) in
    record {
      good =
          sentence_true Good lay (λ a b x y. (x, y, tt)) t (each_map (leaves t) (λ a q. decimal-good a q.0 q.1) p);
      few_open = omega (arith, opens-groups s, groups-leaves s);
      spelled = inl refl;
    }

-- ---- the tree that it says

-- as given it is written the same
pub written-again : (lay lay' : List ℕ) (k : ℕ) (t : Tree) → Writable t → ((i : ℕ) → byte lay' i ≡ 0) →
    sentence_of lay' (tree_from k (sentence_of lay t)) ≡ sentence_of lay t
unfolding sentence_of groups tree_from
written-again lay lay' k t p z =
    sentence_true (λ s. (j : ℕ) → sentence_of lay' (tree_from j s) ≡ s) lay
    (λ a b x y j. rw (z (j + suc (groups a + groups b))) (ap₂ (λ c d. group c d none) (x j) (y (j + groups a))))
    t (each_map (leaves t) (λ a q j. ap (λ x. number (decimal x) none) (decimal-value a q.1)) p) k

leaves-again : (lay : List ℕ) (k : ℕ) (t : Tree) → Writable t → Permᴰ (leaves t) (leaves (tree_from k (sentence_of lay t)))
leaves-again lay k t p = rw (tree-leaves k (sentence_of lay t) ∙ written-leaves lay t p) (Permᴰ.symm (order-perm lay t))

in_upper : (t : Tree) (j : ℕ) (u l : Tree) → SetsIn t u → SetsIn t (fork j u l)
in_upper t j u l p = each_row_map t (λ i a b q. inr (inl q)) p

in_lower : (t : Tree) (j : ℕ) (u l : Tree) → SetsIn t l → SetsIn t (fork j u l)
in_lower t j u l p = each_row_map t (λ i a b q. inr (inr q)) p

-- of a row made of two children that say the same, either way round
same-fork : (i j : ℕ) (u l u' l' : Tree) → SameSets u u' → SameSets l l' → Permᴰ (leaves (fork i u l)) (leaves (fork j u' l')) →
    SameSets (fork i u l) (fork j u' l')
unfolding leaves
same-fork i j u l u' l' p q r = record {
  there = (inl r, in_upper u j u' l' p.there, in_lower l j u' l' q.there);
  back = (inl (Permᴰ.symm r), in_upper u' i u l p.back, in_lower l' i u l q.back);
}

same-turned : (i j : ℕ) (u l u' l' : Tree) → SameSets u u' → SameSets l l' → Permᴰ (leaves (fork i u l)) (leaves (fork j l' u')) →
    SameSets (fork i u l) (fork j l' u')
unfolding leaves
same-turned i j u l u' l' p q r = record {
  there = (inl r, in_lower u j l' u' p.there, in_upper l j l' u' q.there);
  back = (inl (Permᴰ.symm r), in_lower l' i u l q.back, in_upper u' i u l p.back);
}

-- its rows have the same leaves under them
pub written-sets : (lay : List ℕ) (k : ℕ) (t : Tree) → Writable t → SameSets t (tree_from k (sentence_of lay t))
unfolding sentence_of groups tree_from leaves
written-sets lay k (leaf a) p = record { there = tt; back = tt }
written-sets lay k (fork i u l) p =
    let r = writable_split i u l p in
    go (turned (byte lay i)) (λ j. written-sets lay j u r.0) (λ j. written-sets lay j l r.1) (leaves-again lay k (fork i u l) p)
  where
    x : Sentence
    x = sentence_of lay u

    y : Sentence
    y = sentence_of lay l

    go : (b : Bool) → ((j : ℕ) → SameSets u (tree_from j x)) → ((j : ℕ) → SameSets l (tree_from j y)) →
        Permᴰ (leaves (fork i u l)) (leaves (tree_from k (cond b (group y x none) (group x y none)))) →
        SameSets (fork i u l) (tree_from k (cond b (group y x none) (group x y none)))
    go true f g d =
        same-turned i (k + suc (groups y + groups x)) u l (tree_from (k + groups y) x) (tree_from k y) (f (k + groups y)) (g k) d
    go false f g d =
        same-fork i (k + suc (groups x + groups y)) u l (tree_from k x) (tree_from (k + groups x) y) (f k) (g (k + groups x)) d

-- ---- how long the text is

digits_of : ℕ → ℕ
digits_of a = length (decimal a)

one_more : (n : ℕ) → digits_of (suc n) + (n - 9) + (n - 99) ≡ 1 + (suc n - 9) + (suc n - 99)
unfolding digits_of
one_more n =
    decimal-true (λ ds. length ds + (n - 9) + (n - 99) ≡ 1 + (suc n - 9) + (suc n - 99)) (suc n)
    (λ p. omega arith) (λ p q. omega arith) (λ p. omega arith)

-- the digits of 1 to n: n numbers, those above 9 once more, those above 99 once more
digits_sum : (n : ℕ) → sum digits_of (range 1 n) ≡ n + (n - 9) + (n - 99)
unfolding sum range
digits_sum zero = refl
digits_sum (suc n) = omega (arith, rw (add-one n) at (sum-last digits_of n), one_more n, digits_sum n)

-- three bytes a group
group-length : (a b : Sentence) → length (spell (group a b none)) ≡ length (spell a) + length (spell b) + 3
unfolding spell
group-length a b = simp length-append (omega arith)

spell-length : (lay : List ℕ) (t : Tree) → length (spell (sentence_of lay t)) + 3 ≡ sum digits_of (leaves t) + 3 * length (leaves t)
unfolding sentence_of spell sum leaves digits_of
spell-length lay (leaf a) = omega (arith, length-append (decimal a) [])
spell-length lay (fork i u l) = go (turned (byte lay i)) (spell-length lay u) (spell-length lay l)
  where
    x : Sentence
    x = sentence_of lay u

    y : Sentence
    y = sentence_of lay l

    go : (b : Bool) → length (spell x) + 3 ≡ sum digits_of (leaves u) + 3 * length (leaves u) →
        length (spell y) + 3 ≡ sum digits_of (leaves l) + 3 * length (leaves l) →
        length (spell (cond b (group y x none) (group x y none))) + 3
        ≡ sum digits_of (leaves u ++ leaves l) + 3 * length (leaves u ++ leaves l)
    go true p q = omega (arith, group-length y x, sum-append digits_of (leaves u) (leaves l), length-append (leaves u) (leaves l))
    go false p q = omega (arith, group-length x y, sum-append digits_of (leaves u) (leaves l), length-append (leaves u) (leaves l))

text-length : (n : ℕ) → text_length n ≡ n + (n - 9) + (n - 99) + 3 * n - 2
unfolding text_length
text-length n = go (ltb n 10) refl (ltb n 100) refl
  where
    go : (b : Bool) → ltb n 10 ≡ b → (c : Bool) → ltb n 100 ≡ c →
        cond b (4 * n - 2) (cond c (5 * n - 11) (6 * n - 110)) ≡ n + (n - 9) + (n - 99) + 3 * n - 2
    go true e c f = omega (arith, ltb-true n 10 e)
    go false e true f = omega (arith, ltb-false n 10 e, ltb-true n 100 f)
    go false e false f = omega (arith, ltb-false n 100 f)

pub written-length : (n : ℕ) (lay : List ℕ) (t : Tree) → 1 ≤ n → n ≤ 512 → Permᴰ (leaves t) (range 1 n) →
    length (text_of (sentence_of lay t)) ≡ text_length n
unfolding text_of
written-length n lay t _ _ d =
    let spelled = spell-length lay t in
    let digits = sum-perm digits_of d ∙ digits_sum n in
    let many = all-length n (leaves t) d in
    let whole = length-append (spell (sentence_of lay t)) (semicolon ∷ []) in
    omega (arith, text-length n)

pub text-most : (n : ℕ) → n ≤ 512 → text_length n ≤ 2962
text-most n h = omega (arith, text-length n)
