-- Laws of the tests on lists that the refusals use: each entry passes, a number is among the entries, links are one-to-one.
use Prim.Native.Nat.{ℕ, ◌≤◌, ◌<◌, ◌+◌}
use mathlib.Core.Path.{◌≡◌, refl, sym, ap, ◌∙◌}
use mathlib.Core.Logic.{◌↔◌}
use mathlib.Core.Bool.{Bool, true, false, ◌&&◌, ◌||◌, false≢true}
use mathlib.Core.List.Permᴰ
use mathlib.Core.List.{List, [], ◌∷◌, ◌++◌, Permᴰ, Memᴰ}
use borrow.Author.Tests.{eqb-true, eq-eqb, leb-true, le-leb, lt-leb}
use lib.Dec.{eqb, leb}
use lib.ListN.{length, get_or, take}
use Rattle.tanglegram.specs.Lists.{Each, range}
use Rattle.tanglegram.proofs.Bools.{and_both}
use Rattle.tanglegram.proofs.Lists.{each_map, each_intro, mem-perm, mem-at, pigeon, range_distinct, length-range}
use Rattle.work_tree_rule.specs.Rule.{among}
use Rattle.record_fields.specs.Refusals.{all, is_layout, one_to_one}
use Rattle.work_trees.proofs.Stores.{take_more}

-- ---- each entry passes a test

pub all-each : (p : ℕ → Bool) (xs : List ℕ) → all p xs ≡ true → Each (λ x. p x ≡ true) xs
unfolding all
all-each p [] e = tt
all-each p (x ∷ xs) e = let r = and_both (p x) (all p xs) e in (r.0, all-each p xs r.1)

pub all_of_each : (p : ℕ → Bool) (xs : List ℕ) → Each (λ x. p x ≡ true) xs → all p xs ≡ true
unfolding all
all_of_each p [] e = refl
all_of_each p (x ∷ xs) e = rw e.0 (all_of_each p xs e.1)

pub all_ext : (p q : ℕ → Bool) (xs : List ℕ) → Each (λ x. p x ≡ q x) xs → all p xs ≡ all q xs
unfolding all
all_ext p q [] e = refl
all_ext p q (x ∷ xs) e = rw (e.0, all_ext p q xs e.1) refl

pub all_append : (p : ℕ → Bool) (xs ys : List ℕ) → all p (xs ++ ys) ≡ all p xs && all p ys
unfolding all
all_append p [] ys = refl
all_append p (x ∷ xs) ys = go (p x) (all_append p xs ys)
  where
    go : (b : Bool) → all p (xs ++ ys) ≡ all p xs && all p ys → b && all p (xs ++ ys) ≡ b && all p xs && all p ys
    go true e = e
    go false e = refl

-- an entry that fails fails them all
pub all_fails : (p : ℕ → Bool) {x : ℕ} {xs : List ℕ} → Memᴰ x xs → p x ≡ false → all p xs ≡ false
unfolding all
all_fails p (Memᴰ.head {x = y} {xs = ys} e) f = rw (sym (ap p e) ∙ f) refl
all_fails p (Memᴰ.tail {x = y} {xs = ys} m) f = rw (all_fails p m f) (go (p y))
  where
    go : (b : Bool) → b && false ≡ false
    go true = refl
    go false = refl

-- ---- among the entries

or_either : (a b : Bool) → b ≡ true → a || b ≡ true
or_either true b e = refl
or_either false b e = e

pub mem-among : {v : ℕ} {xs : List ℕ} → Memᴰ v xs → among v xs ≡ true
unfolding among
mem-among {v} (Memᴰ.head {x = x} e) = rw (eq-eqb v x e) refl
mem-among {v} (Memᴰ.tail {x = x} {xs = xs} m) = or_either (eqb v x) (among v xs) (mem-among m)

pub among-mem : (v : ℕ) (xs : List ℕ) → among v xs ≡ true → Memᴰ v xs
unfolding among
among-mem v [] e = absurd (false≢true e)
among-mem v (x ∷ xs) e = go (eqb v x) refl e (among-mem v xs)
  where
    go : (b : Bool) → eqb v x ≡ b → b || among v xs ≡ true → (among v xs ≡ true → Memᴰ v xs) → Memᴰ v (x ∷ xs)
    go true f e r = Memᴰ.head (eqb-true v x f)
    go false f e r = Memᴰ.tail (r e)

-- n links that take each value from 1 to n are these values in some order, and the other way round
pub one_to_one_perm : (n : ℕ) (ps : List ℕ) → length ps ≡ n → (one_to_one n ps ≡ true) ↔ Permᴰ ps (range 1 n)
unfolding one_to_one
one_to_one_perm n ps e = (
  λ t.
      Permᴰ.symm (pigeon (range 1 n) ps (range_distinct 1 n)
      (each_map (range 1 n) (λ c h. among-mem c ps h) (all-each (λ c. among c ps) (range 1 n) t)) (length-range 1 n ∙ sym e)),
  λ d.
      all_of_each (λ c. among c ps) (range 1 n)
      (each_intro (λ c. among c ps ≡ true) (range 1 n) (λ c m. mem-among (mem-perm (Permᴰ.symm d) m))),
)

-- ---- a layout, byte by byte

pub layout-small : (xs : List ℕ) → is_layout xs ≡ true → Each (λ x. x ≤ 3) xs
unfolding is_layout
layout-small xs e = each_map xs (λ x h. leb-true x 3 h) (all-each (λ x. leb x 3) xs e)

pub small-layout : (xs : List ℕ) → Each (λ x. x ≤ 3) xs → is_layout xs ≡ true
unfolding is_layout
small-layout xs e = all_of_each (λ x. leb x 3) xs (each_map xs (λ x h. le-leb x 3 h) e)

pub no_bytes : is_layout [] ≡ true
unfolding is_layout all
no_bytes = refl

pub layout-more : (xs : List ℕ) (i : ℕ) → i < length xs → is_layout (take i xs) ≡ true → get_or xs i 0 ≤ 3 →
    is_layout (take (i + 1) xs) ≡ true
unfolding is_layout all
layout-more xs i h e b =
    ap (all (λ x. leb x 3)) (take_more xs i 0 h)
    ∙ all_append (λ x. leb x 3) (take i xs) (get_or xs i 0 ∷ [])
    ∙ rw (e, le-leb (get_or xs i 0) 3 b) refl

pub layout_fails : (xs : List ℕ) (i : ℕ) → i < length xs → 3 < get_or xs i 0 → is_layout xs ≡ false
unfolding is_layout
layout_fails xs i h b = all_fails (λ x. leb x 3) (mem-at xs i h) (lt-leb (get_or xs i 0) 3 b)
