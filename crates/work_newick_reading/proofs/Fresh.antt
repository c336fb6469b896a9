-- What the test of the leaves says: each is from 1 to n and none stands twice.
use Prim.Native.Nat.{ℕ, ◌≤◌, ◌<◌}
use mathlib.Core.Path.{◌≡◌, refl, sym, ◌∙◌}
use mathlib.Core.Logic.{◌≢◌, ◌↔◌}
use mathlib.Core.Bool.{Bool, true, false, ◌||◌}
use mathlib.Core.List.{List, [], ◌∷◌, Permᴰ}
use mathlib.Core.List.Permᴰ
use native.Mathlib.Decide.{dec_le}
use native.Mathlib.Omega.{arith}
use borrow.Author.Tests.{ne_eqb, eqb-false, lt-ltb, le-ltb}
use lib.Dec.{eqb}
use lib.ListN.{length}
use Rattle.tanglegram.specs.Lists.{Each, Distinct, range}
use Rattle.tanglegram.proofs.Lists.{each_map, each_zip, each-perm, all_distinct, one_to_one, range-each}
use Rattle.work_tree_rule.specs.Rule.{among}
use Rattle.newick.specs.Noted.{leaves_in}
use Rattle.work_newick_reading.specs.Once.{refused_leaf, fresh}
use Rattle.work_newick_reading.proofs.OnceLaws.{true-false, fresh_no_leaf, fresh-refused, fresh-more, refused-range}

-- ---- membership

abbrev New : List ℕ → ℕ → Type 0
New seen x = among x seen ≡ false

new_cons : (x y : ℕ) (seen : List ℕ) → New (x ∷ seen) y → (x ≢ y) × New seen y
unfolding among
new_cons x y seen h = go (eqb y x) refl h
  where
    go : (b : Bool) → eqb y x ≡ b → (b || among y seen) ≡ false → (x ≢ y) × (among y seen ≡ false)
    go true e h = true-false h
    go false e h = (λ z. eqb-false y x e (sym z), h)

cons_new : (x y : ℕ) (seen : List ℕ) → x ≢ y → New seen y → New (x ∷ seen) y
unfolding among
cons_new x y seen n h = rw (ne_eqb y x (λ z. n (sym z))) h

not-refused : (n : ℕ) (seen : List ℕ) (x : ℕ) → refused_leaf n seen x ≡ false → New seen x
unfolding refused_leaf
not-refused n seen x e =
    let r = refused-range n seen x e in
    rw (ne_eqb x 0 (λ z. absurd (omega arith)), le-ltb n x r.1) at e

fine : (n : ℕ) (seen : List ℕ) (x : ℕ) → 1 ≤ x → x ≤ n → New seen x → refused_leaf n seen x ≡ false
unfolding refused_leaf
fine n seen x p q h = rw (ne_eqb x 0 (λ z. absurd (omega arith)), le-ltb n x q) h

-- ---- the entries

abbrev Within : ℕ → ℕ → Type 0
Within n x = (1 ≤ x) × (x ≤ n)

leaves-skip : (x : ℕ) (xs : List ℕ) → 1024 ≤ x → leaves_in (x ∷ xs) ≡ leaves_in xs
unfolding leaves_in
leaves-skip x xs h = rw (le-ltb x 1024 h) refl

leaves-take : (x : ℕ) (xs : List ℕ) → x < 1024 → leaves_in (x ∷ xs) ≡ x ∷ leaves_in xs
unfolding leaves_in
leaves-take x xs h = rw (lt-ltb x 1024 h) refl

record Once (n : ℕ) (seen xs : List ℕ) : Type 0 where
  distinct : Distinct xs
  within : Each (Within n) xs
  new : Each (New seen) xs

fresh_once : (n : ℕ) (seen xs : List ℕ) → fresh n seen xs ≡ true → Once n seen (leaves_in xs)
unfolding leaves_in
fresh_once n seen [] h = record { distinct = tt; within = tt; new = tt }
fresh_once n seen (x ∷ xs) h = go (dec_le 1024 x) (refused_leaf n seen x) refl (fresh_once n seen xs) (fresh_once n (x ∷ seen) xs)
  where
    go : Dec (1024 ≤ x) → (b : Bool) → refused_leaf n seen x ≡ b → (fresh n seen xs ≡ true → Once n seen (leaves_in xs)) →
        (fresh n (x ∷ seen) xs ≡ true → Once n (x ∷ seen) (leaves_in xs)) → Once n seen (leaves_in (x ∷ xs))
    go (yes d) b e r q = rw (leaves-skip x xs d) (r (sym (fresh_no_leaf n seen x xs d) ∙ h))
    go (no d) true e r q = true-false (sym h ∙ fresh-refused n seen x xs (omega arith) e)
    go (no d) false e r q =
        let o = q (sym (fresh-more n seen x xs (omega arith) e) ∙ h) in
        rw (leaves-take x xs (omega arith)) (record {
          distinct = (each_map (leaves_in xs) (λ y k. (new_cons x y seen k).0) o.new, o.distinct);
          within = (refused-range n seen x e, o.within);
          new = (not-refused n seen x e, each_map (leaves_in xs) (λ y k. (new_cons x y seen k).1) o.new);
        })

once_fresh : (n : ℕ) (seen xs : List ℕ) → n < 1024 → Once n seen (leaves_in xs) → fresh n seen xs ≡ true
unfolding fresh
once_fresh n seen [] m o = refl
once_fresh n seen (x ∷ xs) m o = go (dec_le 1024 x) (once_fresh n seen xs m) (once_fresh n (x ∷ seen) xs m)
  where
    go : Dec (1024 ≤ x) → (Once n seen (leaves_in xs) → fresh n seen xs ≡ true) →
        (Once n (x ∷ seen) (leaves_in xs) → fresh n (x ∷ seen) xs ≡ true) → fresh n seen (x ∷ xs) ≡ true
    go (yes d) r q = fresh_no_leaf n seen x xs d ∙ r (rw (leaves-skip x xs d) at o)
    go (no d) r q =
        let t = rw (leaves-take x xs (omega arith)) at o in
        let w = t.within.0 in
        fresh-more n seen x xs (omega arith) (fine n seen x w.0 w.1 t.new.0) ∙ q (record {
          distinct = t.distinct.1;
          within = t.within.1;
          new = each_zip (leaves_in xs) (λ y a b. cons_new x y seen a b) t.distinct.0 t.new.1;
        })

-- n leaves pass exactly if they are 1 to n in some order
pub fresh-perm : (n : ℕ) (xs : List ℕ) → n ≤ 512 → length (leaves_in xs) ≡ n → (fresh n [] xs ≡ true) ↔ Permᴰ (leaves_in xs) (range 1 n)
unfolding among
fresh-perm n xs m long = (
  λ h. (let o = fresh_once n [] xs h in one_to_one n (leaves_in xs) long o.distinct o.within),
  λ p. once_fresh n [] xs (omega arith) (record {
    distinct = all_distinct n (leaves_in xs) p;
    within = each-perm (Within n) (Permᴰ.symm p) (range-each (Within n) 1 n (λ i a b. (a, omega arith)));
    new = each-perm (New []) (Permᴰ.symm p) (range-each (New []) 1 n (λ i a b. refl));
  }),
)
