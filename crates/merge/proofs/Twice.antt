-- An entry is used twice exactly if the same entry stands at two places of the table.
use Prim.Native.Nat.{ℕ, zero, suc, ◌<◌}
use mathlib.Core.Path.{◌≡◌, refl, sym, ap, ◌∙◌}
use mathlib.Core.Logic.{◌≢◌}
use mathlib.Core.Bool.{Bool, true, false, ◌||◌, true≢false}
use mathlib.Core.List.{List, [], ◌∷◌}
use native.Mathlib.Omega.{arith}
use borrow.Author.Tests.{eqb-true, eq-eqb}
use lib.IntN.{ℤ, pos, negsuc}
use lib.ListN.{length, get_or}
use Rattle.tanglegram.proofs.Bools.{or_neither}
use Rattle.merge.specs.Tables.{same, among_entries, twice, EntryTwice}

-- ---- the same entry

same_equal : (x y : ℤ) → same x y ≡ true → x ≡ y
same_equal (pos a) (pos b) e = ap pos (eqb-true a b e)
same_equal (pos a) (negsuc b) e = absurd (true≢false (sym e))
same_equal (negsuc a) (pos b) e = absurd (true≢false (sym e))
same_equal (negsuc a) (negsuc b) e = ap negsuc (eqb-true a b e)

same_self : (x : ℤ) → same x x ≡ true
same_self (pos a) = eq-eqb a a refl
same_self (negsuc a) = eq-eqb a a refl

-- ---- one of some entries

among-at : (x : ℤ) (ys : List ℤ) → among_entries x ys ≡ false → (q : ℕ) → q < length ys → x ≢ get_or ys q (pos 0)
unfolding among_entries
among-at x [] h q l = absurd (omega arith)
among-at x (y ∷ ys) h zero l = λ e. true≢false (sym (same_self x) ∙ ap (same x) e ∙ (or_neither (same x y) (among_entries x ys) h).0)
among-at x (y ∷ ys) h (suc q) l = among-at x ys (or_neither (same x y) (among_entries x ys) h).1 q (omega arith)

among_none : (x : ℤ) (ys : List ℤ) → ((q : ℕ) → q < length ys → x ≢ get_or ys q (pos 0)) → among_entries x ys ≡ false
unfolding among_entries
among_none x [] h = refl
among_none x (y ∷ ys) h = go (same x y) refl (among_none x ys (λ q l. h (suc q) (omega arith)))
  where
    go : (b : Bool) → same x y ≡ b → among_entries x ys ≡ false → (b || among_entries x ys) ≡ false
    go true e r = absurd (h 0 (omega arith) (same_equal x y e))
    go false e r = r

-- ---- two places

among_where : (x : ℤ) (ys : List ℤ) → among_entries x ys ≡ true → (q : ℕ) × (q < length ys) × (x ≡ get_or ys q (pos 0))
unfolding among_entries
among_where x [] h = absurd (true≢false (sym h))
among_where x (y ∷ ys) h = go (same x y) refl (among_where x ys)
  where
    go : (b : Bool) → same x y ≡ b → (among_entries x ys ≡ true → (q : ℕ) × (q < length ys) × (x ≡ get_or ys q (pos 0))) →
        (q : ℕ) × (q < suc (length ys)) × (x ≡ get_or (y ∷ ys) q (pos 0))
    go true e later = (0, omega arith, same_equal x y e)
    go false e later = let r = later (rw e at h) in (suc r.0, omega (arith, r.1), r.2)

pub twice_where : (table : List ℤ) → twice table ≡ true → EntryTwice table
unfolding twice
twice_where [] h = absurd (true≢false (sym h))
twice_where (x ∷ xs) h = go (among_entries x xs) refl (twice_where xs)
  where
    go : (b : Bool) → among_entries x xs ≡ b → (twice xs ≡ true → EntryTwice xs) → EntryTwice (x ∷ xs)
    go true e later =
        let r = among_where x xs e in
        record { place = 0; later = suc r.0; apart = (omega arith, omega (arith, r.1)); alike = r.2 }
    go false e later =
        let r = later (rw e at h) in
        record {
          place = suc r.place;
          later = suc r.later;
          apart = (omega (arith, r.apart.0), omega (arith, r.apart.1));
          alike = r.alike;
        }

pub twice-apart : (table : List ℤ) → twice table ≡ false → (p q : ℕ) → p < q → q < length table →
    get_or table p (pos 0) ≢ get_or table q (pos 0)
unfolding twice
twice-apart [] h p q k l = absurd (omega arith)
twice-apart (x ∷ xs) h p zero k l = absurd (omega arith)
twice-apart (x ∷ xs) h zero (suc q) k l = among-at x xs (or_neither (among_entries x xs) (twice xs) h).0 q (omega arith)
twice-apart (x ∷ xs) h (suc p) (suc q) k l =
    twice-apart xs (or_neither (among_entries x xs) (twice xs) h).1 p q (omega arith) (omega arith)

pub apart-twice : (table : List ℤ) →
    ((p q : ℕ) → p < q → q < length table → get_or table p (pos 0) ≢ get_or table q (pos 0)) → twice table ≡ false
unfolding twice
apart-twice [] h = refl
apart-twice (x ∷ xs) h =
    let first = among_none x xs (λ q l. h 0 (suc q) (omega arith) (omega arith)) in
    rw first (apart-twice xs (λ p q k l. h (suc p) (suc q) (omega arith) (omega arith)))
