-- What an entry names: the test of an entry is what its words mean, and entries and objects are exchanged there and back.
use Prim.Native.Nat.{ℕ, zero, suc, ◌+◌, ◌-◌, ◌≤◌, ◌<◌}
use mathlib.Core.Path.{◌≡◌, refl}
use mathlib.Core.Logic.{◌≢◌, ◌⊎◌, inl, inr}
use mathlib.Core.Bool.{Bool, true, false, ◌||◌, or-true}
use native.Mathlib.Decide.{dec_le, ℕ_discrete}
use native.Mathlib.Omega.{arith}
use borrow.Author.Tests.{le-leb, lt-leb, leb-true, leb-false, eqb-true, eqb-false, eq-eqb, ne_eqb, lt-ltb, le-ltb}
use lib.Dec.{eqb, leb}
use lib.IntN.{ℤ, pos, negsuc}
use Rattle.tanglegram.proofs.Bools.{or_neither}
use Rattle.merge.specs.Entries.{Names, leaf, row, NamesNone, zero_entry, no_leaf, no_earlier_row, named_by, entry_for, names_none}

-- ---- what an entry names is one object

pub named_one : {n : ℕ} {e : ℤ} {k : ℕ} → Names n e k → named_by n e ≡ k
unfolding named_by
named_one {n} (leaf {a = a} h) = rw (lt-ltb a n h) refl
named_one {n} (row {j = j} h) = rw (ne_eqb j 0 (omega arith)) refl

-- ---- an entry that names none in its row, and one that does

-- it names a leaf or an earlier row's object
module _ (n i : ℕ) (some : 1 ≤ i) where
  pub names-some : (e : ℤ) → names_none n i e ≡ false → Names n e (named_by n e) × (1 ≤ named_by n e) × (named_by n e < n + i)
  unfolding names_none named_by
  names-some (pos j) h =
      let t = or_neither (eqb j 0) (leb i j) h in
      let least = eqb-false j 0 t.0 in
      let below = leb-false i j t.1 in
      rw (ne_eqb j 0 least) (row {j = j} (omega arith), omega arith, omega arith)
  names-some (negsuc a) h = let below = leb-false n a h in rw (lt-ltb a n below) (leaf below, omega arith, omega arith)

  -- else it names no object, or one that the row can't have
  pub names_no : (e : ℤ) → names_none n i e ≡ true → (named_by n e ≡ 0) ⊎ (n + i ≤ named_by n e)
  unfolding names_none named_by
  names_no (pos j) h = go (ℕ_discrete j 0)
    where
      late : (b : Bool) → eqb j 0 ≡ b → (b || leb i j) ≡ true → j ≢ 0 → i ≤ j
      late true e t o = absurd (o (eqb-true j 0 e))
      late false e t o = leb-true i j t

      go : Dec (j ≡ 0) → (named_by n (pos j) ≡ 0) ⊎ (n + i ≤ named_by n (pos j))
      go (yes z) = inl (rw (eq-eqb j 0 z) refl)
      go (no o) = let l = late (eqb j 0) refl h o in inr (rw (ne_eqb j 0 o) (omega arith))
  names_no (negsuc a) h = inl (rw (le-ltb a n (leb-true n a h)) refl)

  -- an object that the row can have is named by its entry
  pub entry_names : (k : ℕ) → 1 ≤ k → k < n + i → names_none n i (entry_for n k) ≡ false
  unfolding names_none entry_for
  entry_names zero p q = absurd (omega arith)
  entry_names (suc k) p q = go (dec_le (suc k) n)
    where
      go : Dec (suc k ≤ n) → names_none n i (entry_for n (suc k)) ≡ false
      go (yes d) = rw (le-leb (suc k) n d) (lt-leb n k (omega arith))
      go (no d) =
          rw (lt-leb (suc k) n (omega arith), ne_eqb (suc k - n) 0 (omega arith)) (lt-leb i (suc k - n) (omega arith))

-- the test is what its words mean
pub none_tested : (n i : ℕ) {e : ℤ} → NamesNone n i e → names_none n i e ≡ true
unfolding names_none
none_tested n i zero_entry = refl
none_tested n i (no_leaf {a = a} h) = le-leb n a (omega arith)
none_tested n i (no_earlier_row {j = j} h) = rw (le-leb i j h) (or-true (eqb j 0))

pub tested_none : (n i : ℕ) (e : ℤ) → names_none n i e ≡ true → NamesNone n i e
unfolding names_none
tested_none n i (pos j) h = go (eqb j 0) refl h
  where
    go : (b : Bool) → eqb j 0 ≡ b → (b || leb i j) ≡ true → NamesNone n i (pos j)
    go true z t = rw (eqb-true j 0 z) zero_entry
    go false z t = no_earlier_row (leb-true i j t)
tested_none n i (negsuc a) h = let l = leb-true n a h in no_leaf {a = a} (omega arith)

-- an earlier row's entry may stand in a later row too
pub none-later : (n i m : ℕ) (e : ℤ) → i ≤ m → names_none n i e ≡ false → names_none n m e ≡ false
unfolding names_none
none-later n i m (pos j) l h =
    let t = or_neither (eqb j 0) (leb i j) h in
    let below = leb-false i j t.1 in
    rw t.0 (lt-leb m j (omega arith))
none-later n i m (negsuc a) l h = h

-- ---- there and back

-- beyond a table nothing is named
pub entry_zero : (n : ℕ) → entry_for n 0 ≡ pos 0
unfolding entry_for
entry_zero n = rw (le-leb 0 n (omega arith)) refl

pub entry_back : (n k : ℕ) → 1 ≤ k → named_by n (entry_for n k) ≡ k
unfolding named_by entry_for
entry_back n zero p = absurd (omega arith)
entry_back n (suc k) p = go (dec_le (suc k) n)
  where
    go : Dec (suc k ≤ n) → named_by n (entry_for n (suc k)) ≡ suc k
    go (yes d) = rw (le-leb (suc k) n d, lt-ltb k n (omega arith)) refl
    go (no d) = rw (lt-leb (suc k) n (omega arith), ne_eqb (suc k - n) 0 (omega arith)) (omega arith)

pub named_back : (n : ℕ) {e : ℤ} {k : ℕ} → Names n e k → entry_for n k ≡ e
unfolding entry_for
named_back n (leaf {a = a} h) = rw (le-leb (suc a) n h) refl
named_back n (row {j = j} h) = let e : n + j - n ≡ j = omega arith in rw (lt-leb (n + j) n (omega arith), e) refl
