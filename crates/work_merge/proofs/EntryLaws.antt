-- What the tests and sums of an entry's functions come to: a negative entry's leaf, a positive entry's object, and the test of an entry.
use Prim.Native.Nat.{ℕ, zero, suc, ◌+◌, ◌-◌, ◌*◌, ◌^◌, ◌≤◌, ◌<◌}
use mathlib.Core.Path.{◌≡◌, refl, sym, ap, ◌∙◌}
use mathlib.Core.Logic.{◌≢◌}
use mathlib.Core.Bool.{true, false, true≢false}
use mathlib.Core.List.{List}
use native.Mathlib.Omega.{arith}
use borrow.Author.Tests.{le-leb, leb-false, ltb-true, ne_eqb, lt-ltb}
use lib.Dec.{T, eqb, leb}
use lib.IntN.{ℤ, pos, negsuc, neg_ℤ, nat_abs}
use lib.ListN.{get_or}
use lib.Signed.{lt_z, le_z, mag, non_neg}
use mir.Syntax.{w32}
use mir.Val.{to_z, of_z}
use Rattle.tanglegram.proofs.Bools.{or_neither}
use Rattle.merge.specs.Entries.{named_by, names_none}
use Rattle.merge.specs.Tables.{Pairs, some_none}
use Rattle.merge.proofs.Entries.{names-some}
use Rattle.merge.proofs.Tables.{place-later}
use Rattle.work_merge.proofs.Signed.{read_at}

-- ---- the object that an entry names

module _ (n : ℕ) (most : n ≤ 512) where
  pub named_small : (e : ℤ) → names_none n 512 e ≡ false → named_by n e < 1024
  named_small e h = let s = names-some n 512 (omega arith) e h in omega (arith, s.2)

  -- minus a names leaf a
  pub leaf-named : (e : ℤ) → names_none n 512 e ≡ false → lt_z e (pos 0) ≡ true → nat_abs e ≡ named_by n e
  unfolding names_none named_by
  leaf-named (pos j) h t = absurd (let l = ltb-true j 0 t in omega arith)
  leaf-named (negsuc a) h t = sym (rw (lt-ltb a n (leb-false n a h)) refl)

  -- plus j is n and j more
  pub row_named : (e : ℤ) → names_none n 512 e ≡ false → lt_z e (pos 0) ≡ false → T (non_neg e) × (n + nat_abs e ≡ named_by n e)
  unfolding names_none named_by
  row_named (pos j) h t = (tt, sym (rw (or_neither (eqb j 0) (leb 512 j) h).0 refl))
  row_named (negsuc a) h t = absurd (true≢false t)

-- ---- the test of an entry

module _ (n i : ℕ) where
  pub none-zero : (e : ℤ) → e ≡ pos 0 → true ≡ names_none n i e
  unfolding names_none
  none-zero e h = rw h refl

  less-leaf : (a : ℕ) → lt_z (negsuc a) (neg_ℤ (pos n)) ≡ leb n a
  less-leaf a = below n
    where
      below : (n : ℕ) → lt_z (negsuc a) (neg_ℤ (pos n)) ≡ leb n a
      below zero = sym (le-leb 0 a (omega arith))
      below (suc n) = refl

  -- below minus n: no leaf
  pub none-leaf : (e : ℤ) → lt_z e (neg_ℤ (pos n)) ≡ true → true ≡ names_none n i e
  unfolding names_none
  none-leaf (pos j) t = absurd (never n t)
    where
      never : (n : ℕ) → lt_z (pos j) (neg_ℤ (pos n)) ≡ true → ⊥
      never zero t = let l = ltb-true j 0 t in omega arith
      never (suc n) t = true≢false (sym t)
  none-leaf (negsuc a) t = sym t ∙ less-leaf a

  -- else, but for zero, no earlier row where it is not below i
  pub none_row : (e : ℤ) → e ≢ pos 0 → lt_z e (neg_ℤ (pos n)) ≡ false → le_z (pos i) e ≡ names_none n i e
  unfolding names_none
  none_row (pos j) o t = sym (rw (ne_eqb j 0 (λ z. o (ap pos z))) refl)
  none_row (negsuc a) o t = sym t ∙ less-leaf a

-- ---- an entry of a table in which none names none, as it is read

pub named_entry : {n : ℕ} {table : List ℤ} → Pairs n table → some_none n table ≡ false → (k : ℕ) → k < 2 * (n - 1) →
    mag (get_or table k (pos 0)) < 2 ^ 31 → (n ≤ 512) × (names_none n 512 (to_z w32 (of_z w32 (get_or table k (pos 0)))) ≡ false)
named_entry {n} {table} p q k h small = (p.most, rw (read_at table small refl) (place-later n table q 512 p.most k h))
