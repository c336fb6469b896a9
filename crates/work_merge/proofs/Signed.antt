-- Signed numbers of 32 bits as the machine has them: an entry of a table as it is read, and a number of 16 bits made signed or negated.
use Prim.Native.Nat.{ℕ, zero, suc, ◌^◌, ◌<◌}
use mathlib.Core.Path.{◌≡◌, ap, ◌∙◌}
use mathlib.Core.List.{List}
use native.Mathlib.Omega.{arith}
use lib.IntN.{ℤ, pos, neg_ℤ, ◌-ℤ◌, +ℤ_idl}
use lib.ListN.{get_or}
use lib.Signed.{mag}
use mir.Syntax.{w16, w32}
use mir.Val.{Fits, SFits, to_z, of_z}
use mir.ValLaws.{to_z-of_z}

-- the entry at a place, by another name of the place
pub read_at : (table : List ℤ) {k m : ℕ} → mag (get_or table k (pos 0)) < 2 ^ 31 → k ≡ m →
    to_z w32 (of_z w32 (get_or table k (pos 0))) ≡ get_or table m (pos 0)
read_at table {k} small e = to_z-of_z w32 (get_or table k (pos 0)) (record { sfits = small }) ∙ ap (λ j. get_or table j (pos 0)) e

-- what a function of it tells
pub told_at : {A : Type 0} (f : ℤ → A) (table : List ℤ) {r : A} {k m : ℕ} → r ≡ f (to_z w32 (of_z w32 (get_or table k (pos 0)))) →
    mag (get_or table k (pos 0)) < 2 ^ 31 → k ≡ m → r ≡ f (get_or table m (pos 0))
told_at f table e small same = e ∙ ap f (read_at table small same)

neg_fits : (n : ℕ) → n < 65536 → SFits w32 (neg_ℤ (pos n))
neg_fits zero h = record { sfits = omega arith }
neg_fits (suc n) h = record { sfits = omega arith }

module _ (n : ℕ) (small : Fits w16 n) {z : ℤ} (is : z ≡ pos n) where
  -- as a signed number it is itself
  pub signed : to_z w32 (of_z w32 z) ≡ pos n
  signed = rw is (to_z-of_z w32 (pos n) (record { sfits = omega (arith, small.fits) }))

  -- less than nothing it is its negation, which fits
  pub negated : to_z w32 (of_z w32 (pos 0 -ℤ to_z w32 (of_z w32 z))) ≡ neg_ℤ (pos n)
  negated =
      let less : pos 0 -ℤ to_z w32 (of_z w32 z) ≡ neg_ℤ (pos n) = ap (λ y. pos 0 -ℤ y) signed ∙ +ℤ_idl (neg_ℤ (pos n)) in
      rw less (to_z-of_z w32 (neg_ℤ (pos n)) (neg_fits n (omega (arith, small.fits))))
