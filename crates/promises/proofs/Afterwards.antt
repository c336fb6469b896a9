-- What is true of a record after a call: of what the call makes of it, where it is accepted, and of the record as it was, where it is not.
use Prim.Native.Nat.{ℕ}
use mathlib.Core.Path.{◌≡◌, refl, sym, subst}
use mathlib.Core.Bool.{Bool, true, false, cond}
use mathlib.Core.List.{List}
use borrow.Author.Tests.{eqb-true}
use lib.Dec.{eqb}
use Rattle.record_fields.specs.Refused.{accepted}

pub afterwards : (P : List ℕ → Type 0) {s new s' : List ℕ} (k : ℕ) → s' ≡ cond (accepted k) new s → (k ≡ 0 → P new) → P s → P s'
afterwards P {s} {new} {s'} k e made same = go (eqb k 0) refl e
  where
    go : (b : Bool) → eqb k 0 ≡ b → s' ≡ cond b new s → P s'
    go true p q = subst P (sym q) (made (eqb-true k 0 p))
    go false p q = subst P (sym q) same
