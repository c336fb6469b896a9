-- What a refused call answers and keeps, and what an accepted one does.
use Prim.Native.Nat.{ℕ, ◌≤◌}
use mathlib.Core.Path.{◌≡◌, refl, ap, ◌∙◌}
use mathlib.Core.Logic.{◌≢◌}
use mathlib.Core.Bool.{cond}
use mathlib.Core.List.{List, ◌++◌}
use native.Mathlib.Omega.{arith}
use borrow.Author.Tests.{eq-eqb, ne_eqb}
use lib.Dec.{eqb}
use lib.ListN.{length, drop}
use Rattle.record_fields.specs.declared.refusal.Refusal.{Refusal}
use Rattle.record_fields.specs.declared.refusal.Refusal.TheVariants as refusal
use Rattle.record_fields.specs.Refused.{NumberAndRow, refused_row, number_of, row_of, lent, or_zero}

pub lent-refused : {A : Type 0} (k : ℕ) (part found : List A) → k ≢ 0 → found ≡ lent k part found
lent-refused k part found h = rw (ne_eqb k 0 h) refl

pub lent-accepted : {A : Type 0} (k : ℕ) (part found : List A) → k ≡ 0 → part ++ drop (length part) found ≡ lent k part found
lent-accepted k part found e = rw (eq-eqb k 0 e) refl

pub zero-refused : (k x : ℕ) → k ≢ 0 → 0 ≡ or_zero k x
zero-refused k x h = rw (ne_eqb k 0 h) refl

pub zero-accepted : (k x : ℕ) → k ≡ 0 → x ≡ or_zero k x
zero-accepted k x e = rw (eq-eqb k 0 e) refl

-- no refusal has the number 0
pub some-number : (r : Refusal) → 1 ≤ number_of r
some-number refusal.Short = omega arith
some-number refusal.Mark = omega arith
some-number refusal.Version = omega arith
some-number refusal.Hold = omega arith
some-number refusal.Size = omega arith
some-number refusal.Length = omega arith
some-number (refusal.LeftRow i) = omega arith
some-number (refusal.RightRow i) = omega arith
some-number refusal.Links = omega arith
some-number refusal.Layout = omega arith
some-number refusal.Held = omega arith
some-number refusal.Allowance = omega arith
some-number refusal.Side = omega arith
some-number refusal.Room = omega arith
some-number refusal.Row = omega arith
some-number refusal.Order = omega arith
some-number refusal.Hands = omega arith
some-number refusal.Grammar = omega arith
some-number refusal.Leaves = omega arith
some-number refusal.Entry = omega arith
some-number refusal.Twice = omega arith
some-number refusal.Pinned = omega arith
some-number refusal.AgainstPin = omega arith

pub refused-some : (r : Refusal) → number_of r ≢ 0
refused-some r e = let some = some-number r in omega arith

-- so what is told of one has another
pub refuses : (r : Refusal) {k row : ℕ} → refused_row (number_of r) (row_of r) ≡ refused_row k row → k ≢ 0
refuses r e z = refused-some r (ap (λ (a : NumberAndRow). a.number) e ∙ z)

-- the refusal of a number and a row: two that tell the same are one

abbrev pub refusal_at : ℕ → ℕ → Refusal
refusal_at k i =
    cond (eqb k 1) refusal.Short (cond (eqb k 2) refusal.Mark (cond (eqb k 3) refusal.Version (cond (eqb k 4) refusal.Hold
    (cond (eqb k 5) refusal.Size (cond (eqb k 6) refusal.Length (cond (eqb k 7) (refusal.LeftRow i) (cond (eqb k 8) (refusal.RightRow i)
    (cond (eqb k 9) refusal.Links (cond (eqb k 10) refusal.Layout (cond (eqb k 11) refusal.Held (cond (eqb k 12) refusal.Allowance
    (cond (eqb k 13) refusal.Side (cond (eqb k 14) refusal.Room (cond (eqb k 15) refusal.Row (cond (eqb k 16) refusal.Order
    (cond (eqb k 17) refusal.Hands (cond (eqb k 18) refusal.Grammar (cond (eqb k 19) refusal.Leaves (cond (eqb k 20) refusal.Entry
    (cond (eqb k 21) refusal.Twice (cond (eqb k 22) refusal.Pinned refusal.AgainstPin)))))))))))))))))))))

pub refusal_back : (r : Refusal) → refusal_at (number_of r) (row_of r) ≡ r
refusal_back refusal.Short = refl
refusal_back refusal.Mark = refl
refusal_back refusal.Version = refl
refusal_back refusal.Hold = refl
refusal_back refusal.Size = refl
refusal_back refusal.Length = refl
refusal_back (refusal.LeftRow i) = refl
refusal_back (refusal.RightRow i) = refl
refusal_back refusal.Links = refl
refusal_back refusal.Layout = refl
refusal_back refusal.Held = refl
refusal_back refusal.Allowance = refl
refusal_back refusal.Side = refl
refusal_back refusal.Room = refl
refusal_back refusal.Row = refl
refusal_back refusal.Order = refl
refusal_back refusal.Hands = refl
refusal_back refusal.Grammar = refl
refusal_back refusal.Leaves = refl
refusal_back refusal.Entry = refl
refusal_back refusal.Twice = refl
refusal_back refusal.Pinned = refl
refusal_back refusal.AgainstPin = refl
