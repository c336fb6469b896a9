-- A byte that is no hold's letter holds neither side.
use Prim.Native.Nat.{ℕ}
use mathlib.Core.Path.{◌≡◌, refl}
use mathlib.Core.Bool.{false}
use lib.Dec.{eqb}
use Rattle.tanglegram.specs.declared.side.Side.{Side}
use Rattle.tanglegram.specs.declared.side.Side.TheVariants.{Left as left, Right as right}
use Rattle.tanglegram.proofs.Bools.{or_neither}
use Rattle.record_fields.specs.Letters.{letter_n, letter_l, letter_r, letter_b}
use Rattle.record_fields.specs.Refusals.{is_hold}
use Rattle.record_arrays.specs.Sides.{holds}

no_letter : (x : ℕ) → is_hold x ≡ false → (eqb x letter_l ≡ false) × (eqb x letter_r ≡ false) × (eqb x letter_b ≡ false)
unfolding is_hold
no_letter x e =
    let n = or_neither (eqb x letter_n) _ e in
    let l = or_neither (eqb x letter_l) _ n.1 in
    let r = or_neither (eqb x letter_r) _ l.1 in
    (l.0, r.0, r.1)

pub held_by_none : (x : ℕ) (side : Side) → is_hold x ≡ false → false ≡ holds x side
unfolding holds
held_by_none x left e = let h = no_letter x e in rw (h.0, h.2) refl
held_by_none x right e = let h = no_letter x e in rw (h.1, h.2) refl
