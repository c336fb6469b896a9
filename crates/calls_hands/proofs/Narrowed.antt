-- Numbers in 16 bits: one that is too large becomes 0, and neither is a side or a row.
use Prim.Native.Nat.{ℕ, ◌-◌, ◌≤◌}
use mathlib.Core.Path.{◌≡◌, refl}
use mathlib.Core.Bool.{Bool, true, false, cond}
use mathlib.Core.List.{List, [], ◌∷◌}
use native.Mathlib.Omega.{arith}
use borrow.Author.Tests.{ne_eqb, lt-ltb, le-ltb, ltb-true}
use lib.Dec.{ltb}
use Rattle.record_fields.specs.Fields.{size_of}
use Rattle.record_fields.specs.Meaning.{layouts_of, relaid}
use Rattle.record_arrays.specs.Sides.{is_side, side_of, RecordOver}
use Rattle.record_arrays.specs.Rows.{no_row}
use Rattle.calls_hands.specs.Refusals.{Hand, hand, hand_refusal}
use Rattle.calls_hands.specs.Calls.{handed}
use Rattle.calls_hands.specs.Entries.{narrow}

pub narrow-small : (x : ℕ) → x ≤ 65535 → narrow x ≡ x
narrow-small x h = rw (le-ltb 65535 x h) refl

-- an entry is as good or as bad as it was
pub narrow_bad : (s : List ℕ) (h : Hand) → size_of s ≤ 65535 →
    hand_refusal s (hand (narrow h.side) (narrow h.row)) ≡ hand_refusal s h
unfolding hand_refusal is_side no_row
narrow_bad s h small = by (ltb 65535 h.side) (ltb 65535 h.row) refl refl
  where
    by : (a b : Bool) → ltb 65535 h.side ≡ a → ltb 65535 h.row ≡ b →
        hand_refusal s (hand (cond a 0 h.side) (cond b 0 h.row)) ≡ hand_refusal s h
    by true b e f =
        let g = ltb-true 65535 h.side e in
        rw (ne_eqb h.side 1 (omega arith), ne_eqb h.side 2 (omega arith)) refl
    by false true e f =
        let g = ltb-true 65535 h.row f in
        rw (ne_eqb h.row 0 (omega arith), lt-ltb (size_of s - 1) h.row (omega arith)) refl
    by false false e f = refl

-- and turns the same row over
narrow-side : (x : ℕ) → side_of (narrow x) ≡ side_of x
narrow-side x = by (ltb 65535 x) refl
  where
    by : (b : Bool) → ltb 65535 x ≡ b → side_of (cond b 0 x) ≡ side_of x
    by true e =
        let g = ltb-true 65535 x e in
        rw (ne_eqb x 1 (omega arith)) refl
    by false e = refl

pub narrow-handed : (s : List ℕ) (h : Hand) → h.row ≤ 65535 →
    relaid s (handed (layouts_of s) (hand (narrow h.side) (narrow h.row) ∷ [])) ≡ relaid s (handed (layouts_of s) (h ∷ []))
unfolding handed
narrow-handed s h small = rw (narrow-small h.row small, narrow-side h.side) refl

-- a record's rows are not too large
pub record-small : {s : List ℕ} {n : ℕ} → RecordOver s n → size_of s ≤ 65535
record-small g = let says = g.sized.says in let most = g.sized.most in omega (arith, says, most)
