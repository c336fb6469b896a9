-- One row of an accepted record: whether there is such a row, and its byte, read and put.
use Prim.Native.Nat.{ℕ, zero, suc, pred, ◌+◌, ◌-◌, ◌≤◌, ◌<◌}
use mathlib.Core.Path.{◌≡◌, refl, sym, ap, ap₂, ◌∙◌}
use mathlib.Core.Logic.{◌≢◌}
use mathlib.Core.Bool.{Bool, true, false, not, ◌||◌}
use mathlib.Core.List.{List, [], ◌∷◌, ◌++◌}
use native.Mathlib.Numerals.{sub-one}
use native.Mathlib.Omega.{arith}
use borrow.Author.Tests.{eq-eqb, ne_eqb, lt-ltb, le-ltb, eqb-false, ltb-true, ltb-false}
use lib.Dec.{eqb, ltb}
use lib.ListN.{length, get_or, take, drop, set, length-set, take-append-drop}
use lib.Seq.{drop-drop, set-append_left, take-set-le, drop-set-add, get_or-take, get_or-drop}
use Rattle.tanglegram.specs.Lists.{Each}
use Rattle.tanglegram.specs.declared.side.Side.{Side}
use Rattle.tanglegram.specs.declared.side.Side.TheVariants.{Left as left, Right as right}
use Rattle.tanglegram.specs.Table.{Layouts, layout}
use Rattle.tanglegram.proofs.Bools.{or_neither}
use Rattle.tanglegram.proofs.Lists.{each_get_d}
use Rattle.record_fields.specs.Fields.{bytes, hold_of, size_of, parts}
use Rattle.record_fields.specs.Refusals.{is_layout, refusal}
use Rattle.record_fields.specs.Meaning.{layouts_of, relaid_in, relaid}
use Rattle.record_fields.proofs.Acceptance.{accepted-sized, accepted-parts}
use Rattle.record_fields.proofs.Meaning.{length-left, length-right, relaid-accepted, size-relaid, parts-relaid}
use Rattle.record_fields.proofs.Meaning.{hold-relaid, layouts-of-relaid, relaid-again}
use Rattle.record_fields.proofs.Stores.{length-bytes}
use Rattle.record_fields.proofs.Tests.{layout-small, small-layout}
use Rattle.record_arrays.specs.Sides.{RecordOver, layout_at}
use Rattle.record_arrays.specs.Rows.{no_row, row_byte, with_byte}
use Rattle.record_arrays.proofs.AsItStands.{side-layout, layout-within, over_n}
use Rattle.record_arrays.proofs.Relaying.{relaid_part}

-- ---- whether there is such a row

positive : (k : ℕ) → k ≢ 0 → 1 ≤ k
positive zero h = absurd (h refl)
positive (suc k) h = omega arith

pub row-there : (n row : ℕ) → no_row n row ≡ false → (1 ≤ row) × (row < n)
unfolding no_row
row-there n row e =
    let w = or_neither (eqb row 0) (ltb (n - 1) row) e in
    let some = positive row (eqb-false row 0 w.0) in
    (some, omega (arith, ltb-false (n - 1) row w.1))

pub no_row_0 : (n row : ℕ) → row ≡ 0 → false ≡ not (no_row n row)
unfolding no_row
no_row_0 n row e = rw (eq-eqb row 0 e) refl

pub row_below : (n row : ℕ) → row ≢ 0 → ltb row n ≡ not (no_row n row)
unfolding no_row
row_below n row h = by (ltb row n) refl
  where
    by : (b : Bool) → ltb row n ≡ b → b ≡ not (eqb row 0 || ltb (n - 1) row)
    by true e = rw (ne_eqb row 0 h, le-ltb (n - 1) row (omega (arith, ltb-true row n e))) refl
    by false e = let p = positive row h in rw (ne_eqb row 0 h, lt-ltb (n - 1) row (omega (arith, ltb-false row n e))) refl

-- ---- its byte

-- a byte stored in a part of a list
store_part : (s : List ℕ) (a m k v : ℕ) → a + m ≤ length s → k < m →
    set s (a + k) v ≡ take a s ++ (set (bytes s a m) k v ++ drop (a + m) s)
store_part s a m k v fits h =
    let t = set s (a + k) v in
    let within : k < length (bytes s a m) = omega (arith, length-bytes s a m fits) in
    let part : set (drop a s) k v ≡ set (bytes s a m) k v ++ drop m (drop a s) =
    ap (λ l. set l k v) (sym (take-append-drop m (drop a s))) ∙ set-append_left (bytes s a m) (drop m (drop a s)) k v within in
    sym (take-append-drop a t)
    ∙ ap₂ ◌++◌ (take-set-le a s (a + k) v (omega arith)) (drop-set-add a s k v ∙ part)
    ∙ ap (λ r. take a s ++ (set (bytes s a m) k v ++ r)) (drop-drop m a s)

module _ (s : List ℕ) (n : ℕ) (g : RecordOver s n) where
  module _ (side : Side) (row : ℕ) (some : 1 ≤ row) (below : row < n) {from at : ℕ} (e : from ≡ layout_at n side)
      (f : at ≡ from + (row - 1)) where
    here : at ≡ layout_at n side + pred row
    here = f ∙ ap₂ ◌+◌ e (sub-one row)

    inside : pred row < n - 1
    inside = omega arith

    pub row_within : at < length s
    row_within = let h = layout-within s n g side in omega (arith, e, f)

    pub row_read : get_or s at 0 ≡ row_byte s side row
    row_read =
        let a = layout_at n side in
        ap (λ p. get_or s p 0) here
        ∙ sym (get_or-drop a s (pred row) 0)
        ∙ sym (get_or-take (n - 1) (drop a s) (pred row) 0 inside)
        ∙ ap (λ l. get_or l (pred row) 0) (side-layout s n g side)

    pub row_stored : (x : ℕ) → set s at x ≡ relaid s (with_byte side row x (layouts_of s))
    row_stored x =
        let a = layout_at n side in
        ap (λ p. set s p x) here
        ∙ store_part s a (n - 1) (pred row) x (layout-within s n g side) inside
        ∙ ap (λ l. take a s ++ (set l (pred row) x ++ drop (a + (n - 1)) s)) (side-layout s n g side)
        ∙ relaid_part s n g side (set (layout (layouts_of s) side) (pred row) x)

-- an accepted record's bytes are from 0 to 3
pub row_small : (s : List ℕ) → refusal s ≡ 0 → (side : Side) (row : ℕ) → row_byte s side row ≤ 3
row_small s a side row = by side
  where
    good : (lay : List ℕ) → is_layout lay ≡ true → get_or lay (pred row) 0 ≤ 3
    good lay e = each_get_d (λ x. x ≤ 3) lay (omega arith) (layout-small lay e) (pred row)

    by : (x : Side) → row_byte s x row ≤ 3
    by left = good (parts s).left_layout (accepted-parts s a).left_bytes
    by right = good (parts s).right_layout (accepted-parts s a).right_bytes

-- ---- the record with a layout byte put there: accepted again, over as many leaves

each_set : (P : ℕ → Type 0) (xs : List ℕ) (i v : ℕ) → P v → Each P xs → Each P (set xs i v)
each_set P [] i v h e = e
each_set P (x ∷ xs) zero v h e = (h, e.1)
each_set P (x ∷ xs) (suc i) v h e = (e.0, each_set P xs i v h e.1)

pub set-bytes : (lay : List ℕ) (i x : ℕ) → x ≤ 3 → is_layout lay ≡ true → is_layout (set lay i x) ≡ true
set-bytes lay i x small e = small-layout (set lay i x) (each_set (λ y. y ≤ 3) lay i x small (layout-small lay e))

-- what a byte keeps of the one before it, every byte of the layout keeps
pub set_keeps : (P : ℕ → Bool) (f : ℕ → ℕ) → ((x : ℕ) → P (f x) ≡ P x) → (lay : List ℕ) (k i : ℕ) →
    P (get_or (set lay k (f (get_or lay k 0))) i 0) ≡ P (get_or lay i 0)
set_keeps P f h [] k i = refl
set_keeps P f h (x ∷ xs) zero zero = h x
set_keeps P f h (x ∷ xs) zero (suc i) = refl
set_keeps P f h (x ∷ xs) (suc k) zero = refl
set_keeps P f h (x ∷ xs) (suc k) (suc i) = set_keeps P f h xs k i

module _ (s : List ℕ) (n : ℕ) (g : RecordOver s n) (side : Side) (row x : ℕ) (small : x ≤ 3) where
  abbrev new : Layouts
  new = with_byte side row x (layouts_of s)

  long : (length new.left_bytes ≡ size_of s - 1) × (length new.right_bytes ≡ size_of s - 1)
  long = go side
    where
      go : (y : Side) → let at = with_byte y row x (layouts_of s) in
          (length at.left_bytes ≡ size_of s - 1) × (length at.right_bytes ≡ size_of s - 1)
      go left = (simp length-set (length-left s g.accepted), length-right s g.accepted)
      go right = (length-left s g.accepted, simp length-set (length-right s g.accepted))

  good : (is_layout new.left_bytes ≡ true) × (is_layout new.right_bytes ≡ true)
  good = go side
    where
      go : (y : Side) → let at = with_byte y row x (layouts_of s) in
          (is_layout at.left_bytes ≡ true) × (is_layout at.right_bytes ≡ true)
      go left =
          let c = accepted-parts s g.accepted in
          (set-bytes (parts s).left_layout (pred row) x small c.left_bytes, c.right_bytes)
      go right =
          let c = accepted-parts s g.accepted in
          (c.left_bytes, set-bytes (parts s).right_layout (pred row) x small c.right_bytes)

  pub put-given : RecordOver (relaid s (with_byte side row x (layouts_of s))) n
  put-given =
      let z = accepted-sized s g.accepted in
      let a = relaid-accepted s z new long.0 long.1 g.accepted good.0 good.1 in
      over_n (relaid s new) a (sym g.sized.says ∙ sym (size-relaid s z new long.0 long.1))

  pub put-layouts : layouts_of (relaid s (with_byte side row x (layouts_of s))) ≡ with_byte side row x (layouts_of s)
  put-layouts = layouts-of-relaid s (accepted-sized s g.accepted) new long.0 long.1

  pub put-parts : parts (relaid s (with_byte side row x (layouts_of s))) ≡ relaid_in (parts s) (with_byte side row x (layouts_of s))
  put-parts = parts-relaid s (accepted-sized s g.accepted) new long.0 long.1

  pub put-size : size_of (relaid s (with_byte side row x (layouts_of s))) ≡ size_of s
  put-size = size-relaid s (accepted-sized s g.accepted) new long.0 long.1

  pub put-hold : hold_of (relaid s (with_byte side row x (layouts_of s))) ≡ hold_of s
  put-hold = hold-relaid s (accepted-sized s g.accepted) new long.0 long.1

  -- laid anew after it
  pub put-again : (last : Layouts) → relaid (relaid s (with_byte side row x (layouts_of s))) last ≡ relaid s last
  put-again = relaid-again s (accepted-sized s g.accepted) new long.0 long.1
