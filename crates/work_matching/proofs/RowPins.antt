-- Pins, row by row: the test as one of each pair of bytes, and the next row pinned.
use Prim.Native.Nat.{ℕ, suc, ◌+◌, ◌≤◌, ◌<◌}
use mathlib.Core.Path.{◌≡◌, refl, sym, ap}
use mathlib.Core.Bool.{Bool, not, ◌&&◌, ◌||◌}
use mathlib.Core.List.{List, [], ◌∷◌, ◌++◌, append_assoc}
use native.Mathlib.Numerals.{add-one}
use native.Mathlib.Omega.{arith}
use lib.ListN.{length, get_or, set, take, drop, drop_of_length-le}
use Rattle.std.specs.List.{list_any, zip}
use lib.Seq.{take_all, drop-cons, take-suc-set, drop-set-lt}
use Rattle.tanglegram.specs.Order.{may_change, with_pin, pinned_as, turned_otherwise, against_pins}
use Rattle.tanglegram.proofs.Lists.{append-nil}

-- a row is pinned by its byte in the first layout, and turned otherwise in the second
abbrev pub otherwise : ℕ × ℕ → Bool
otherwise q = not (may_change q.0) && turned_otherwise q.0 q.1

pub against_pins-any : (pins lay : List ℕ) → against_pins pins lay ≡ list_any otherwise (zip pins lay)
unfolding against_pins
against_pins-any [] [] = refl
against_pins-any [] (x ∷ lay) = refl
against_pins-any (p ∷ pins) [] = refl
against_pins-any (p ∷ pins) (x ∷ lay) = ap (λ b. otherwise (p, x) || b) (against_pins-any pins lay)

module _ (pins lay : List ℕ) (i : ℕ) (p : i < length pins) (h : i < length lay) where
  -- row i + 1 pinned or unpinned, and those after it to come
  pub pinned-next : (v : ℕ) → v ≡ with_pin (not (may_change (get_or pins i 0))) (get_or lay i 0) →
      take i lay ++ pinned_as (drop i pins) (drop i lay) ≡
      take (i + 1) (set lay i v) ++ pinned_as (drop (i + 1) pins) (drop (i + 1) (set lay i v))
  unfolding pinned_as
  pinned-next v e =
      let rest = pinned_as (drop (suc i) pins) (drop (suc i) lay) in
      rw (add-one i, drop-cons pins i 0 p, drop-cons lay i 0 h, take-suc-set lay i v h, drop-set-lt (suc i) lay i v (omega arith), ← e)
      (sym (append_assoc (take i lay) (v ∷ []) rest))

-- past the last row
pub pinned-all : (pins lay : List ℕ) (i : ℕ) → length lay ≤ i → take i lay ++ pinned_as (drop i pins) (drop i lay) ≡ lay
unfolding pinned_as
pinned-all pins lay i h = rw (drop_of_length-le lay h, take_all i lay h) (append-nil lay)
