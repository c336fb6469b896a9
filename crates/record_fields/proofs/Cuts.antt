-- The layouts of a record, cut out of its bytes: the left one up to where the right one begins, the right one up to the end.
use Prim.Native.Nat.{ℕ, ◌-◌}
use mathlib.Core.Path.{◌≡◌, ap₂}
use mathlib.Core.List.{List}
use native.Mathlib.Omega.{arith}
use lib.ListN.{length}
use Rattle.record_fields.specs.Fields.{bytes, left_layout_at, right_layout_at, Sized}

module _ (s : List ℕ) (n : ℕ) (z : Sized s n) {left right : ℕ} (e : left ≡ left_layout_at n) (f : right ≡ right_layout_at n) where
  pub left_cut : bytes s left (right - left) ≡ bytes s (left_layout_at n) (n - 1)
  left_cut = let k : right - left ≡ n - 1 = omega arith in ap₂ (bytes s) e k

  pub right-cut : bytes s right (length s - right) ≡ bytes s (right_layout_at n) (n - 1)
  right-cut = let k : length s - right ≡ n - 1 = omega arith in ap₂ (bytes s) f k
