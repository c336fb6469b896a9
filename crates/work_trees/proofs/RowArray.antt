-- Where things stand in a row array: a row's entries by the places that the code reads, and that a row array that says n has its last
-- place.
use Prim.Native.Nat.{ℕ, pred, ◌+◌, ◌-◌, ◌*◌, ◌≤◌}
use mathlib.Core.Path.{◌≡◌}
use mathlib.Core.List.{List}
use native.Mathlib.Decide.{dec_le}
use native.Mathlib.Omega.{arith}
use lib.ListN.{length, get_or-eq_default}
use Rattle.work_trees.specs.Rows.{size}

pub upper-place : (i : ℕ) → 1 ≤ i → 2 * i - 2 ≡ 2 * pred i
upper-place i h = omega arith

pub lower-place : (i : ℕ) → 1 ≤ i → 2 * i - 1 ≡ 2 * pred i + 1
lower-place i h = omega arith

pub rows_long : (T : List ℕ) → 1 ≤ size T → 1023 ≤ length T
rows_long T h = go (dec_le 1023 (length T))
  where
    go : Dec (1023 ≤ length T) → 1023 ≤ length T
    go (yes d) = d
    go (no d) = let e = get_or-eq_default T 0 {n = 1022} (omega arith) in absurd (omega arith)
