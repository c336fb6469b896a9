-- Two orders of the leaves 1 to n in arrays, and links between these leaves, one to one.
use Rattle.std.specs.Prelude.{ℕ, ◌≤◌, List}
use Rattle.work_places.specs.Arrays.{OneToN}

pub record Between (n : ℕ) (links left right : List ℕ) : Type 0 where
  pub most : n ≤ 512
  pub linked : OneToN n links
  pub left_order : OneToN n left
  pub right_order : OneToN n right
