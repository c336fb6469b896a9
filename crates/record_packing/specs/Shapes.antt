-- What lists that can be packed have in common, whatever stands in them.
use Rattle.std.specs.Prelude.{ℕ, ◌-◌, ◌*◌, ◌≤◌, ◌≡◌, List, length}
use Rattle.record_fields.specs.Fields.{most_leaves}

-- Lists of the lengths that the parts of a record over n leaves have.
pub record Shaped (n : ℕ) (left right links left_layout right_layout : List ℕ) : Type 0 where
  pub some : 1 ≤ n
  pub most : n ≤ most_leaves
  pub left_long : length left ≡ 2 * (n - 1)
  pub right_long : length right ≡ 2 * (n - 1)
  pub links_long : length links ≡ n
  pub left_layout_long : length left_layout ≡ n - 1
  pub right_layout_long : length right_layout ≡ n - 1
