-- What the tests behind the refusals 7, 8, 9, 10, 16 and 23 say. The refusals are stated by tests that can be carried out; each of them is
-- here what its words mean: the tree rule row by row, links one to one, bytes from 0 to 3, the interval definition of compatible, and the
-- choices that pins permit.
use Rattle.std.specs.Prelude.{ℕ, ◌≤◌, ◌≡◌, true, false, ◌↔◌, length, take}
use mathlib.Core.List.{List, Permᴰ}
use Rattle.tanglegram.specs.Lists.{Each, range}
use Rattle.tanglegram.specs.Tree.{Rule}
use Rattle.tanglegram.specs.Order.{Choice, against_pins, Compatible}
use Rattle.tanglegram.specs.declared.side.Side.{Side}
use Rattle.work_trees.specs.Rows.{upper, lower}
use Rattle.work_tree_rule.specs.Rule.{bad_row, Lowest}
use Rattle.record_fields.specs.Fields.{size_of}
use Rattle.record_fields.specs.Refusals.{breaks_rule, one_to_one, is_layout, refusal}
use Rattle.record_fields.specs.Meaning.{table_of}
use Rattle.record_orders.specs.Proposed.{is_order}

pub record Tests : Type 0 where
  -- 7 and 8: rows pass exactly if each of rows 1 to n - 1 keeps the tree rule.
  pub tree_rule : (n : ℕ) (rows : List ℕ) → (breaks_rule n rows ≡ false) ↔ Rule n (upper rows) (lower rows)
  -- Where they do not, `bad_row` is the lowest row that breaks it: it does, and each earlier row keeps it.
  pub lowest_broken : (n : ℕ) (rows : List ℕ) → breaks_rule n rows ≡ true →
      Lowest n (upper rows) (lower rows) (bad_row n (upper rows) (lower rows))
  -- 9: n links pass exactly if they are the numbers 1 to n in some order.
  pub one_to_one : (n : ℕ) (links : List ℕ) → length links ≡ n → (one_to_one n links ≡ true) ↔ Permᴰ links (range 1 n)
  -- 10: bytes pass exactly if none is above 3.
  pub layout_bytes : (bytes : List ℕ) → (is_layout bytes ≡ true) ↔ Each (λ x. x ≤ 3) bytes
  -- 16: an order proposed for a side of a record passes exactly if it has n entries, and its first n are a compatible order.
  pub compatible : (s : List ℕ) → refusal s ≡ 0 → (side : Side) (xs : List ℕ) →
      (is_order (size_of s) ((table_of s).tree side) xs ≡ true) ↔
      ((size_of s ≤ length xs) × Compatible ((table_of s).tree side) (take (size_of s) xs))
  -- 23: a layout goes against no pin of another, a byte for each row in both, exactly if it is a choice that these pins permit.
  pub against_pins : (pins lay : List ℕ) → length pins ≡ length lay → (against_pins pins lay ≡ false) ↔ Choice pins lay
