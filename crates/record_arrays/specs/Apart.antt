-- An accepted record over n leaves taken apart into arrays.
use Rattle.std.specs.Prelude.{ℕ, ◌≡◌, List, take}
use Rattle.tanglegram.specs.declared.side.Side.TheVariants.{Left as left, Right as right}
use Rattle.record_fields.specs.Fields.{parts}
use Rattle.record_fields.specs.Meaning.{table_of}
use Rattle.work_orders.specs.Between.{Between}
use Rattle.work_linked_trees.specs.Memory.{InMemory}
use Rattle.record_arrays.specs.Shown.{shown_order}

-- Into both orders and the links.
pub record OrdersTaken (s : List ℕ) (n : ℕ) (σ τ links : List ℕ) : Type 0 where
  pub left_order : take n σ ≡ shown_order s left
  pub right_order : take n τ ≡ shown_order s right
  pub its_links : take n links ≡ (parts s).links
  pub between : Between n links σ τ

-- Into both trees, the layouts l and r applied, and the links.
pub record TreesTaken (s : List ℕ) (n : ℕ) (links L l R r : List ℕ) : Type 0 where
  pub memory : InMemory ((table_of s).tree left) ((table_of s).tree right) n links L l R r
  pub its_links : take n links ≡ (parts s).links
