-- A record with a side freed shows the same table with the freed layouts.
use Prim.Native.Nat.{ℕ, ◌-◌}
use mathlib.Core.Path.{◌≡◌, ◌∙◌}
use mathlib.Core.List.{List}
use lib.ListN.{length}
use Rattle.tanglegram.specs.declared.side.Side.{Side}
use Rattle.tanglegram.specs.declared.side.Side.TheVariants.{Left as left, Right as right}
use Rattle.tanglegram.specs.Table.{free}
use Rattle.tanglegram.proofs.Freeing.{length-freed}
use Rattle.record_fields.specs.Fields.{size_of}
use Rattle.record_fields.specs.Meaning.{table_of, layouts_of, relaid}
use Rattle.record_fields.proofs.Acceptance.{accepted-sized}
use Rattle.record_fields.proofs.Meaning.{length-left, length-right, table-relaid, layouts-of-relaid}
use Rattle.record_arrays.specs.Sides.{RecordOver}

module _ (s : List ℕ) (n : ℕ) (g : RecordOver s n) where
  module _ (side : Side) where
    pub freed-long : (length (free (table_of s) side (layouts_of s)).left_bytes ≡ size_of s - 1) ×
        (length (free (table_of s) side (layouts_of s)).right_bytes ≡ size_of s - 1)
    freed-long = go side
      where
        go : (x : Side) → (length (free (table_of s) x (layouts_of s)).left_bytes ≡ size_of s - 1) ×
            (length (free (table_of s) x (layouts_of s)).right_bytes ≡ size_of s - 1)
        go left = (length-freed _ _ _ ∙ length-left s g.accepted, length-right s g.accepted)
        go right = (length-left s g.accepted, length-freed _ _ _ ∙ length-right s g.accepted)

    pub freed-table : table_of (relaid s (free (table_of s) side (layouts_of s))) ≡ table_of s
    freed-table = table-relaid s (accepted-sized s g.accepted) (free (table_of s) side (layouts_of s)) freed-long.0 freed-long.1

    pub freed-layouts : layouts_of (relaid s (free (table_of s) side (layouts_of s))) ≡ free (table_of s) side (layouts_of s)
    freed-layouts =
        layouts-of-relaid s (accepted-sized s g.accepted) (free (table_of s) side (layouts_of s)) freed-long.0 freed-long.1
