-- The examples' cases as records of bytes, and one case more.
use Rattle.std.specs.Prelude.{ℕ, List, [], ◌∷◌}
use Rattle.tanglegram.specs.Examples.{Case, bytes_of, case2_with}
use Rattle.record_fields.specs.Fields.{given, packed}

-- A case's record, under a hold; under none, `N`.
abbrev pub held_record_of : ℕ → Case → List ℕ
held_record_of hold g =
    packed (given hold g.size g.left_rows g.right_rows g.links g.layouts.left_bytes g.layouts.right_bytes)

abbrev pub record_of : Case → List ℕ
record_of g = held_record_of 78 g

-- Examples 1 to 4 with the layout that freeing the left gives.
abbrev pub case2_freed : Case
case2_freed = case2_with (bytes_of (0 ∷ 1 ∷ 1 ∷ []) (0 ∷ 0 ∷ 0 ∷ []))
