-- The refusals of the calls on merge tables, in their order (docs/CALLS.md): reading 5, 6, 20, 21, 14; writing 13, then 1 to 10, 14.
use Rattle.std.specs.Prelude.{ℕ, ◌-◌, ◌*◌, not, List, eqb, ltb, ℤ, length}
use Rattle.merge.specs.Tables.{table_for, some_none, twice}
use Rattle.record_fields.specs.Fields.{size_of, parts}
use Rattle.record_fields.specs.Meaning.{rows_on}
use Rattle.record_fields.specs.Refusals.{◌when◌else◌, or_else, no_size, refusal}
use Rattle.record_arrays.specs.Sides.{is_side, side_of}

-- Reading a table over n leaves: 20 over the whole table comes before 21.
unfoldable pub merge_read_refusal : ℕ → List ℤ → List ℕ → ℕ
unfolding no_size some_none twice
merge_read_refusal n table out =
    5 when no_size n
    else 6 when not (eqb (length table) (2 * (n - 1)))
    else 20 when some_none n table
    else 21 when twice table
    else 14 when ltb (length out) (2 * (n - 1))
    else 0

-- The table that says the rows of a side of a record, as they are given.
unfoldable pub written_table : List ℕ → ℕ → List ℤ
unfolding table_for
written_table s side = table_for (size_of s) (rows_on (parts s) (side_of side))

unfoldable pub merge_write_refusal : List ℕ → ℕ → List ℤ → ℕ
unfolding is_side refusal
merge_write_refusal s side out =
    13 when not (is_side side)
    else or_else (refusal s) (14 when ltb (length out) (2 * (size_of s - 1)) else 0)
