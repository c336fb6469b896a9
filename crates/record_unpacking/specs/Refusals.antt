-- The refusals of unpacking, in their order (docs/CALLS.md): a record's, then 14. 0 is no refusal.
use Rattle.std.specs.Prelude.{ℕ, ◌-◌, ◌*◌, List, ltb, length}
use Rattle.record_fields.specs.Fields.{size_of}
use Rattle.record_fields.specs.Refusals.{◌when◌else◌, or_else, refusal}

-- The room, with the number of places of each buffer: for the left rows, the right rows, the links and the two layouts.
unfoldable pub room_refusal : ℕ → ℕ → ℕ → ℕ → ℕ → ℕ → ℕ
room_refusal n left right links left_layout right_layout =
    14 when ltb left (2 * (n - 1))
    else 14 when ltb right (2 * (n - 1))
    else 14 when ltb links n
    else 14 when ltb left_layout (n - 1)
    else 14 when ltb right_layout (n - 1)
    else 0

unfoldable pub unpack_refusal : List ℕ → List ℕ → List ℕ → List ℕ → List ℕ → List ℕ → ℕ
unfolding refusal room_refusal
unpack_refusal s left right links left_layout right_layout =
    or_else (refusal s)
    (room_refusal (size_of s) (length left) (length right) (length links) (length left_layout) (length right_layout))
