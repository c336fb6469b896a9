-- The refusals of packing, in their order (docs/CALLS.md): its parts', then 14. 0 is no refusal.
use Rattle.std.specs.Prelude.{ℕ, ◌-◌, ◌*◌, not, List, eqb, ltb, length}
use Rattle.record_fields.specs.Fields.{length_of, Parts}
use Rattle.record_fields.specs.Refusals.{◌when◌else◌, or_else, is_hold, no_size, contents_refusal}

-- First the hold, n, and the length of each list; the buffer's places come last.
unfoldable pub shape_refusal : ℕ → ℕ → ℕ → ℕ → ℕ → ℕ → ℕ → ℕ
unfolding is_hold no_size
shape_refusal hold n left right links left_layout right_layout =
    4 when not (is_hold hold)
    else 5 when no_size n
    else 6 when not (eqb left (2 * (n - 1)))
    else 6 when not (eqb right (2 * (n - 1)))
    else 6 when not (eqb links n)
    else 6 when not (eqb left_layout (n - 1))
    else 6 when not (eqb right_layout (n - 1))
    else 0

abbrev pub parts_shape_refusal : Parts → ℕ
parts_shape_refusal P =
    shape_refusal P.hold P.size (length P.left_rows) (length P.right_rows) (length P.links) (length P.left_layout)
    (length P.right_layout)

unfoldable pub pack_refusal : Parts → List ℕ → ℕ
unfolding shape_refusal contents_refusal
pack_refusal P out = or_else (parts_shape_refusal P) (or_else (contents_refusal P) (14 when ltb (length out) (length_of P.size) else 0))
