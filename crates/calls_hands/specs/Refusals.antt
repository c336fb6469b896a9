-- The refusals of a hand list, in their order (docs/CALLS.md): 17, then 1 to 10, then entry by entry 13, 15, 11, 22.
use Rattle.std.specs.Prelude.{ℕ, ◌/◌, ◌%◌, not, List, [], ◌∷◌, ltb, length}
use Rattle.tanglegram.specs.Order.{may_change}
use Rattle.record_fields.specs.Fields.{most_hands, hold_of, size_of}
use Rattle.record_fields.specs.Refusals.{◌when◌else◌, or_else, refusal}
use Rattle.record_arrays.specs.Sides.{is_side, side_of, holds}
use Rattle.record_arrays.specs.Rows.{no_row, row_byte}

-- A hand list: each entry a side and a row; the first bad entry decides.
pub record Hand : Type 0 where
  pub side : ℕ
  pub row : ℕ

abbrev pub hand : ℕ → ℕ → Hand
hand side row = record { side = side; row = row }

-- An entry as one number: the side times 65,536, and the row.
abbrev pub hand_of : ℕ → Hand
hand_of x = hand (x / 65536) (x % 65536)

-- The refusal of an entry, of a record: no side, no row, a held side, a pinned row.
unfoldable pub hand_refusal : List ℕ → Hand → ℕ
unfolding is_side no_row holds
hand_refusal s h =
    13 when not (is_side h.side)
    else 15 when no_row (size_of s) h.row
    else 11 when holds (hold_of s) (side_of h.side)
    else 22 when not (may_change (row_byte s (side_of h.side) h.row))
    else 0

unfoldable pub entries_refusal : List ℕ → List Hand → ℕ
unfolding hand_refusal
entries_refusal s [] = 0
entries_refusal s (h ∷ hs) = let rest = entries_refusal s hs in or_else (hand_refusal s h) rest

unfoldable pub hands_refusal : List ℕ → List Hand → ℕ
unfolding refusal entries_refusal
hands_refusal s hands = 17 when ltb most_hands (length hands) else or_else (refusal s) (entries_refusal s hands)
