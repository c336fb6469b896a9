-- There and back: what packing accepts, unpacking reads out again; what unpacking accepts, packing makes again, byte for byte. Pins are
-- carried through.
use Rattle.std.specs.Prelude.{ℕ, ◌-◌, ◌*◌, ◌≤◌, ◌<◌, ◌≡◌, List, length, take}
use Rattle.tanglegram.specs.Lists.{Each}
use Rattle.tanglegram.specs.Order.{byte}
use Rattle.tanglegram.specs.declared.side.Side.{Side}
use Rattle.tanglegram.specs.Table.{layout}
use Rattle.record_fields.specs.Fields.{length_of, Parts, given}
use Rattle.record_fields.specs.Refused.{NumberAndRow, refused}
use Rattle.record_fields.specs.Meaning.{layouts_in}
use Rattle.record_arrays.specs.Rows.{row_byte}
use Rattle.record_packing.specs.Calls.{Packs}
use Rattle.promises.specs.Outcomes.{UnpackOutcome, UnpacksTo}

-- Buffers with the places for these parts.
pub record RoomFor (P : Parts) (left right links left_layout right_layout : List ℕ) : Type 0 where
  pub for_left : length P.left_rows ≤ length left
  pub for_right : length P.right_rows ≤ length right
  pub for_links : length P.links ≤ length links
  pub for_left_layout : length P.left_layout ≤ length left_layout
  pub for_right_layout : length P.right_layout ≤ length right_layout

-- Unpacking came to these parts: it answers their hold and n, and each buffer's first places are their list.
pub record CameTo (P : Parts) (o : UnpackOutcome) : Type 0 where
  pub answers : o.answer ≡ record { refusal = refused 0; hold = P.hold; n = P.size }
  pub left : take (length P.left_rows) o.left ≡ P.left_rows
  pub right : take (length P.right_rows) o.right ≡ P.right_rows
  pub links : take (length P.links) o.links ≡ P.links
  pub left_layout : take (length P.left_layout) o.left_layout ≡ P.left_layout
  pub right_layout : take (length P.right_layout) o.right_layout ≡ P.right_layout

-- The parts that unpacking came to: the hold and n that it answers, and the first places of each buffer.
abbrev pub parts_in : UnpackOutcome → Parts
parts_in o =
    let n = o.answer.n in
    given o.answer.hold n (take (2 * (n - 1)) o.left) (take (2 * (n - 1)) o.right) (take n o.links)
    (take (n - 1) o.left_layout) (take (n - 1) o.right_layout)

pub record RoundTrip : Type 0 where
  -- Parts packed into a buffer, and the buffer's first 12n-2 bytes unpacked into buffers with room.
  pub packed_then_unpacked : (P : Parts) (out : List ℕ) (answer : NumberAndRow) (after : List ℕ) →
      Packs P out answer after → answer.number ≡ 0 →
      (left right links left_layout right_layout : List ℕ) → RoomFor P left right links left_layout right_layout → (o : UnpackOutcome) →
      UnpacksTo (take (length_of P.size) after) left right links left_layout right_layout o → CameTo P o
  -- A record's bytes unpacked, and what came of it packed into a buffer with room.
  pub unpacked_then_packed : (s left right links left_layout right_layout : List ℕ) → Each (λ b. b < 256) s → (o : UnpackOutcome) →
      UnpacksTo s left right links left_layout right_layout o → o.answer.refusal.number ≡ 0 →
      (out : List ℕ) → length s ≤ length out → (answer : NumberAndRow) (after : List ℕ) → Packs (parts_in o) out answer after →
      (answer.number ≡ 0) × (take (length s) after ≡ s)
  -- A row of the record that packing makes has the byte that its layout had, and a row's byte that unpacking writes is the record's: 2
  -- and 3 as they are.
  pub pins_packed : (P : Parts) (out : List ℕ) (answer : NumberAndRow) (after : List ℕ) → Packs P out answer after → answer.number ≡ 0 →
      (side : Side) (row : ℕ) → row_byte (take (length_of P.size) after) side row ≡ byte (layout (layouts_in P) side) row
  pub pins_unpacked : (s left right links left_layout right_layout : List ℕ) (o : UnpackOutcome) →
      UnpacksTo s left right links left_layout right_layout o → o.answer.refusal.number ≡ 0 →
      (side : Side) (row : ℕ) → byte (layout (layouts_in (parts_in o)) side) row ≡ row_byte s side row
