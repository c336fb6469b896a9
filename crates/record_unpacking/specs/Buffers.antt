-- The five buffers that a record's parts are put into, as the code holds them.
use Rattle.std.specs.Prelude.{ℕ, ◌≡◌, length}
use Rattle.std.proofs.lemmas.List.Edits.{sets}
use Rattle.record_fields.specs.Fields.{Parts}
use Rattle.record_unpacking.specs.declared.unpacking.Buffers.{Buffers}
use Rattle.record_unpacking.specs.Refusals.{room_refusal}

-- The refusal of the room, with the number of places that they have.
abbrev pub room_in : ℕ → Buffers → ℕ
room_in n b =
    room_refusal n (length b.left.now) (length b.right.now) (length b.links.now) (length b.leftlayout.now) (length b.rightlayout.now)

-- Each part is in the first places of its buffer, and beyond them the buffer is as found.
pub record Filled (P : Parts) (b b' : Buffers) : Type 0 where
  pub left : b'.left.now ≡ sets b.left.now 0 P.left_rows
  pub right : b'.right.now ≡ sets b.right.now 0 P.right_rows
  pub links : b'.links.now ≡ sets b.links.now 0 P.links
  pub left_layout : b'.leftlayout.now ≡ sets b.leftlayout.now 0 P.left_layout
  pub right_layout : b'.rightlayout.now ≡ sets b.rightlayout.now 0 P.right_layout

-- They are the buffers that others were.
pub record SameBuffers (b b' : Buffers) : Type 0 where
  pub left : b'.left.ghost_name ≡ b.left.ghost_name
  pub right : b'.right.ghost_name ≡ b.right.ghost_name
  pub links : b'.links.ghost_name ≡ b.links.ghost_name
  pub left_layout : b'.leftlayout.ghost_name ≡ b.leftlayout.ghost_name
  pub right_layout : b'.rightlayout.ghost_name ≡ b.rightlayout.ghost_name
