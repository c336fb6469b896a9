-- `check_room` refuses where a buffer is too short.
use Rattle.std.proofs.Common.{ap, length, arith, sym}
use Rattle.record_fields.specs.Refused.{refused}
use Rattle.record_unpacking.proofs.Unpacked.{Room, room_0, room_14}
use Rattle.record_unpacking.proofs.unpacking.Buffers.check_room.Goals.{then-self-m-via-then-self-m}
use Rattle.record_unpacking.proofs.unpacking.Buffers.check_room.Goals.{then-self-m-via-else-self-m+then-self-m-2}
use Rattle.record_unpacking.proofs.unpacking.Buffers.check_room.Goals.{then-self-m-via-else-self-m+else-self-m-2+then-self-n}
use Rattle.record_unpacking.proofs.unpacking.Buffers.check_room.Goals.{then-self-m-via-else-self-m+else-self-m-2+else-self-n+then-self-m-3}
use Rattle.record_unpacking.proofs.unpacking.Buffers.check_room.Goals.{
  then-self-m-via-else-self-m+else-self-m-2+else-self-n+else-self-m-3+then-self-m-4,
}
use Rattle.record_unpacking.proofs.unpacking.Buffers.check_room.Goals as goal

pub returns-then-self-m : goal.returns-then-self-m
returns-then-self-m c =
    let b = c.args.self.now in
    let short : Room c.args.n (length b.left.now) (length b.right.now) (length b.links.now) (length b.leftlayout.now)
    (length b.rightlayout.now) → ⊥ = λ g.
    elim c.then-self-m.branch [
      | then-self-m-via-then-self-m w ↦ let h = w.if-self-m.true in omega (arith, h, g.for_left)
      | then-self-m-via-else-self-m+then-self-m-2 w ↦ let h = w.if-self-m-2.true in omega (arith, h, g.for_right)
      | then-self-m-via-else-self-m+else-self-m-2+then-self-n w ↦ let h = w.if-self-n.true in omega (arith, h, g.for_links)
      | then-self-m-via-else-self-m+else-self-m-2+else-self-n+then-self-m-3 w ↦
          let h = w.if-self-m-3.true in omega (arith, h, g.for_left_layout)
      | then-self-m-via-else-self-m+else-self-m-2+else-self-n+else-self-m-3+then-self-m-4 w ↦
          let h = w.if-self-m-4.true in omega (arith, h, g.for_right_layout)
    ] in
    ap refused (room_14 _ _ _ _ _ _ short)

pub returns : goal.returns
returns c =
    ap refused (sym (room_0 _ _ _ _ _ _ (record {
      for_left = c.if-self-m.false;
      for_right = c.if-self-m-2.false;
      for_links = c.if-self-n.false;
      for_left_layout = c.if-self-m-3.false;
      for_right_layout = c.if-self-m-4.false;
    })))
