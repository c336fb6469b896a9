-- Packing and unpacking undo each other, over their statements.
use Prim.Native.Nat.{ℕ, ◌-◌, ◌*◌, ◌≤◌, ◌<◌}
use mathlib.Core.Path.{◌≡◌, refl, sym, ap, subst, ◌∙◌}
use mathlib.Core.List.{List}
use native.Mathlib.Omega.{arith}
use lib.ListN.{length, take, drop}
use lib.Seq.{take_at, take-append_seam}
use Rattle.tanglegram.specs.Lists.{Each}
use Rattle.tanglegram.specs.Order.{byte}
use Rattle.tanglegram.specs.Table.{layout}
use Rattle.record_fields.specs.Told.{row_for}
use Rattle.record_fields.specs.Fields.{hold_of, size_of, right_at, links_at, left_layout_at, right_layout_at, length_of}
use Rattle.record_fields.specs.Fields.{Parts, given, parts, parts_of}
use Rattle.record_fields.specs.Fields.{packed}
use Rattle.record_fields.specs.Refusals.{refusal}
use Rattle.record_fields.specs.Refused.{NumberAndRow, lent}
use Rattle.record_fields.specs.Meaning.{layouts_in}
use Rattle.record_fields.proofs.Stores.{length-numbers, length-bytes}
use Rattle.record_fields.proofs.Acceptance.{accepted-sized}
use Rattle.record_fields.proofs.Refused.{lent-accepted}
use Rattle.record_unpacking.specs.Refusals.{room_refusal, unpack_refusal}
use Rattle.record_packing.specs.Refusals.{pack_refusal}
use Rattle.record_packing.specs.Calls.{Packs}
use Rattle.record_unpacking.proofs.Unpacked.{Room, room_0, unpack_second, unpack_record}
use Rattle.record_packing.proofs.Packed.{shape_good, packing_good, length-packed}
use Rattle.record_packing.proofs.RoundTrip.{size-packed, parts-packed, packed-accepted, packed-parts, parts-accepted}
use Rattle.promises.specs.Outcomes.{UnpackOutcome, UnpacksTo}
use Rattle.promises.specs.RoundTrip.{RoomFor, CameTo, parts_in, RoundTrip}

-- the first places of a lent buffer after an accepted call
first_places : (k : ℕ) (part found : List ℕ) → k ≡ 0 → take (length part) (lent k part found) ≡ part
first_places k part found e =
    ap (take (length part)) (sym (lent-accepted k part found e)) ∙ take-append_seam part (drop (length part) found)

-- unpacking a record with room in every buffer
came_to : (s left right links left_layout right_layout : List ℕ) (o : UnpackOutcome) →
    UnpacksTo s left right links left_layout right_layout o → unpack_refusal s left right links left_layout right_layout ≡ 0 →
    CameTo (parts s) o
unfolding parts_of row_for
came_to s left right links left_layout right_layout o u z =
    let k = unpack_refusal s left right links left_layout right_layout in
    let P = parts s in
    record {
      answers = u.answers ∙ rw z refl;
      left = ap (take (length P.left_rows)) u.afterwards_left ∙ first_places k P.left_rows left z;
      right = ap (take (length P.right_rows)) u.afterwards_right ∙ first_places k P.right_rows right z;
      links = ap (take (length P.links)) u.afterwards_links ∙ first_places k P.links links z;
      left_layout = ap (take (length P.left_layout)) u.afterwards-left-layout ∙ first_places k P.left_layout left_layout z;
      right_layout = ap (take (length P.right_layout)) u.afterwards-right-layout ∙ first_places k P.right_layout right_layout z;
    }

-- what packing writes into the first places of its buffer
pub left-packed : (P : Parts) (out : List ℕ) (answer : NumberAndRow) (after : List ℕ) → Packs P out answer after → pack_refusal P out ≡ 0 →
    (m : ℕ) → length (packed P) ≡ m → take m after ≡ packed P
left-packed P out answer after p e m l =
    ap (take m) (p.afterwards ∙ sym (lent-accepted (pack_refusal P out) (packed P) out e)) ∙ take_at (packed P) _ m l

there : (P : Parts) (out : List ℕ) (answer : NumberAndRow) (after : List ℕ) → Packs P out answer after → answer.number ≡ 0 →
    (left right links left_layout right_layout : List ℕ) → RoomFor P left right links left_layout right_layout → (o : UnpackOutcome) →
    UnpacksTo (take (length_of P.size) after) left right links left_layout right_layout o → CameTo P o
there P out answer after p a left right links left_layout right_layout r o u =
    let e : pack_refusal P out ≡ 0 = sym (ap (λ a. a.number) p.answers) ∙ a in
    let g = (shape_good P (packing_good P out e).0).1 in
    let s = packed P in
    let n = P.size in
    let f = left-packed P out answer after p e (length_of n) (length-packed P g) in
    let v = subst (λ s. UnpacksTo s left right links left_layout right_layout o) f u in
    let places : Room n (length left) (length right) (length links) (length left_layout) (length right_layout) = record {
      for_left = omega (arith, r.for_left, g.left_long);
      for_right = omega (arith, r.for_right, g.right_long);
      for_links = omega (arith, r.for_links, g.links_long);
      for_left_layout = omega (arith, r.for_left_layout, g.left_layout_long);
      for_right_layout = omega (arith, r.for_right_layout, g.right_layout_long);
    } in
    let z =
    sym (unpack_second s left right links left_layout right_layout (packed-accepted P out e))
    ∙ ap (λ n. room_refusal n (length left) (length right) (length links) (length left_layout) (length right_layout)) (size-packed P)
    ∙ room_0 n _ _ _ _ _ places in
    subst (λ P. CameTo P o) (parts-packed P out e) (came_to s left right links left_layout right_layout o v z)

-- the parts that unpacking came to are the record's
parts_in_are : (s : List ℕ) (o : UnpackOutcome) → refusal s ≡ 0 → CameTo (parts s) o → parts_in o ≡ parts s
unfolding parts_of
parts_in_are s o e c =
    let n = size_of s in
    let g = accepted-sized s e in
    made (ap (λ a. a.n) c.answers) (ap (λ a. a.hold) c.answers)
    (ap (λ k. take k o.left) (sym (length-numbers s 8 (2 * (n - 1)))) ∙ c.left)
    (ap (λ k. take k o.right) (sym (length-numbers s (right_at n) (2 * (n - 1)))) ∙ c.right)
    (ap (λ k. take k o.links) (sym (length-numbers s (links_at n) n)) ∙ c.links)
    (ap (λ k. take k o.left_layout) (sym (length-bytes s (left_layout_at n) (n - 1) (omega arith))) ∙ c.left_layout)
    (ap (λ k. take k o.right_layout) (sym (length-bytes s (right_layout_at n) (n - 1) (omega arith))) ∙ c.right_layout)
  where
    made : {h n : ℕ} → n ≡ size_of s → h ≡ hold_of s → take (2 * (size_of s - 1)) o.left ≡ (parts s).left_rows →
        take (2 * (size_of s - 1)) o.right ≡ (parts s).right_rows → take (size_of s) o.links ≡ (parts s).links →
        take (size_of s - 1) o.left_layout ≡ (parts s).left_layout → take (size_of s - 1) o.right_layout ≡ (parts s).right_layout →
        given h n (take (2 * (n - 1)) o.left) (take (2 * (n - 1)) o.right) (take n o.links)
        (take (n - 1) o.left_layout) (take (n - 1) o.right_layout) ≡ parts s
    made p q a b c d e = rw (p, q, a, b, c, d, e) refl

read_back : (s left right links left_layout right_layout : List ℕ) → Each (λ b. b < 256) s → (o : UnpackOutcome) →
    UnpacksTo s left right links left_layout right_layout o → o.answer.refusal.number ≡ 0 →
    (out : List ℕ) → length s ≤ length out → (answer : NumberAndRow) (after : List ℕ) → Packs (parts_in o) out answer after →
    (answer.number ≡ 0) × (take (length s) after ≡ s)
read_back s left right links left_layout right_layout small o u a out h answer after p =
    let z : unpack_refusal s left right links left_layout right_layout ≡ 0 = sym (ap (λ a. a.refusal.number) u.answers) ∙ a in
    let e = unpack_record s left right links left_layout right_layout z in
    let f = packed-parts s small e in
    let q =
    subst (λ P. Packs P out answer after) (parts_in_are s o e (came_to s left right links left_layout right_layout o u z)) p in
    let k = parts-accepted s out e h in
    (ap (λ a. a.number) q.answers ∙ k, left-packed (parts s) out answer after q k (length s) (ap length f) ∙ f)

pub round_trip : RoundTrip
round_trip = record {
  packed_then_unpacked = there;
  unpacked_then_packed = read_back;
  pins_packed = λ P out answer after p a side row.
      let e : pack_refusal P out ≡ 0 = sym (ap (λ a. a.number) p.answers) ∙ a in
      let g = (shape_good P (packing_good P out e).0).1 in
      let f = left-packed P out answer after p e (length_of P.size) (length-packed P g) in
      ap (λ Q. byte (layout (layouts_in Q) side) row) (ap parts f ∙ parts-packed P out e);
  pins_unpacked = λ s left right links left_layout right_layout o u a side row.
      let z : unpack_refusal s left right links left_layout right_layout ≡ 0 = sym (ap (λ a. a.refusal.number) u.answers) ∙ a in
      let e = unpack_record s left right links left_layout right_layout z in
      ap (λ Q. byte (layout (layouts_in Q) side) row) (parts_in_are s o e (came_to s left right links left_layout right_layout o u z));
}
