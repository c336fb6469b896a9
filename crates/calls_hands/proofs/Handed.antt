-- What a hand list does, for the promises: an empty one is refused only with its record, an entry twice comes back to where it
-- was, and a held side's bytes stay, and a pinned row's.
use Prim.Native.Nat.{ℕ, pred, ◌≤◌}
use mathlib.Core.Path.{◌≡◌, refl, sym, ap, ◌∙◌}
use mathlib.Core.Bool.{Bool, true, false, true≢false, false≢true}
use mathlib.Core.List.{List, [], ◌∷◌}
use borrow.Author.Tests.{ltb-true, ltb-false}
use lib.Dec.{ltb}
use lib.ListN.{length, get_or, set}
use lib.Seq.{get_or-set_same, get_or-set_other, set-get_or, set_out, set-set}
use Rattle.tanglegram.specs.Order.{flip, byte, turn_row, may_change}
use Rattle.tanglegram.specs.declared.side.Side.{Side}
use Rattle.tanglegram.specs.declared.side.Side.TheVariants.{Left as left, Right as right}
use Rattle.tanglegram.specs.Table.{Layouts, layout, put}
use Rattle.tanglegram.proofs.Bytes.{flip_twice}
use Rattle.record_fields.specs.Fields.{hold_of}
use Rattle.record_fields.specs.Refusals.{refusal}
use Rattle.record_fields.specs.Meaning.{layouts_of, relaid}
use Rattle.record_fields.proofs.Acceptance.{accepted-sized, none_both}
use Rattle.record_fields.proofs.Meaning.{relaid-same}
use Rattle.record_arrays.specs.Sides.{holds, side_of}
use Rattle.record_arrays.specs.Rows.{row_byte}
use Rattle.record_arrays.proofs.OneRow.{row_small}
use Rattle.calls_hands.specs.Refusals.{Hand, hand_refusal, entries_refusal, hands_refusal}
use Rattle.calls_hands.specs.Calls.{handed}
use Rattle.calls_hands.proofs.HandLists.{nothing-after, hand-good, handing_accepted}

-- ---- no entries: only the record is tested, and it stays as it is

pub none_handing : (s : List ℕ) → hands_refusal s [] ≡ refusal s
unfolding hands_refusal entries_refusal
none_handing s = nothing-after (refusal s)

pub none-handed : (s : List ℕ) → refusal s ≡ 0 → relaid s (handed (layouts_of s) []) ≡ s
unfolding handed
none-handed s a = relaid-same s (accepted-sized s a)

-- ---- an entry twice

pub turn_twice : (lay : List ℕ) (row : ℕ) → byte lay row ≤ 3 → turn_row (turn_row lay row) row ≡ lay
turn_twice lay row small = by (ltb (pred row) (length lay)) refl
  where
    by : (b : Bool) → ltb (pred row) (length lay) ≡ b → turn_row (turn_row lay row) row ≡ lay
    by true e =
        let k = pred row in
        let once = get_or-set_same lay k (flip (get_or lay k 0)) 0 (ltb-true k (length lay) e) in
        set-set lay k (flip (get_or lay k 0)) _
        ∙ ap (λ x. set lay k (flip x)) once
        ∙ ap (set lay k) (flip_twice (get_or lay k 0) small)
        ∙ set-get_or lay k 0
    by false e =
        let k = pred row in
        let out = ltb-false k (length lay) e in
        ap (λ l. turn_row l row) (set_out lay k (flip (get_or lay k 0)) out) ∙ set_out lay k (flip (get_or lay k 0)) out

put-twice : (x : Side) (at : Layouts) (row : ℕ) → byte (layout at x) row ≤ 3 → let once = put x (turn_row (layout at x) row) at in
    put x (turn_row (layout once x) row) once ≡ at
put-twice left at row small = ap (λ lay. put left lay at) (turn_twice at.left_bytes row small)
put-twice right at row small = ap (λ lay. put right lay at) (turn_twice at.right_bytes row small)

-- two equal entries, one after the other, leave layouts of good bytes to the entries after them as they were
pub twice-handed : (at : Layouts) (h : Hand) (hs : List Hand) → byte (layout at (side_of h.side)) h.row ≤ 3 →
    handed at (h ∷ h ∷ hs) ≡ handed at hs
unfolding handed
twice-handed at h hs small = ap (λ l. handed l hs) (put-twice (side_of h.side) at h.row small)

pub twice_as_before : (s : List ℕ) (h : Hand) → refusal s ≡ 0 → relaid s (handed (layouts_of s) (h ∷ h ∷ [])) ≡ s
twice_as_before s h a =
    ap (relaid s) (twice-handed (layouts_of s) h [] (row_small s a (side_of h.side) h.row)) ∙ none-handed s a

-- ---- a held side, and a pinned row

-- two sides are the same or not
put-side : (x y : Side) (lay : List ℕ) (at : Layouts) → (x ≡ y → ⊥) → layout (put x lay at) y ≡ layout at y
put-side left left lay at ne = absurd (ne refl)
put-side left right lay at ne = refl
put-side right left lay at ne = refl
put-side right right lay at ne = absurd (ne refl)

-- entries are tested on the record as found; none of them is bad
module _ (s : List ℕ) where
  -- a held side's bytes are as they were
  held : (hands : List Hand) (at : Layouts) (side : Side) → holds (hold_of s) side ≡ true → entries_refusal s hands ≡ 0 →
      layout (handed at hands) side ≡ layout at side
  unfolding handed entries_refusal
  held [] at side h e = refl
  held (k ∷ ks) at side h e =
      let b = none_both (hand_refusal s k) (entries_refusal s ks) e in
      let free = (hand-good s k b.0).free in
      held ks _ side h b.1
      ∙ put-side (side_of k.side) side _ at (λ q. false≢true (sym free ∙ ap (holds (hold_of s)) q ∙ h))

  -- and so is a pinned row's byte, rows being numbered from 1
  pinned : (hands : List Hand) (at : Layouts) (side : Side) (row : ℕ) → may_change (row_byte s side row) ≡ false →
      entries_refusal s hands ≡ 0 → byte (layout (handed at hands) side) row ≡ byte (layout at side) row
  unfolding handed entries_refusal
  pinned [] at side row h e = refl
  pinned (k ∷ ks) at side row h e =
      let b = none_both (hand_refusal s k) (entries_refusal s ks) e in
      let good = hand-good s k b.0 in
      pinned ks _ side row h b.1 ∙ go (side_of k.side) side good.not_pinned h
    where
      same_byte : (x : Side) → may_change (row_byte s x k.row) ≡ true → may_change (row_byte s x row) ≡ false →
          byte (turn_row (layout at x) k.row) row ≡ byte (layout at x) row
      same_byte x p q =
          get_or-set_other (layout at x) (pred k.row) (pred row) _ 0
          (λ c. true≢false (sym p ∙ ap (λ i. may_change (get_or (layout (layouts_of s) x) i 0)) (sym c) ∙ q))

      go : (x y : Side) → may_change (row_byte s x k.row) ≡ true → may_change (row_byte s y row) ≡ false →
          byte (layout (put x (turn_row (layout at x) k.row) at) y) row ≡ byte (layout at y) row
      go left left p q = same_byte left p q
      go left right p q = refl
      go right left p q = refl
      go right right p q = same_byte right p q

-- of a list that is accepted
module _ (s : List ℕ) (hands : List Hand) (a : hands_refusal s hands ≡ 0) (side : Side) where
  pub held_kept : holds (hold_of s) side ≡ true → layout (handed (layouts_of s) hands) side ≡ layout (layouts_of s) side
  held_kept h = held s hands (layouts_of s) side h (handing_accepted s hands a).2

  pub pinned-kept : (row : ℕ) → may_change (row_byte s side row) ≡ false →
      byte (layout (handed (layouts_of s) hands) side) row ≡ row_byte s side row
  pinned-kept row h = pinned s hands (layouts_of s) side row h (handing_accepted s hands a).2
