-- Hand lists, entry after entry: the refusal of an entry and of a list, and the record after an entry and after a list. A list's
-- entries may be lent in any form: f says which hand an entry is.
use Prim.Native.Nat.{ℕ, zero, suc, ◌+◌, ◌≤◌, ◌<◌}
use mathlib.Core.Path.{◌≡◌, refl, sym, ap, ◌∙◌}
use mathlib.Core.Logic.{◌≢◌}
use mathlib.Core.Bool.{true, false, not}
use mathlib.Core.List.{List, [], ◌∷◌, map}
use native.Mathlib.Numerals.{add-one}
use native.Mathlib.Omega.{arith}
use borrow.Author.Tests.{ne_eqb, lt-ltb, le-ltb, ltb-false}
use lib.Dec.{ltb}
use lib.ListN.{length, get_or, drop, length-map, drop_of_length-le}
use lib.Seq.{drop-cons}
use Rattle.tanglegram.specs.Order.{may_change}
use Rattle.record_fields.specs.declared.refusal.Refusal.{Refusal}
use Rattle.record_fields.specs.Fields.{most_hands, hold_of, size_of, parts}
use Rattle.record_fields.specs.Refusals.{or_else, refusal}
use Rattle.record_fields.specs.Refused.{NumberAndRow, refused, refused_row, number_of, row_of}
use Rattle.record_fields.specs.Told.{told_of, OwnRow}
use Rattle.record_fields.specs.Meaning.{layouts_of, relaid}
use Rattle.record_fields.proofs.Acceptance.{else_first, else_second, none_both}
use Rattle.record_fields.proofs.Heading.{none_first, not_no}
use Rattle.record_fields.proofs.Refused.{refuses}
use Rattle.record.specs.Calls.{Refused, Reads}
use Rattle.record.proofs.Outcomes.{read-told, read-refuses}
use Rattle.record_fields.proofs.Told.{Alone, told-alone, told_none, each_else, alone_when, alone_0, own_when, own_then}
use Rattle.record_arrays.specs.Sides.{is_side, side_of, holds}
use Rattle.record_arrays.specs.Rows.{no_row, row_byte}
use Rattle.record_arrays.proofs.OneRow.{row-there}
use Rattle.calls_hands.specs.Refusals.{Hand, hand, hand_refusal, entries_refusal, hands_refusal}
use Rattle.calls_hands.specs.Calls.{handed, Hands}

-- ---- the refusal of an entry

module _ (s : List ℕ) (side row : ℕ) where
  pub hand_13 : is_side side ≡ false → 13 ≡ hand_refusal s (hand side row)
  unfolding hand_refusal
  hand_13 h = rw h refl

  module _ (good : is_side side ≡ true) where
    pub hand_15 : no_row (size_of s) row ≡ true → 15 ≡ hand_refusal s (hand side row)
    unfolding hand_refusal
    hand_15 h = rw (good, h) refl

    module _ (is_row : no_row (size_of s) row ≡ false) where
      pub hand_11 : holds (hold_of s) (side_of side) ≡ true → 11 ≡ hand_refusal s (hand side row)
      unfolding hand_refusal
      hand_11 h = rw (good, is_row, h) refl

      module _ (free : holds (hold_of s) (side_of side) ≡ false) where
        pub hand_22 : may_change (row_byte s (side_of side) row) ≡ false → 22 ≡ hand_refusal s (hand side row)
        unfolding hand_refusal
        hand_22 h = rw (good, is_row, free, h) refl

        pub hand_0 : may_change (row_byte s (side_of side) row) ≡ true → 0 ≡ hand_refusal s (hand side row)
        unfolding hand_refusal
        hand_0 h = rw (good, is_row, free, h) refl

-- a good entry
pub record GoodHand (s : List ℕ) (h : Hand) : Type 0 where
  pub on-side : is_side h.side ≡ true
  pub some : 1 ≤ h.row
  pub below : h.row < size_of s
  pub free : holds (hold_of s) (side_of h.side) ≡ false
  pub not_pinned : may_change (row_byte s (side_of h.side) h.row) ≡ true

pub hand-good : (s : List ℕ) (h : Hand) → hand_refusal s h ≡ 0 → GoodHand s h
unfolding hand_refusal
hand-good s h e =
    let t = none_first (not (is_side h.side)) 13 _ (omega arith) e in
    let u = none_first (no_row (size_of s) h.row) 15 _ (omega arith) t.1 in
    let v = none_first (holds (hold_of s) (side_of h.side)) 11 _ (omega arith) u.1 in
    let w = none_first (not (may_change (row_byte s (side_of h.side) h.row))) 22 0 (omega arith) v.1 in
    let r = row-there (size_of s) h.row u.0 in
    record { on-side = not_no _ t.0; some = r.0; below = r.1; free = v.0; not_pinned = not_no _ w.0 }

-- ---- the refusal of a list

pub nothing-after : (k : ℕ) → or_else k 0 ≡ k
nothing-after zero = refl
nothing-after (suc k) = refl

module _ {A : Type 0} (f : A → Hand) (list : List A) where
  -- what is left from an entry on is that entry, and what is left after it
  pub rest_cons : (i : ℕ) {x : A} → i < length list → x ≡ get_or list i x → map f (drop i list) ≡ f x ∷ map f (drop (i + 1) list)
  rest_cons i {x} h e =
      let cut : drop i list ≡ get_or list i x ∷ drop (i + 1) list = rw add-one (drop-cons list i x h) in
      ap (map f) cut ∙ ap (λ y. f y ∷ map f (drop (i + 1) list)) (sym e)

  pub rest_none : (i : ℕ) → length list ≤ i → map f (drop i list) ≡ []
  rest_none i h = ap (map f) (drop_of_length-le list h)

  -- no entry before entry i is bad: the refusal of what is left from there on is the list's
  module _ (s : List ℕ) where
    abbrev pub NoneBefore : ℕ → Type 0
    NoneBefore i = entries_refusal s (map f (drop i list)) ≡ entries_refusal s (map f list)

    module _ (i : ℕ) {x : A} (before : NoneBefore i) (h : i < length list) (e : x ≡ get_or list i x) where
      here : or_else (hand_refusal s (f x)) (entries_refusal s (map f (drop (i + 1) list))) ≡ entries_refusal s (map f list)
      unfolding entries_refusal
      here = sym (ap (entries_refusal s) (rest_cons i h e)) ∙ before

      pub none_more : 0 ≡ hand_refusal s (f x) → NoneBefore (i + 1)
      none_more z = sym (else_second (hand_refusal s (f x)) _ (sym z)) ∙ here

      pub first_bad : hand_refusal s (f x) ≢ 0 → hand_refusal s (f x) ≡ entries_refusal s (map f list)
      first_bad z = sym (else_first (hand_refusal s (f x)) _ z) ∙ here

    pub none_bad : (i : ℕ) → NoneBefore i → length list ≤ i → 0 ≡ entries_refusal s (map f list)
    unfolding entries_refusal
    none_bad i before h = sym (ap (entries_refusal s) (rest_none i h)) ∙ before

-- no row is told with an entry's refusal, nor with that of the entries
hand-alone : (s : List ℕ) (h : Hand) → Alone (hand_refusal s h)
unfolding hand_refusal
hand-alone s h =
    alone_when (not (is_side h.side)) 13 refl (alone_when (no_row (size_of s) h.row) 15 refl
    (alone_when (holds (hold_of s) (side_of h.side)) 11 refl
    (alone_when (not (may_change (row_byte s (side_of h.side) h.row))) 22 refl alone_0)))

entries-alone : (s : List ℕ) (hands : List Hand) → Alone (entries_refusal s hands)
unfolding entries_refusal
entries-alone s [] = alone_0
entries-alone s (h ∷ hands) = each_else Alone (hand_refusal s h) (hand-alone s h) (entries-alone s hands)

-- ---- from what a call found to its statement

-- numbers that are told alone
pub same-number : {k j : ℕ} → refused k ≡ refused j → k ≡ j
same-number e = ap (λ (a : NumberAndRow). a.number) e

-- where a list is accepted
pub handing_accepted : (s : List ℕ) (hands : List Hand) → hands_refusal s hands ≡ 0 →
    (length hands ≤ most_hands) × (refusal s ≡ 0) × (entries_refusal s hands ≡ 0)
unfolding hands_refusal
handing_accepted s hands e =
    let t = none_first (ltb most_hands (length hands)) 17 _ (omega arith) e in
    let u = none_both (refusal s) (entries_refusal s hands) t.1 in
    (ltb-false most_hands (length hands) t.0, u.0, u.1)

module _ (s : List ℕ) (hands : List Hand) where
  -- a row that is told is the record's
  pub hands-own : {k : ℕ} → k ≡ hands_refusal s hands → OwnRow s k
  unfolding hands_refusal
  hands-own e = rw e (own_when s (ltb most_hands (length hands)) 17 refl (own_then s (entries-alone s hands)))

-- the number of entries is tested, then the record, then the entries
module _ (s : List ℕ) {A : Type 0} (f : A → Hand) (list : List A) where
  hands-refused : {k : ℕ} {answer : NumberAndRow} → k ≡ hands_refusal s (map f list) → k ≢ 0 → answer ≡ told_of s k →
      Hands s (map f list) answer s
  hands-refused {k} e h r = record { answers = r ∙ ap (told_of s) e; afterwards = rw (← e, ne_eqb k 0 h) refl }

  pub hands-many : most_hands < length list → Hands s (map f list) (refused 17) s
  unfolding hands_refusal
  hands-many h =
      hands-refused (rw (length-map list f, lt-ltb most_hands (length list) h) refl) (λ z. omega (arith, z))
      (told-alone (parts s) (record { alone = refl }))

  module _ (few : length list ≤ most_hands) where
    few_refusal : or_else (refusal s) (entries_refusal s (map f list)) ≡ hands_refusal s (map f list)
    unfolding hands_refusal
    few_refusal = rw (length-map list f, le-ltb most_hands (length list) few) refl

    pub hands-no_record : (r : Refusal) → Reads s (Refused (refused_row (number_of r) (row_of r))) →
        Hands s (map f list) (refused_row (number_of r) (row_of r)) s
    hands-no_record r found =
        let h = read-refuses s r found in
        hands-refused (sym (else_first (refusal s) _ h) ∙ few_refusal) h (read-told s r found)

    module _ (a : refusal s ≡ 0) where
      entries_decide : entries_refusal s (map f list) ≡ hands_refusal s (map f list)
      entries_decide = sym (else_second (refusal s) _ a) ∙ few_refusal

      pub hands-bad : (r : Refusal) → refused_row (number_of r) (row_of r) ≡ refused (entries_refusal s (map f list)) →
          Hands s (map f list) (refused_row (number_of r) (row_of r)) s
      hands-bad r e = hands-refused entries_decide (refuses r e) (e ∙ told-alone (parts s) (entries-alone s (map f list)))

      pub hands-turned : {s' : List ℕ} → refused 0 ≡ refused (entries_refusal s (map f list)) →
          s' ≡ relaid s (handed (layouts_of s) (map f list)) → Hands s (map f list) (refused 0) s'
      hands-turned e made =
          let z : hands_refusal s (map f list) ≡ 0 = sym entries_decide ∙ sym (same-number e) in
          record { answers = told_none (parts s) z; afterwards = rw z made }
