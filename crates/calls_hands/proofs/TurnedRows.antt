-- An accepted record in which a row is turned over by an entry is accepted again; and a hand list walked entry after entry, as a record of
-- what is left to do. The entries are tested on the record as it was found, and stay good while rows are turned over.
use Prim.Native.Nat.{ℕ, ◌≤◌, ◌<◌}
use mathlib.Core.Path.{◌≡◌, refl, sym, ap, ◌∙◌, subst}
use mathlib.Core.List.{List, [], ◌∷◌}
use native.Mathlib.Omega.{arith}
use Rattle.tanglegram.specs.Order.{flip}
use Rattle.tanglegram.proofs.Bytes.{flip-small}
use Rattle.record_fields.specs.Fields.{size_of}
use Rattle.record_fields.specs.Meaning.{layouts_of, relaid}
use Rattle.record_fields.proofs.Acceptance.{accepted-sized, none_both}
use Rattle.record_fields.proofs.Meaning.{relaid-same}
use Rattle.record_arrays.specs.Sides.{side_of, RecordOver}
use Rattle.record_arrays.specs.Rows.{row_byte}
use Rattle.record_arrays.proofs.OneRow.{put-given, put-layouts, put-again}
use Rattle.calls_hands.specs.Refusals.{Hand, hand_refusal, entries_refusal}
use Rattle.calls_hands.specs.Calls.{handed}
use Rattle.calls_hands.proofs.HandLists.{hand-good}

-- ---- one entry: its row's byte is put

module _ (s : List ℕ) (n : ℕ) (g : RecordOver s n) (h : Hand) where
  -- the record is accepted again, over as many leaves
  turned-given : RecordOver (relaid s (handed (layouts_of s) (h ∷ []))) n
  unfolding handed
  turned-given =
      let x = row_byte s (side_of h.side) h.row in
      put-given s n g (side_of h.side) h.row (flip x) (flip-small x)

  -- the other entries after it
  turned_rest : (hs : List Hand) → let after = relaid s (handed (layouts_of s) (h ∷ [])) in
      relaid after (handed (layouts_of after) hs) ≡ relaid s (handed (layouts_of s) (h ∷ hs))
  unfolding handed
  turned_rest hs =
      let x = row_byte s (side_of h.side) h.row in
      put-again s n g (side_of h.side) h.row (flip x) (flip-small x) _
      ∙ ap (λ at. relaid s (handed at hs)) (put-layouts s n g (side_of h.side) h.row (flip x) (flip-small x))

-- ---- a list, entry after entry: no entry that is left is bad, and what is left makes of the record what the whole list does

pub record HandsUnderWay (n : ℕ) (found : List ℕ) (whole rest : List Hand) (s : List ℕ) : Type 0 where
  pub found_over_n : size_of found ≡ n
  pub over_n : RecordOver s n
  pub none_bad : entries_refusal found rest ≡ 0
  pub same : relaid s (handed (layouts_of s) rest) ≡ relaid found (handed (layouts_of found) whole)

module _ (n : ℕ) (found : List ℕ) (whole : List Hand) where
  pub turning_start : RecordOver found n → entries_refusal found whole ≡ 0 → HandsUnderWay n found whole whole found
  turning_start g b = record { found_over_n = g.sized.says; over_n = g; none_bad = b; same = refl }

  module _ {rest hs : List Hand} {h : Hand} {s : List ℕ} (t : HandsUnderWay n found whole rest s) (e : rest ≡ h ∷ hs) where
    first : (hand_refusal found h ≡ 0) × (entries_refusal found hs ≡ 0)
    unfolding entries_refusal
    first = none_both (hand_refusal found h) (entries_refusal found hs) (sym (ap (entries_refusal found) e) ∙ t.none_bad)

    -- what turning the entry's row over asks
    pub turning_row : (1 ≤ h.row) × (h.row < n)
    turning_row =
        let a = hand-good found h first.0 in
        (a.some, subst (λ k. h.row < k) t.found_over_n a.below)

    pub row-small : h.row ≤ 65535
    row-small = let most = t.over_n.sized.most in let r = turning_row in omega (arith, most, r.1)

    pub turning_more : {after : List ℕ} → after ≡ relaid s (handed (layouts_of s) (h ∷ [])) → HandsUnderWay n found whole hs after
    turning_more {after} w = subst (HandsUnderWay n found whole hs) (sym w) (record {
      found_over_n = t.found_over_n;
      over_n = turned-given s n t.over_n h;
      none_bad = first.1;
      same = turned_rest s n t.over_n h hs ∙ sym (ap (λ l. relaid s (handed (layouts_of s) l)) e) ∙ t.same;
    })

  pub turning_end : {rest : List Hand} {s : List ℕ} → HandsUnderWay n found whole rest s → rest ≡ [] →
      s ≡ relaid found (handed (layouts_of found) whole)
  unfolding handed
  turning_end {rest} {s} t e =
      sym (relaid-same s (accepted-sized s t.over_n.accepted))
      ∙ sym (ap (λ l. relaid s (handed (layouts_of s) l)) e)
      ∙ t.same
