-- The readers, case by case: what the definitions read at a place, from the byte there and from what was read before.
use Rattle.std.specs.Prelude.{Option, Some, None, unwrap_or}
use Prim.Native.Nat.{ℕ, zero, suc, ◌+◌, ◌≤◌, ◌<◌}
use mathlib.Core.Path.{◌≡◌, refl, sym, ap, ◌∙◌, subst}
use mathlib.Core.Logic.{◌≢◌}
use mathlib.Core.Bool.{true, false, ◌||◌, or-true}
use mathlib.Core.List.{List, [], ◌∷◌}
use native.Mathlib.Decide.{ℕ_discrete, dec_le}
use native.Mathlib.Omega.{arith}
use borrow.Author.Tests.{eq-eqb, ne_eqb, le-leb, lt-leb}
use lib.Dec.{eqb}
use lib.ListN.{length, get_or, set, drop}
use Rattle.newick.specs.Sentence.{Sentence, number, group, Length}
use Rattle.newick.specs.Reading.{head, is_digit, digits, past_digits, LengthRead, no_length, length_read, length_in}
use Rattle.newick.specs.Reading.{Read, broken, read, with_length, leaf_in, group_by, subtree_in}
use Rattle.work_newick_reading.specs.Text.{Ends}
use Rattle.work_newick_reading.specs.Notes.{Notes, Noted}
use Rattle.work_newick_reading.specs.Reads.{DigitsEnd, LengthEnds, Reads}
use Rattle.work_newick_reading.proofs.Text.{head_at, behind-at, text_at, byte-within}
use Rattle.work_newick_reading.proofs.DigitLaws.{digit_low, digit_high, digits_more, digits-none, leaf-noted}
use Rattle.work_newick_reading.proofs.LengthLaws.{digits_long}
use Rattle.work_newick_reading.proofs.NotesLaws.{noted-leaf}

-- ---- what a reader answers

module _ (text : List ℕ) (at : ℕ) (T T' : List ℕ) where
  -- none: nothing was read
  pub answered_none : (R : Read) → Reads R text at T T' None → R ≡ broken
  answered_none broken h = refl
  answered_none (read s rest) h = absurd h

  -- any other place: a sentence was read, up to there
  pub record Got (R : Read) (r : ℕ) : Type 0 where
    pub sentence : Sentence
    pub is_read : R ≡ read sentence (drop r text)
    pub ends : Ends text at (drop r text) r
    pub further : at < r
    pub its_notes : Noted sentence T T'

  pub answered : (R : Read) (r : ℕ) → Reads R text at T T' (Some r) → Got R r
  answered broken r h = absurd h
  answered (read s rest) r h = record {
    sentence = s;
    is_read = ap (read s) (sym h.0.left);
    ends = record { ahead = h.0.ahead; within = h.0.within; left = refl };
    further = h.1;
    its_notes = h.2;
  }

  -- from a place further on
  pub from_further : (R : Read) (r : Option ℕ) (from : ℕ) → at ≤ from → Reads R text from T T' r → Reads R text at T T' r
  from_further broken None from p h = tt
  from_further broken (Some r) from p h = h
  from_further (read s rest) None from p h = h
  from_further (read s rest) (Some r) from p h =
      let e = h.0 in
      (record { ahead = omega (arith, e.ahead); within = e.within; left = e.left }, omega (arith, h.1), h.2)

  -- with the length behind it
  pub reads_with_length : (f : Length → Sentence) (end : ℕ) (r : Option ℕ) → at < end → ((l : Length) → Noted (f l) T T') →
      (L : LengthRead) → LengthEnds L text end r → Reads (with_length f L) text at T T' r
  reads_with_length f end None p n no_length h = tt
  reads_with_length f end (Some r) p n no_length h = h
  reads_with_length f end None p n (length_read l rest) h = h
  reads_with_length f end (Some r) p n (length_read l rest) h =
      (record { ahead = omega (arith, h.ahead); within = h.within; left = h.left }, omega (arith, h.ahead), n l)

-- ---- a leaf

digits-head : (xs : List ℕ) → is_digit (head xs) ≡ false → digits xs ≡ []
unfolding digits
digits-head [] h = refl
digits-head (x ∷ xs) h = (digits-none x xs h).0

leaf-broken : (xs : List ℕ) → (eqb (length (digits xs)) 0 || eqb (head xs) 48) ≡ true → leaf_in xs ≡ broken
unfolding leaf_in
leaf-broken xs e = rw e refl

module _ (text : List ℕ) (at : ℕ) where
  no_digit-broken : is_digit (get_or text at 256) ≡ false → leaf_in (drop at text) ≡ broken
  no_digit-broken e =
      leaf-broken (drop at text) (rw (digits-head (drop at text) (ap is_digit (head_at text at) ∙ e)) refl)

  leaf_low : get_or text at 256 < 49 → leaf_in (drop at text) ≡ broken
  leaf_low h = go (ℕ_discrete (get_or text at 256) 48)
    where
      go : Dec (get_or text at 256 ≡ 48) → leaf_in (drop at text) ≡ broken
      go (yes e) =
          leaf-broken (drop at text)
          (rw (eq-eqb (head (drop at text)) 48 (head_at text at ∙ e)) (or-true (eqb (length (digits (drop at text))) 0)))
      go (no e) = no_digit-broken (sym (digit_low (get_or text at 256) (omega arith)))

  leaf_high : 57 < get_or text at 256 → leaf_in (drop at text) ≡ broken
  leaf_high h = no_digit-broken (sym (digit_high (get_or text at 256) (omega arith)) ∙ lt-leb (get_or text at 256) 57 h)

  -- no byte, or one that is no digit from 1 to 9
  pub leaf-other : ((49 ≤ get_or text at 256) → (get_or text at 256 ≤ 57) → ⊥) → leaf_in (drop at text) ≡ broken
  leaf-other n = go (dec_le 49 (get_or text at 256)) (dec_le (get_or text at 256) 57)
    where
      go : Dec (49 ≤ get_or text at 256) → Dec (get_or text at 256 ≤ 57) → leaf_in (drop at text) ≡ broken
      go (yes p) (yes q) = absurd (n p q)
      go (yes p) (no q) = leaf_high (omega arith)
      go (no p) q = leaf_low (omega arith)

  module _ (low : 49 ≤ get_or text at 256) (high : get_or text at 256 ≤ 57) where
    within : at < length text
    within = byte-within text at (λ z. absurd (omega arith))

    first-digit : (digits (drop at text) ≡ get_or text at 0 ∷ digits (drop (at + 1) text)) ×
        (past_digits (drop at text) ≡ past_digits (drop (at + 1) text))
    first-digit =
        let there = text_at text at within in
        let same = sym (ap (λ xs. get_or xs 0 256) there) ∙ head_at text at in
        let is : is_digit (get_or text at 0) ≡ true =
        ap is_digit same ∙ sym (digit_high (get_or text at 256) (omega arith)) ∙ le-leb (get_or text at 256) 57 high in
        let more = digits_more (get_or text at 0) (drop (at + 1) text) is in
        (ap digits there ∙ more.0, ap past_digits there ∙ more.1)

    leaf-good : leaf_in (drop at text) ≡ with_length (number (digits (drop at text))) (length_in (past_digits (drop at text)))
    unfolding leaf_in
    leaf-good =
        let some : length (digits (drop at text)) ≢ 0 = λ z. absurd (omega (arith, ap length first-digit.0)) in
        let other : head (drop at text) ≢ 48 = λ z. absurd (omega (arith, head_at text at)) in
        rw (ne_eqb (length (digits (drop at text))) 0 some, ne_eqb (head (drop at text)) 48 other) refl

    pub digits_further : (end : ℕ) (leaf : Option ℕ) → DigitsEnd text at end leaf → at < end
    digits_further end leaf d = omega (arith, digits_long text at end leaf d, ap length first-digit.0)

    pub leaf-read : (T : List ℕ) → Notes T → (end : ℕ) (leaf r : Option ℕ) → DigitsEnd text at end leaf →
        LengthEnds (length_in (drop end text)) text end r → Reads (leaf_in (drop at text)) text at T (set T 1023 (unwrap_or leaf 0)) r
    leaf-read T g end leaf r d h =
        let ds = digits (drop at text) in
        let T' = set T 1023 (unwrap_or leaf 0) in
        let ahead = digits_further end leaf d in
        subst (λ R. Reads R text at T T' r)
        (sym (leaf-good ∙ ap (λ xs. with_length (number ds) (length_in xs)) (sym d.ends.left)))
        (reads_with_length text at T T' (number ds) end r ahead
        (λ l. noted-leaf ds l T (unwrap_or leaf 0) g (leaf-noted ds leaf d.says)) (length_in (drop end text)) h)

-- ---- a group whose parenthesis was read

module _ (sub : List ℕ → Read) (text : List ℕ) (at : ℕ) where
  pub group_no_first : sub (drop at text) ≡ broken → group_by sub (drop at text) ≡ broken
  unfolding group_by
  group_no_first e = rw e refl

  module _ (a : Sentence) (comma : ℕ) (first : sub (drop at text) ≡ read a (drop comma text)) where
    pub group_no_comma : get_or text comma 256 ≢ 44 → group_by sub (drop at text) ≡ broken
    unfolding group_by
    group_no_comma h = rw (first, ne_eqb (head (drop comma text)) 44 (λ z. h (sym (head_at text comma) ∙ z))) refl

    module _ (there : get_or text comma 256 ≡ 44) where
      is-comma : eqb (head (drop comma text)) 44 ≡ true
      is-comma = eq-eqb (head (drop comma text)) 44 (head_at text comma ∙ there)

      pub group_no_second : sub (drop (comma + 1) text) ≡ broken → group_by sub (drop at text) ≡ broken
      unfolding group_by
      group_no_second e = rw (first, is-comma, behind-at text comma, e) refl

      module _ (b : Sentence) (end : ℕ) (second : sub (drop (comma + 1) text) ≡ read b (drop end text)) where
        pub group_no_end : get_or text end 256 ≢ 41 → group_by sub (drop at text) ≡ broken
        unfolding group_by
        group_no_end h =
            rw (first, is-comma, behind-at text comma, second, ne_eqb (head (drop end text)) 41 (λ z. h (sym (head_at text end) ∙ z))) refl

        pub group-whole : get_or text end 256 ≡ 41 → group_by sub (drop at text) ≡ with_length (group a b) (length_in (drop (end + 1) text))
        unfolding group_by
        group-whole h =
            let closes = eq-eqb (head (drop end text)) 41 (head_at text end ∙ h) in
            rw (first, is-comma, behind-at text comma, second, closes, behind-at text end) refl

-- ---- a subtree, where d groups more may be opened

module _ (text : List ℕ) (at : ℕ) where
  pub subtree_leaf : (d : ℕ) → get_or text at 256 ≢ 40 → subtree_in d (drop at text) ≡ leaf_in (drop at text)
  unfolding subtree_in
  subtree_leaf zero h = rw (ne_eqb (head (drop at text)) 40 (λ z. h (sym (head_at text at) ∙ z))) refl
  subtree_leaf (suc d) h = rw (ne_eqb (head (drop at text)) 40 (λ z. h (sym (head_at text at) ∙ z))) refl

  module _ (there : get_or text at 256 ≡ 40) where
    pub subtree_full : (d : ℕ) → d ≡ 0 → subtree_in d (drop at text) ≡ broken
    unfolding subtree_in
    subtree_full zero h = rw (eq-eqb (head (drop at text)) 40 (head_at text at ∙ there)) refl
    subtree_full (suc d) h = absurd (omega arith)

    pub subtree_group : (d e : ℕ) → d ≡ suc e → subtree_in d (drop at text) ≡ group_by (subtree_in e) (drop (at + 1) text)
    unfolding subtree_in
    subtree_group zero e h = absurd (omega arith)
    subtree_group (suc d) e h =
        let same : d ≡ e = omega arith in
        rw (eq-eqb (head (drop at text)) 40 (head_at text at ∙ there), behind-at text at, same) refl
