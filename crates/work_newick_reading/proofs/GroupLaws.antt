-- A group whose parenthesis was read, step by step: the notes T before it, T₁ after its first sentence and T₂ after its second, and the
-- places where these end.
use Rattle.std.specs.Prelude.{Option, Some, None}
use Prim.Native.Nat.{ℕ, ◌+◌, ◌-◌, ◌<◌}
use mathlib.Core.Path.{◌≡◌, refl, sym, ap, ◌∙◌, subst}
use mathlib.Core.Logic.{◌≢◌}
use mathlib.Core.List.{List}
use native.Mathlib.Omega.{arith}
use lib.ListN.{get_or, drop}
use Rattle.newick.specs.Sentence.{group, Length}
use Rattle.newick.specs.Reading.{Read, broken, length_in, group_by, subtree_in}
use Rattle.work_newick_reading.specs.Text.{Place}
use Rattle.work_newick_reading.specs.Notes.{last_in, open_in, Notes, opened, closed, Noted}
use Rattle.work_newick_reading.specs.Reads.{LengthEnds, Reads}
use Rattle.work_newick_reading.proofs.Text.{place-behind}
use Rattle.work_newick_reading.proofs.NotesLaws.{opened_open, noted-group}
use Rattle.work_newick_reading.proofs.ReaderLaws.{answered_none, Got, answered, reads_with_length}
use Rattle.work_newick_reading.proofs.ReaderLaws.{group_no_first, group_no_comma, group_no_second, group_no_end, group-whole}

-- where a group begins, behind its parenthesis
pub record Begun (text : List ℕ) (at : ℕ) (T : List ℕ) : Type 0 where
  pub place : Place text at
  pub notes : Notes T
  pub few : open_in T < 511

-- what reads its sentences, and what reads it
abbrev sub : List ℕ → List ℕ → Read
sub T = subtree_in (510 - open_in T)

abbrev pub GroupReads : List ℕ → ℕ → List ℕ → List ℕ → Option ℕ → Type 0
GroupReads text at T T' r = Reads (group_by (sub T) (drop at text)) text at T T' r

-- its first sentence was read; its second was
pub record FirstIn (text : List ℕ) (at : ℕ) (T T₁ : List ℕ) (comma : ℕ) : Type 0 where
  pub begun : Begun text at T
  pub got : Got text at (opened T) T₁ (sub T (drop at text)) comma

pub record SecondIn (text : List ℕ) (at : ℕ) (T T₁ : List ℕ) (comma : ℕ) (T₂ : List ℕ) (end : ℕ) : Type 0 where
  pub first : FirstIn text at T T₁ comma
  pub is-comma : get_or text comma 256 ≡ 44
  pub got : Got text (comma + 1) T₁ T₂ (sub T (drop (comma + 1) text)) end

none_read : (text : List ℕ) (at : ℕ) (T T' : List ℕ) → group_by (sub T) (drop at text) ≡ broken → GroupReads text at T T' None
none_read text at T T' e = rw e tt

-- ---- the first sentence

module _ {text : List ℕ} {at : ℕ} {T : List ℕ} (b : Begun text at T) where
  -- as many groups may be opened in either sentence
  inside : (T' : List ℕ) (from : ℕ) → open_in T' ≡ open_in (opened T) →
      subtree_in (511 - open_in T') (drop from text) ≡ sub T (drop from text)
  inside T' from e =
      let o = e ∙ opened_open T b.notes b.few in
      let h = b.few in
      let f : 511 - open_in T' ≡ 510 - open_in T = omega arith in
      ap (λ d. subtree_in d (drop from text)) f

  module _ (T₀ T₁ : List ℕ) (is-opened : T₀ ≡ opened T) where
    first_reads : (r : Option ℕ) → Reads (subtree_in (511 - open_in T₀) (drop at text)) text at T₀ T₁ r →
        Reads (sub T (drop at text)) text at (opened T) T₁ r
    first_reads r first =
        subst (λ R. Reads R text at (opened T) T₁ r) (inside (opened T) at refl)
        (subst (λ X. Reads (subtree_in (511 - open_in X) (drop at text)) text at X T₁ r) is-opened first)

    pub first-broken : Reads (subtree_in (511 - open_in T₀) (drop at text)) text at T₀ T₁ None → (T' : List ℕ) →
        GroupReads text at T T' None
    first-broken first T' =
        none_read text at T T'
        (group_no_first (sub T) text at (answered_none text at (opened T) T₁ (sub T (drop at text)) (first_reads None first)))

    pub first_in : (comma : ℕ) → Reads (subtree_in (511 - open_in T₀) (drop at text)) text at T₀ T₁ (Some comma) →
        FirstIn text at T T₁ comma
    first_in comma first =
        record { begun = b; got = answered text at (opened T) T₁ (sub T (drop at text)) comma (first_reads (Some comma) first) }

-- ---- the comma and the second sentence

module _ {text : List ℕ} {at : ℕ} {T T₁ : List ℕ} {comma : ℕ} (f : FirstIn text at T T₁ comma) where
  pub no_comma : get_or text comma 256 ≢ 44 → (T' : List ℕ) → GroupReads text at T T' None
  no_comma n T' = none_read text at T T' (group_no_comma (sub T) text at f.got.sentence comma f.got.is_read n)

  pub comma-place : Place text comma
  comma-place = record { within = f.got.ends.within; in_memory = f.begun.place.in_memory }

  module _ (is-comma : get_or text comma 256 ≡ 44) where
    pub second_place : Place text (comma + 1)
    second_place = place-behind text comma 44 comma-place is-comma (omega arith)

    module _ (T₂ : List ℕ) where
      second_reads : (r : Option ℕ) → Reads (subtree_in (511 - open_in T₁) (drop (comma + 1) text)) text (comma + 1) T₁ T₂ r →
          Reads (sub T (drop (comma + 1) text)) text (comma + 1) T₁ T₂ r
      second_reads r second =
          subst (λ R. Reads R text (comma + 1) T₁ T₂ r) (inside f.begun T₁ (comma + 1) f.got.its_notes.as_many_open) second

      pub second_broken : Reads (subtree_in (511 - open_in T₁) (drop (comma + 1) text)) text (comma + 1) T₁ T₂ None → (T' : List ℕ) →
          GroupReads text at T T' None
      second_broken second T' =
          none_read text at T T'
          (group_no_second (sub T) text at f.got.sentence comma f.got.is_read is-comma
          (answered_none text (comma + 1) T₁ T₂ (sub T (drop (comma + 1) text)) (second_reads None second)))

      pub second_in : (end : ℕ) → Reads (subtree_in (511 - open_in T₁) (drop (comma + 1) text)) text (comma + 1) T₁ T₂ (Some end) →
          SecondIn text at T T₁ comma T₂ end
      second_in end second = record {
        first = f;
        is-comma = is-comma;
        got = answered text (comma + 1) T₁ T₂ (sub T (drop (comma + 1) text)) end (second_reads (Some end) second);
      }

-- ---- its end

module _ {text : List ℕ} {at : ℕ} {T T₁ : List ℕ} {comma : ℕ} {T₂ : List ℕ} {end : ℕ} (s : SecondIn text at T T₁ comma T₂ end) where
  pub no_end : get_or text end 256 ≢ 41 → (T' : List ℕ) → GroupReads text at T T' None
  no_end n T' =
      let f = s.first.got in
      none_read text at T T'
      (group_no_end (sub T) text at f.sentence comma f.is_read s.is-comma s.got.sentence end s.got.is_read n)

  module _ (is-end : get_or text end 256 ≡ 41) where
    pub group_reads : (T₃ : List ℕ) (r : Option ℕ) → T₃ ≡ closed (last_in T₁) T₂ →
        LengthEnds (length_in (drop (end + 1) text)) text (end + 1) r → GroupReads text at T T₃ r
    group_reads T₃ r e length =
        let b = s.first.begun in
        let f = s.first.got in
        let x = f.sentence in
        let y = s.got.sentence in
        let p = f.further in
        let q = s.got.further in
        let noted : (l : Length) → Noted (group x y l) T T₃ =
        λ l. subst (Noted (group x y l) T) (sym e)
        (noted-group x y l T b.notes b.few T₁ T₂ f.its_notes s.got.its_notes) in
        subst (λ R. Reads R text at T T₃ r)
        (sym (group-whole (sub T) text at x comma f.is_read s.is-comma y end s.got.is_read is-end))
        (reads_with_length text at T T₃ (group x y) (end + 1) r (omega arith) noted (length_in (drop (end + 1) text)) length)
