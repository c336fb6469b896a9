-- From the notes of a text that was read to what its sentence says: n, whether its leaves are 1 to n, and its rows.
use Rattle.std.specs.Prelude.{Some, None}
use Prim.Native.Nat.{ℕ, ◌+◌, ◌-◌, ◌*◌, ◌≤◌, ◌<◌}
use mathlib.Core.Path.{◌≡◌, refl, sym, ap, ap₂, ◌∙◌}
use mathlib.Core.Logic.{◌≢◌}
use mathlib.Core.Bool.{Bool, true, false, cond, ◌&&◌}
use mathlib.Core.List.Permᴰ
use mathlib.Core.List.{List, [], ◌∷◌, ◌++◌, map, Permᴰ}
use native.Mathlib.Decide.{ℕ_discrete, dec_le}
use native.Mathlib.Omega.{arith}
use borrow.Author.Tests.{eq-eqb, ne_eqb, le-leb, lt-leb}
use lib.Dec.{eqb, leb}
use lib.ListN.{length, take, replicate, get_or-replicate, length-append}
use Rattle.tanglegram.specs.Lists.{Each, range}
use Rattle.tanglegram.proofs.Lists.{each-perm, range-each, length-perm}
use Rattle.newick.specs.Sentence.{Sentence, number, group, groups, leaf_numbers, leaf_count, value}
use Rattle.newick.specs.Reading.{Read, broken, read, text_read}
use Rattle.newick.specs.Rows.{object_from, rows_from, leaf_objects, rows_of}
use Rattle.newick.specs.Noted.{noted, noted_leaves, leaves_in, fixed}
use Rattle.newick.proofs.Rows.{groups-leaves, length-rows}
use Rattle.newick.proofs.Noted.{noted_once, fixed-rows, leaves-noted}
use Rattle.work_newick_reading.specs.Notes.{closed_in, last_in, Noted}
use Rattle.work_newick_reading.specs.Reads.{ReadsWhole}
use Rattle.work_newick_reading.specs.Once.{fresh}
use Rattle.work_newick_reading.proofs.NotesView.{counted}
use Rattle.work_newick_reading.proofs.OnceLaws.{true-false}
use Rattle.work_newick_reading.proofs.Fresh.{fresh-perm}
use Rattle.record_fields.specs.Refusals.{one_to_one}
use Rattle.record_fields.proofs.Tests.{one_to_one_perm}
use Rattle.calls_newick.specs.Refusals.{is_read, said_in, keeps_grammar, said, is_numbered}

-- nothing was noted before
abbrev pub zeros : List ℕ
zeros = replicate 1025 0

-- ---- the grammar

broken_cases : (R : Read) (T : List ℕ) (r : Bool) → ReadsWhole R zeros T r → r ≡ false → is_read R ≡ false
broken_cases broken T r h e = refl
broken_cases (read s rest) T r h e = true-false (sym h.0 ∙ e)

kept_cases : (R : Read) (T : List ℕ) (r : Bool) → ReadsWhole R zeros T r → r ≡ true → (is_read R ≡ true) × Noted (said_in R) zeros T
kept_cases broken T r h e = true-false (sym e ∙ h)
kept_cases (read s rest) T r h e = (refl, h.1)

module _ (text T : List ℕ) {T₀ : List ℕ} {r : Bool} (none : T₀ ≡ zeros) (h : ReadsWhole (text_read text) T₀ T r) where
  pub grammar_broken : r ≡ false → keeps_grammar text ≡ false
  unfolding keeps_grammar
  grammar_broken e = broken_cases (text_read text) T r (rw none at h) e

  pub grammar_kept : r ≡ true → (keeps_grammar text ≡ true) × Noted (said text) zeros T
  unfolding keeps_grammar said
  grammar_kept e = kept_cases (text_read text) T r (rw none at h) e

-- a text that keeps it, and whose leaves are counted
module _ (text T : List ℕ) (n : ℕ) where
  pub record Counted : Type 0 where
    pub kept : keeps_grammar text ≡ true
    pub its-notes : Noted (said text) zeros T
    pub is-n : n ≡ cond (eqb (closed_in T) 512) 0 (closed_in T + 1)
    pub some : n ≢ 0

  pub text-counted : (keeps_grammar text ≡ true) × Noted (said text) zeros T →
      Some n ≡ cond (eqb (closed_in T) 512) None (Some (closed_in T + 1)) → Counted
  text-counted k e =
      let c = counted n (closed_in T) e in
      record {
        kept = k.0;
        its-notes = k.1;
        is-n = c.0;
        some = c.1;
      }

-- ---- as many leaves are noted as there are

length_objects : (v : List ℕ → ℕ) (s : Sentence) → length (leaf_objects v s) ≡ leaf_count s
unfolding leaf_objects leaf_numbers
length_objects v (number ds l) = refl
length_objects v (group a b l) =
    length-append (leaf_objects v a) (leaf_objects v b) ∙ ap₂ ◌+◌ (length_objects v a) (length_objects v b)
    ∙ sym (length-append (leaf_numbers a) (leaf_numbers b))

length-noted : (s : Sentence) → length (noted_leaves s) ≡ leaf_count s
unfolding noted_leaves
length-noted s = length_objects noted s

bool_same : (a b : Bool) → (a ≡ true → b ≡ true) → (b ≡ true → a ≡ true) → a ≡ b
bool_same true b f g = sym (f refl)
bool_same false true f g = true-false (sym (g refl))
bool_same false false f g = refl

-- the rows of a sentence: two entries for each group
pub length-rows-of : (s : Sentence) → length (rows_of s) ≡ 2 * (leaf_count s - 1)
unfolding rows_of
length-rows-of s = let e = length-rows value (leaf_count s) 0 s in omega (arith, groups-leaves s)

-- ---- what the notes say

module _ (s : Sentence) (T : List ℕ) (d : Noted s zeros T) (n : ℕ) (is-n : n ≡ cond (eqb (closed_in T) 512) 0 (closed_in T + 1)) where
  none-closed : closed_in zeros ≡ 0
  none-closed = get_or-replicate {A = ℕ} 1025 1022 0 0 (omega arith)

  -- more than 512 leaves
  pub too_many : n ≡ 0 → is_numbered s ≡ false
  unfolding is_numbered
  too_many z = go (ℕ_discrete (closed_in T) 512)
    where
      go : Dec (closed_in T ≡ 512) → (leb (leaf_count s) 512 && one_to_one (leaf_count s) (leaf_numbers s)) ≡ false
      go (yes e) =
          let o = none-closed in
          let many : 511 < groups s = split (dec_le (groups s) 511) in
          rw (lt-leb (leaf_count s) 512 (omega (arith, groups-leaves s))) refl
        where
          split : Dec (groups s ≤ 511) → 511 < groups s
          split (yes p) = let x = (d.few (let o = none-closed in omega arith)).all_closed in let o = none-closed in absurd (omega arith)
          split (no p) = omega arith
      go (no e) = absurd (let f = rw (ne_eqb (closed_in T) 512 e) at is-n in omega arith)

  module _ (some : n ≢ 0) where
    -- fewer: n is their number
    few_closed : closed_in T ≢ 512
    few_closed e = some (rw (eq-eqb (closed_in T) 512 e) at is-n)

    few-groups : groups s ≤ 511
    few-groups = split (dec_le (groups s) 511)
      where
        split : Dec (groups s ≤ 511) → groups s ≤ 511
        split (yes p) = p
        split (no p) = absurd (few_closed (d.many (let o = none-closed in omega arith)))

    all_closed : closed_in T ≡ groups s
    all_closed = let o = none-closed in let p = few-groups in let x = (d.few (omega arith)).all_closed in omega arith

    pub is-count : n ≡ leaf_count s
    is-count =
        let e = rw (ne_eqb (closed_in T) 512 few_closed) at is-n in
        let c = all_closed in
        omega (arith, groups-leaves s)

    pub count-range : (1 ≤ n) × (n ≤ 512)
    count-range = let p = few-groups in let c = is-count in (omega (arith, groups-leaves s), omega (arith, groups-leaves s))

    -- the rows and the last object
    noted-rows : take (2 * (n - 1)) T ≡ rows_from noted 1023 0 s
    noted-rows =
        let o = none-closed in
        let p = few-groups in
        let c = is-count in
        let m : 2 * (n - 1) ≡ 2 * (closed_in zeros + groups s) = omega (arith, groups-leaves s) in
        let none : 2 * closed_in zeros ≡ 0 = omega arith in
        ap (λ k. take k T) m ∙ (d.few (omega arith)).its_rows
        ∙ ap₂ (λ k j. take k zeros ++ rows_from noted 1023 j s) none o

    noted-object : last_in T ≡ object_from noted 1023 0 s
    noted-object =
        let o = none-closed in
        let p = few-groups in
        (d.few (omega arith)).its_object ∙ ap (λ k. object_from noted 1023 k s) o

    noted-all : Permᴰ (leaves_in (take (2 * (n - 1)) T ++ (last_in T ∷ []))) (noted_leaves s)
    noted-all = rw (noted-rows, noted-object) (leaves-noted 0 s)

    pub once_said : fresh n [] (take (2 * (n - 1)) T ++ (last_in T ∷ [])) ≡ one_to_one n (leaf_numbers s)
    once_said =
        let E = take (2 * (n - 1)) T ++ (last_in T ∷ []) in
        let m = count-range.1 in
        let long : length (leaves_in E) ≡ n = length-perm noted-all ∙ length-noted s ∙ sym is-count in
        let f = fresh-perm n E m long in
        let o = one_to_one_perm n (leaf_numbers s) (sym is-count) in
        let q = noted_once s n m in
        bool_same (fresh n [] E) (one_to_one n (leaf_numbers s))
        (λ x. o.1 (q.0 (Permᴰ.trans (Permᴰ.symm noted-all) (f.0 x))))
        (λ x. f.1 (Permᴰ.trans noted-all (q.1 (o.0 x))))

    -- whether the leaves are 1 to n
    numbered_is : is_numbered s ≡ one_to_one n (leaf_numbers s)
    unfolding is_numbered
    numbered_is = rw (← is-count, le-leb n 512 count-range.1) refl

    pub unnumbered : fresh n [] (take (2 * (n - 1)) T ++ (last_in T ∷ [])) ≡ false → is_numbered s ≡ false
    unnumbered e = numbered_is ∙ sym once_said ∙ e

    module _ (e : fresh n [] (take (2 * (n - 1)) T ++ (last_in T ∷ [])) ≡ true) where
      pub numbered : is_numbered s ≡ true
      numbered = numbered_is ∙ sym once_said ∙ e

      numbers-perm : Permᴰ (leaf_numbers s) (range 1 n)
      numbers-perm = (one_to_one_perm n (leaf_numbers s) (sym is-count)).0 (sym once_said ∙ e)

      small : Each (λ a. a ≤ 512) (leaf_numbers s)
      small =
          let m = count-range.1 in
          each-perm (λ a. a ≤ 512) (Permᴰ.symm numbers-perm) (range-each (λ a. a ≤ 512) 1 n (λ i p q. omega arith))

      pub rows-said : map (fixed n) (take (2 * (n - 1)) T) ≡ rows_of s
      unfolding rows_of
      rows-said = ap (map (fixed n)) noted-rows ∙ fixed-rows n 0 s small ∙ ap (λ k. rows_from value k 0 s) is-count

    pub length-said : length (rows_of s) ≡ 2 * (n - 1)
    length-said = let c = is-count in omega (arith, length-rows-of s)
