-- What the calls on merge tables keep: reading and its refusals, writing, and there and back.
use Prim.Native.Nat.{ℕ, ◌-◌, ◌*◌, ◌≤◌, ◌<◌}
use mathlib.Core.Path.{◌≡◌, refl, sym, ap, subst, ◌∙◌}
use mathlib.Core.Logic.{◌↔◌, ◌⊎◌, inl, inr}
use mathlib.Core.Bool.{Bool, true, false, not, true≢false, ◌||◌}
use mathlib.Core.List.{List, ◌++◌}
use native.Mathlib.Decide.{ℕ_discrete, dec_lt}
use native.Mathlib.Omega.{arith}
use borrow.Author.Tests.{eq-eqb, ne_eqb, lt-ltb, ltb-true, eqb-true}
use lib.Dec.{eqb, ltb}
use lib.IntN.{ℤ, pos}
use lib.ListN.{length, get_or, take, drop}
use lib.Seq.{take_at, drop_at, get_or-take}
use Rattle.tanglegram.proofs.Bools.{must_pass, must_fail}
use Rattle.work_trees.specs.Rows.{upper, lower}
use Rattle.merge.specs.Entries.{Names, named_by}
use Rattle.merge.specs.Tables.{rows_in, table_for, some_none, twice, Pairs, EntryNone, EntryTwice}
use Rattle.merge.proofs.Tables.{length-rows, row_entry, place-named, none_where, named-nowhere, table_back, rows_back}
use Rattle.merge.proofs.Twice.{twice_where, twice-apart}
use Rattle.merge.proofs.TreeRule.{tests_rule, rule-named, rule_once, written-pairs, written-named}
use Rattle.record_fields.specs.Fields.{size_of, length_of, Parts, parts, packed}
use Rattle.record_fields.specs.Meaning.{rows_on}
use Rattle.record_fields.specs.Refusals.{◌when◌else◌, or_else, is_hold, no_size, breaks_rule, one_to_one, is_layout, contents_refusal, refusal}
use Rattle.record_fields.proofs.Acceptance.{accepted-sized}
use Rattle.record_fields.proofs.Heading.{sized, unsized}
use Rattle.record_fields.specs.Refused.{NumberAndRow, refused}
use Rattle.record_fields.specs.Told.{told_in}
use Rattle.record_fields.proofs.Told.{Alone, told-alone, alone_when, alone_0}
use Rattle.record_fields.proofs.Refused.{lent-accepted}
use Rattle.record_arrays.specs.Sides.{is_side, side_of}
use Rattle.calls_merge.specs.Refusals.{merge_read_refusal, written_table, merge_write_refusal}
use Rattle.calls_merge.specs.Calls.{MergeReads, MergeWrites}
use Rattle.calls_merge.proofs.TableRead.{reading_5, reading_6, pairs, reading_20, reading_21, reading_14, reading_0}
use Rattle.calls_merge.proofs.TableRead.{GoodTable, reading-good}
use Rattle.record_packing.specs.Refusals.{shape_refusal, pack_refusal}
use Rattle.record_packing.specs.Calls.{Packs}
use Rattle.record_packing.proofs.Packed.{shape_good, packing_good, length-packed}
use Rattle.record_packing.proofs.RoundTrip.{size-packed, parts-packed, packed-accepted}
use Rattle.promises.proofs.RoundTrip.{left-packed}
use Rattle.calls_merge.proofs.SideWritten.{merging_0, merging_good, length-given, given-rule, length-written}
use Rattle.work_tree_rule.proofs.Rule.{bad_row-none}
use Rattle.promises.specs.Merge.{Tells, tells_5, tells_6, tells_20, tells_21, tells_14, tells_0}
use Rattle.promises.specs.Merge.{KeepsRule, TableReading, TableWriting, pack_refusal_but_rows, Merge}

-- ---- when each number is told

module _ (n : ℕ) (table : List ℤ) (out : List ℕ) where
  found_none : EntryNone n table → some_none n table ≡ true
  found_none e = must_pass (some_none n table) (λ h. named-nowhere n table h e)

  none_found : (EntryNone n table → ⊥) → some_none n table ≡ false
  none_found nowhere = must_fail (some_none n table) (λ h. nowhere (none_where n table h))

  found_twice : EntryTwice table → twice table ≡ true
  found_twice e = must_pass (twice table) (λ h. twice-apart table h e.place e.later e.apart.0 e.apart.1 e.alike)

  twice_found : (EntryTwice table → ⊥) → twice table ≡ false
  twice_found nowhere = must_fail (twice table) (λ h. nowhere (twice_where table h))

  size_refused : (n ≡ 0) ⊎ (512 < n) → no_size n ≡ true
  unfolding no_size
  size_refused (inl e) = rw (eq-eqb n 0 e) refl
  size_refused (inr h) = rw (ne_eqb n 0 (omega arith), lt-ltb 512 n h) refl

  size-of : Pairs n table → no_size n ≡ false
  size-of p = unsized n p.some p.most

  pub told-number : {k : ℕ} → Tells n table out k → k ≡ merge_read_refusal n table out
  told-number (tells_5 h) = reading_5 n table out (size_refused h)
  told-number (tells_6 s h) = reading_6 n table out (unsized n s.0 s.1) h
  told-number (tells_20 p e) = reading_20 n table out (size-of p) p.long (found_none e)
  told-number (tells_21 p o e) = reading_21 n table out (size-of p) p.long (none_found o) (found_twice e)
  told-number (tells_14 p o t l) = reading_14 n table out (size-of p) p.long (none_found o) (twice_found t) l
  told-number (tells_0 p o t l) = reading_0 n table out (size-of p) p.long (none_found o) (twice_found t) l

  too_few_or_many : no_size n ≡ true → (n ≡ 0) ⊎ (512 < n)
  unfolding no_size
  too_few_or_many h = go (eqb n 0) refl h
    where
      go : (b : Bool) → eqb n 0 ≡ b → (b || ltb 512 n) ≡ true → (n ≡ 0) ⊎ (512 < n)
      go true e t = inl (eqb-true n 0 e)
      go false e t = inr (ltb-true 512 n t)

  number-told : Tells n table out (merge_read_refusal n table out)
  number-told = by_size (no_size n) refl
    where
      at : {k : ℕ} → Tells n table out k → Tells n table out (merge_read_refusal n table out)
      at t = subst (Tells n table out) (told-number t) t

      by-room : Pairs n table → (EntryNone n table → ⊥) → (EntryTwice table → ⊥) → Dec (length out < 2 * (n - 1)) →
          Tells n table out (merge_read_refusal n table out)
      by-room p o t (yes l) = at (tells_14 p o t l)
      by-room p o t (no l) = at (tells_0 p o t (omega arith))

      by-twice : Pairs n table → (EntryNone n table → ⊥) → (b : Bool) → twice table ≡ b → Tells n table out (merge_read_refusal n table out)
      by-twice p o true e = at (tells_21 p o (twice_where table e))
      by-twice p o false e =
          by-room p o (λ t. true≢false (sym (found_twice t) ∙ e)) (dec_lt (length out) (2 * (n - 1)))

      by_entry : Pairs n table → (b : Bool) → some_none n table ≡ b → Tells n table out (merge_read_refusal n table out)
      by_entry p true e = at (tells_20 p (none_where n table e))
      by_entry p false e = by-twice p (λ x. true≢false (sym (found_none x) ∙ e)) (twice table) refl

      by_length : no_size n ≡ false → Dec (length table ≡ 2 * (n - 1)) → Tells n table out (merge_read_refusal n table out)
      by_length s (yes e) = by_entry (pairs n table out s e) (some_none n table) refl
      by_length s (no e) = at (tells_6 (sized n s) e)

      by_size : (b : Bool) → no_size n ≡ b → Tells n table out (merge_read_refusal n table out)
      by_size true e = at (tells_5 (too_few_or_many e))
      by_size false e = by_length e (ℕ_discrete (length table) (2 * (n - 1)))

-- ---- reading

module _ (n : ℕ) (table : List ℤ) (out : List ℕ) (answer : NumberAndRow) (out' : List ℕ) (o : MergeReads n table out answer out') where
  number_is : answer.number ≡ merge_read_refusal n table out
  number_is = ap (λ a. a.number) o.answers

  exactly : (k : ℕ) → (answer.number ≡ k) ↔ Tells n table out k
  exactly k = (
    λ e. subst (Tells n table out) (sym number_is ∙ e) (number-told n table out),
    λ t. number_is ∙ sym (told-number n table out t),
  )

  module _ (accepted : answer.number ≡ 0) where
    no_refusal : merge_read_refusal n table out ≡ 0
    no_refusal = sym number_is ∙ accepted

    pub good : GoodTable n table out
    good = reading-good n table out no_refusal

    buffer-is : out' ≡ rows_in n table ++ drop (length (rows_in n table)) out
    buffer-is = o.afterwards ∙ sym (lent-accepted (merge_read_refusal n table out) (rows_in n table) out no_refusal)

    rows_long : length (rows_in n table) ≡ 2 * (n - 1)
    rows_long = length-rows n table ∙ good.its-pairs.long

    pub rows_are : take (2 * (n - 1)) out' ≡ rows_in n table
    rows_are = ap (take (2 * (n - 1))) buffer-is ∙ take_at (rows_in n table) (drop (length (rows_in n table)) out) (2 * (n - 1)) rows_long

    rest_is : drop (2 * (n - 1)) out' ≡ drop (2 * (n - 1)) out
    rest_is =
        ap (drop (2 * (n - 1))) buffer-is ∙ drop_at (rows_in n table) (drop (length (rows_in n table)) out) (2 * (n - 1)) rows_long
        ∙ ap (λ m. drop m out) rows_long

    entry_named : (k : ℕ) → k < 2 * (n - 1) → Names n (get_or table k (pos 0)) (get_or out' k 0)
    entry_named k h =
        let here : get_or out' k 0 ≡ named_by n (get_or table k (pos 0)) =
        sym (get_or-take (2 * (n - 1)) out' k 0 h) ∙ ap (λ r. get_or r k 0) rows_are ∙ row_entry n table k in
        rw here (place-named n table good.named k h)

  -- the tests are the tree rule
  module _ (p : Pairs n table) where
    kept : (EntryNone n table → ⊥) → (EntryTwice table → ⊥) → KeepsRule n (rows_in n table)
    kept f g = tests_rule n table p (none_found n table out f) (twice_found n table out g)

    no_none : KeepsRule n (rows_in n table) → EntryNone n table → ⊥
    no_none rule e = true≢false (sym (found_none n table out e) ∙ rule-named n table p rule)

    no_twice : KeepsRule n (rows_in n table) → EntryTwice table → ⊥
    no_twice rule e = true≢false (sym (found_twice n table out e) ∙ rule_once n table p rule)

    broken-by : (k : ℕ) → Tells n table out k → (KeepsRule n (rows_in n table) → ⊥) → (k ≡ 20) ⊎ (k ≡ 21)
    broken-by k (tells_5 h) f = absurd (sizes h)
      where
        sizes : (n ≡ 0) ⊎ (512 < n) → ⊥
        sizes (inl e) = omega (arith, p.some)
        sizes (inr l) = omega (arith, p.most)
    broken-by k (tells_6 s h) f = absurd (h p.long)
    broken-by k (tells_20 q e) f = inl refl
    broken-by k (tells_21 q x e) f = inr refl
    broken-by k (tells_14 q x t l) f = absurd (f (kept x t))
    broken-by k (tells_0 q x t l) f = absurd (f (kept x t))

    breaks : (k : ℕ) → Tells n table out k → (k ≡ 20) ⊎ (k ≡ 21) → KeepsRule n (rows_in n table) → ⊥
    breaks k (tells_20 q e) h rule = no_none rule e
    breaks k (tells_21 q x e) h rule = no_twice rule e
    breaks k (tells_5 y) (inl e) rule = omega (arith, e)
    breaks k (tells_5 y) (inr e) rule = omega (arith, e)
    breaks k (tells_6 s y) (inl e) rule = omega (arith, e)
    breaks k (tells_6 s y) (inr e) rule = omega (arith, e)
    breaks k (tells_14 q x t l) (inl e) rule = omega (arith, e)
    breaks k (tells_14 q x t l) (inr e) rule = omega (arith, e)
    breaks k (tells_0 q x t l) (inl e) rule = omega (arith, e)
    breaks k (tells_0 q x t l) (inr e) rule = omega (arith, e)

    told : Tells n table out answer.number
    told = (exactly answer.number).0 refl

    rule_kept : (answer.number ≡ 0) ↔ (KeepsRule n (rows_in n table) × (2 * (n - 1) ≤ length out))
    rule_kept = (
      λ e. let g = good e in (tests_rule n table p g.named g.once, g.room),
      λ r. (exactly 0).1 (tells_0 p (no_none r.0) (no_twice r.0) r.1),
    )

  pub reading : TableReading n table out answer out'
  reading = record {
    exactly = exactly;
    no_row = ap (λ a. a.row) o.answers;
    rule_broken = λ p. (breaks p answer.number (told p), broken-by p answer.number (told p));
    rule_kept = rule_kept;
    named = entry_named;
    rows_read = rows_are;
    beyond = rest_is;
  }

-- ---- writing

module _ (s : List ℕ) (side : ℕ) (out : List ℤ) (answer : NumberAndRow) (out' : List ℤ) (o : MergeWrites s side out answer out')
    (accepted : answer.number ≡ 0) where
  no_write-refusal : merge_write_refusal s side out ≡ 0
  no_write-refusal = sym (ap (λ a. a.number) o.answers) ∙ accepted

  record_good : refusal s ≡ 0
  record_good = (merging_good s side out no_write-refusal).1

  size-good : (1 ≤ size_of s) × (size_of s ≤ 512)
  size-good = let z = accepted-sized s record_good in (z.some, z.most)

  written_is : out' ≡ written_table s side ++ drop (length (written_table s side)) out
  written_is = o.afterwards ∙ sym (lent-accepted (merge_write_refusal s side out) (written_table s side) out no_write-refusal)

  pub table_is : take (2 * (size_of s - 1)) out' ≡ written_table s side
  table_is =
      ap (take (2 * (size_of s - 1))) written_is
      ∙ take_at (written_table s side) (drop (length (written_table s side)) out) (2 * (size_of s - 1)) (length-written s side)

  table_rest : drop (2 * (size_of s - 1)) out' ≡ drop (2 * (size_of s - 1)) out
  table_rest =
      ap (drop (2 * (size_of s - 1))) written_is
      ∙ drop_at (written_table s side) (drop (length (written_table s side)) out) (2 * (size_of s - 1)) (length-written s side)
      ∙ ap (λ m. drop m out) (length-written s side)

  pub writing : TableWriting s side out out'
  unfolding written_table
  writing = record {
    names_rows = λ k h.
        let n = size_of s in
        let R = rows_on (parts s) (side_of side) in
        let rule = given-rule s record_good (side_of side) in
        let named = written-named n R size-good.0 size-good.1 (length-given s (side_of side)) rule in
        let here : get_or out' k (pos 0) ≡ get_or (table_for n R) k (pos 0) =
        sym (get_or-take (2 * (n - 1)) out' k (pos 0) h) ∙ ap (λ t. get_or t k (pos 0)) table_is in
        let back : named_by n (get_or (table_for n R) k (pos 0)) ≡ get_or R k 0 =
        sym (row_entry n (table_for n R) k) ∙ ap (λ r. get_or r k 0) (rows_back n R (length-given s (side_of side)) rule) in
        rw here (subst (Names n (get_or (table_for n R) k (pos 0))) back (place-named n (table_for n R) named k h));
    beyond = table_rest;
  }

  -- the table that was written, read
  pub read_back : (buffer : List ℕ) → 2 * (size_of s - 1) ≤ length buffer → (read : NumberAndRow) (after : List ℕ) →
      MergeReads (size_of s) (take (2 * (size_of s - 1)) out') buffer read after →
      (read.number ≡ 0) × (take (2 * (size_of s - 1)) after ≡ rows_on (parts s) (side_of side))
  unfolding written_table
  read_back buffer room read after r =
      let n = size_of s in
      let R = rows_on (parts s) (side_of side) in
      let rule = given-rule s record_good (side_of side) in
      let long = length-given s (side_of side) in
      let q = subst (λ t. MergeReads n t buffer read after) table_is r in
      let back = rows_back n R long rule in
      let kept : KeepsRule n (rows_in n (table_for n R)) = rw back rule in
      let none = ((reading n (table_for n R) buffer read after q
      ).rule_kept (written-pairs n R size-good.0 size-good.1 long rule)).1 (kept, room) in
      (none, rows_are n (table_for n R) buffer read after q none ∙ back)

-- ---- the rows alone decide a table

rows_alone : (s : List ℕ) (side : ℕ) (out : List ℤ) (answer : NumberAndRow) (out' : List ℤ) → MergeWrites s side out answer out' →
    answer.number ≡ 0 → (s₂ : List ℕ) (side₂ : ℕ) (out₂ : List ℤ) (answer₂ : NumberAndRow) (out₂' : List ℤ) →
    MergeWrites s₂ side₂ out₂ answer₂ out₂' → answer₂.number ≡ 0 → size_of s₂ ≡ size_of s →
    rows_on (parts s₂) (side_of side₂) ≡ rows_on (parts s) (side_of side) →
    take (2 * (size_of s - 1)) out₂' ≡ take (2 * (size_of s - 1)) out'
unfolding written_table
rows_alone s side out answer out' o a s₂ side₂ out₂ answer₂ out₂' o₂ a₂ size same_rows =
    ap (λ m. take (2 * (m - 1)) out₂') (sym size) ∙ table_is s₂ side₂ out₂ answer₂ out₂' o₂ a₂
    ∙ ap (λ m. table_for m (rows_on (parts s₂) (side_of side₂))) size ∙ ap (table_for (size_of s)) same_rows
    ∙ sym (table_is s side out answer out' o a)

-- ---- a table read, packed and written

good-side : (side : ℕ) → (side ≡ 1) ⊎ (side ≡ 2) → is_side side ≡ true
unfolding is_side
good-side side (inl e) = rw e refl
good-side side (inr e) = rw e refl

module _ (n : ℕ) (table : List ℤ) (out : List ℕ) (read : NumberAndRow) (out' : List ℕ) (o : MergeReads n table out read out')
    (accepted : read.number ≡ 0) where
  pub written_back : (P : Parts) (side : ℕ) → P.size ≡ n → rows_on P (side_of side) ≡ take (2 * (n - 1)) out' → (side ≡ 1) ⊎ (side ≡ 2) →
      (buffer : List ℕ) (into : NumberAndRow) (buffer' : List ℕ) → Packs P buffer into buffer' → into.number ≡ 0 →
      (places : List ℤ) → 2 * (n - 1) ≤ length places → (answer : NumberAndRow) (after : List ℤ) →
      MergeWrites (take (length_of n) buffer') side places answer after →
      (answer.number ≡ 0) × (take (2 * (n - 1)) after ≡ table)
  unfolding written_table
  written_back P side size same_rows a_side buffer into buffer' p none places room answer after w =
      let e : pack_refusal P buffer ≡ 0 = sym (ap (λ a. a.number) p.answers) ∙ none in
      let shaped = (shape_good P (packing_good P buffer e).0).1 in
      let there = left-packed P buffer into buffer' p e (length_of n) (length-packed P shaped ∙ ap length_of size) in
      let v = subst (λ s. MergeWrites s side places answer after) there w in
      let s = packed P in
      let its-size : size_of s ≡ n = size-packed P ∙ size in
      let fits : 2 * (size_of s - 1) ≤ length places = rw its-size room in
      let k = merging_0 s side places (good-side side a_side) (packed-accepted P buffer e) fits in
      let number = ap (λ a. a.number) v.answers ∙ sym k in
      let its_rows : rows_on (parts s) (side_of side) ≡ rows_in n table =
      ap (λ Q. rows_on Q (side_of side)) (parts-packed P buffer e) ∙ same_rows ∙ rows_are n table out read out' o accepted in
      let g = good n table out read out' o accepted in
      let written = ap (λ m. take (2 * (m - 1)) after) (sym its-size) ∙ table_is s side places answer after v number in (
        number,
        written ∙ ap (λ m. table_for m (rows_on (parts s) (side_of side))) its-size ∙ ap (table_for n) its_rows
            ∙ table_back n table g.its-pairs.long g.named,
      )

-- ---- packing rows that were read

-- two lists of tests, one after the other, are one list, and none of it comes with a row
abbrev one_list : Bool → Bool → Bool → Bool → Bool → Bool → Bool → Bool → ℕ
one_list a b c d e f g h =
    4 when a else 6 when b else 6 when c else 6 when d else 9 when e else 10 when f else 10 when g else 14 when h else 0

one_list_of : (a b c d e f g h : Bool) →
    or_else (4 when a else 6 when b else 6 when c else 6 when d else 0)
    (or_else (9 when e else 10 when f else 10 when g else 0) (14 when h else 0))
    ≡ one_list a b c d e f g h
one_list_of true b c d e f g h = refl
one_list_of false true c d e f g h = refl
one_list_of false false true d e f g h = refl
one_list_of false false false true e f g h = refl
one_list_of false false false false true f g h = refl
one_list_of false false false false false true g h = refl
one_list_of false false false false false false true h = refl
one_list_of false false false false false false false h = refl

list_alone : (a b c d e f g h : Bool) → Alone (one_list a b c d e f g h)
list_alone a b c d e f g h =
    alone_when a 4 refl (alone_when b 6 refl (alone_when c 6 refl (alone_when d 6 refl
    (alone_when e 9 refl (alone_when f 10 refl (alone_when g 10 refl (alone_when h 14 refl alone_0)))))))

module _ (P : Parts) (buffer : List ℕ) (some : 1 ≤ P.size) (most : P.size ≤ 512) (left_long : length P.left_rows ≡ 2 * (P.size - 1))
    (right_long : length P.right_rows ≡ 2 * (P.size - 1)) (left-rule : KeepsRule P.size P.left_rows)
    (right-rule : KeepsRule P.size P.right_rows) where
  unbroken : (rows : List ℕ) → KeepsRule P.size rows → breaks_rule P.size rows ≡ false
  unfolding breaks_rule
  unbroken rows rule = rw ((bad_row-none P.size (upper rows) (lower rows)).1 rule) refl

  -- what is tested of the rest
  abbrev Rest : (Bool → Bool → Bool → Bool → Bool → Bool → Bool → Bool → Type 0) → Type 0
  Rest Q =
      Q (not (is_hold P.hold)) (not (eqb (length P.links) P.size)) (not (eqb (length P.left_layout) (P.size - 1)))
      (not (eqb (length P.right_layout) (P.size - 1))) (not (one_to_one P.size P.links)) (not (is_layout P.left_layout))
      (not (is_layout P.right_layout)) (ltb (length buffer) (length_of P.size))

  rest : (Q : Bool → Bool → Bool → Bool → Bool → Bool → Bool → Bool → Type 0) → ((a b c d e f g h : Bool) → Q a b c d e f g h) → Rest Q
  rest Q all = all _ _ _ _ _ _ _ _

  but_rows : pack_refusal P buffer ≡ pack_refusal_but_rows P buffer
  unfolding pack_refusal shape_refusal contents_refusal pack_refusal_but_rows
  but_rows =
      rw (
        unsized P.size some most,
        eq-eqb (length P.left_rows) (2 * (P.size - 1)) left_long,
        eq-eqb (length P.right_rows) (2 * (P.size - 1)) right_long,
        unbroken P.left_rows left-rule,
        unbroken P.right_rows right-rule,
      ) (rest (λ a b c d e f g h. or_else (4 when a else 6 when b else 6 when c else 6 when d else 0)
      (or_else (9 when e else 10 when f else 10 when g else 0) (14 when h else 0)) ≡ one_list a b c d e f g h) one_list_of)

  no_row-told : Alone (pack_refusal_but_rows P buffer)
  unfolding pack_refusal_but_rows
  no_row-told = rest (λ a b c d e f g h. Alone (one_list a b c d e f g h)) list_alone

  pub packed_but_rows : (answer : NumberAndRow) (after : List ℕ) → Packs P buffer answer after → answer ≡ refused (pack_refusal_but_rows P buffer)
  packed_but_rows answer after p = p.answers ∙ ap (told_in P) but_rows ∙ sym (told-alone P no_row-told)

-- the rows of a table that was read, as parts have them
module _ (n : ℕ) (table : List ℤ) (out : List ℕ) (read : NumberAndRow) (out' : List ℕ) (o : MergeReads n table out read out')
    (accepted : read.number ≡ 0) (rows : List ℕ) (its_rows : rows ≡ take (2 * (n - 1)) out') where
  are_rows : rows ≡ rows_in n table
  are_rows = its_rows ∙ rows_are n table out read out' o accepted

  pub read-long : length rows ≡ 2 * (n - 1)
  read-long = ap length are_rows ∙ length-rows n table ∙ (good n table out read out' o accepted).its-pairs.long

  pub read-rule : KeepsRule n rows
  read-rule =
      let g = good n table out read out' o accepted in
      rw are_rows (tests_rule n table g.its-pairs g.named g.once)

packs : (n : ℕ) (left right : List ℤ) (out out₂ : List ℕ) (read read₂ : NumberAndRow) (out' out₂' : List ℕ) →
    MergeReads n left out read out' → read.number ≡ 0 → MergeReads n right out₂ read₂ out₂' → read₂.number ≡ 0 →
    (P : Parts) → P.size ≡ n → P.left_rows ≡ take (2 * (n - 1)) out' → P.right_rows ≡ take (2 * (n - 1)) out₂' →
    (buffer : List ℕ) (answer : NumberAndRow) (after : List ℕ) → Packs P buffer answer after → answer ≡ refused (pack_refusal_but_rows P buffer)
packs n left right out out₂ read read₂ out' out₂' l a r b P size e f buffer answer after p =
    let g = (good n left out read out' l a).its-pairs in
    packed_but_rows P buffer (omega (arith, g.some, size)) (omega (arith, g.most, size))
    (rw size (read-long n left out read out' l a P.left_rows e))
    (rw size (read-long n right out₂ read₂ out₂' r b P.right_rows f))
    (rw size (read-rule n left out read out' l a P.left_rows e))
    (rw size (read-rule n right out₂ read₂ out₂' r b P.right_rows f)) answer after p

pub merge : Merge
merge = record {
  reading = reading;
  writing = writing;
  rows_alone = rows_alone;
  rows_back = λ s side out written out' o a buffer room answer after r. read_back s side out written out' o a buffer room answer after r;
  table_back = λ n table out read out' o a P side size same_rows a_side buffer into buffer' p none places room answer after w.
      written_back n table out read out' o a P side size same_rows a_side buffer into buffer' p none places room answer after w;
  packs = packs;
}
