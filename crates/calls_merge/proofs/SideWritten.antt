-- Writing a side: its refusals, test by test, the rows that are written, and from what the call found to its statement.
use Prim.Native.Nat.{ℕ, ◌+◌, ◌-◌, ◌*◌, ◌≤◌, ◌<◌}
use mathlib.Core.Path.{◌≡◌, refl, sym, ap, subst, ◌∙◌}
use mathlib.Core.Logic.{◌≢◌}
use mathlib.Core.Bool.{true, false, not}
use mathlib.Core.List.{List}
use native.Mathlib.Omega.{arith}
use borrow.Author.Tests.{lt-ltb, le-ltb, ltb-false}
use lib.Dec.{ltb}
use lib.IntN.{ℤ, pos}
use lib.ListN.{length, get_or, length-map}
use lib.Seq.{sets}
use Rattle.tanglegram.specs.declared.side.Side.{Side}
use Rattle.tanglegram.specs.declared.side.Side.TheVariants.{Left as left, Right as right}
use Rattle.tanglegram.specs.Tree.{Rule}
use Rattle.work_trees.specs.Rows.{upper, lower}
use Rattle.merge.specs.Entries.{entry_for}
use Rattle.merge.specs.Tables.{table_for}
use Rattle.merge.proofs.Tables.{table_entry}
use Rattle.record_fields.specs.declared.refusal.Refusal.{Refusal}
use Rattle.record_fields.specs.Fields.{two, numbers, size_of, parts, parts_of}
use Rattle.record_fields.specs.Meaning.{rows_on}
use Rattle.record_fields.specs.Refusals.{refusal}
use Rattle.record_fields.specs.Refused.{NumberAndRow, refused, refused_row, number_of, row_of}
use Rattle.record_fields.specs.Told.{told_of, OwnRow}
use Rattle.record_fields.proofs.Acceptance.{else_first, none_both}
use Rattle.record_fields.proofs.Heading.{none_first, not_no}
use Rattle.record_fields.proofs.Meaning.{left-rule, right-rule}
use Rattle.record_fields.proofs.Refused.{lent-refused, lent-accepted}
use Rattle.record_fields.proofs.Stores.{sets_front, get_d_made, length-numbers}
use Rattle.record_fields.proofs.Told.{told_none, told-alone, alone_when, alone_0, own_when, own_then}
use Rattle.record.specs.Calls.{Reads, Refused}
use Rattle.record.proofs.Outcomes.{read-told, read-refuses}
use Rattle.record_arrays.specs.Sides.{is_side, side_of, rows_at, RecordOver}
use Rattle.calls_merge.specs.Refusals.{written_table, merge_write_refusal}
use Rattle.calls_merge.specs.Calls.{MergeWrites}

-- ---- the rows that are written

module _ (s : List ℕ) where
  -- they stand in the record from their place on
  pub rows-given : {n : ℕ} → size_of s ≡ n → (side : Side) → rows_on (parts s) side ≡ numbers s (rows_at n side) (2 * (n - 1))
  unfolding parts_of
  rows-given says left = ap (λ m. numbers s (rows_at m left) (2 * (m - 1))) says
  rows-given says right = ap (λ m. numbers s (rows_at m right) (2 * (m - 1))) says

  pub length-given : (side : Side) → length (rows_on (parts s) side) ≡ 2 * (size_of s - 1)
  length-given side = ap length (rows-given refl side) ∙ length-numbers s (rows_at (size_of s) side) (2 * (size_of s - 1))

  pub given-rule : refusal s ≡ 0 → (side : Side) → Rule (size_of s) (upper (rows_on (parts s) side)) (lower (rows_on (parts s) side))
  given-rule a left = left-rule s a
  given-rule a right = right-rule s a

  -- the table that says them
  table_length : (side : Side) → length (table_for (size_of s) (rows_on (parts s) side)) ≡ 2 * (size_of s - 1)
  unfolding table_for
  table_length side = length-map (rows_on (parts s) side) (entry_for (size_of s)) ∙ length-given side

  pub length-written : (side : ℕ) → length (written_table s side) ≡ 2 * (size_of s - 1)
  unfolding written_table
  length-written side = table_length (side_of side)

  module _ {n : ℕ} (says : size_of s ≡ n) (side : Side) where
    pub length-table : length (table_for n (rows_on (parts s) side)) ≡ 2 * (n - 1)
    length-table = subst (λ m. length (table_for m (rows_on (parts s) side)) ≡ 2 * (m - 1)) says (table_length side)

    -- entry k is that for the number at its place
    pub its_entry : {at : ℕ} → at ≡ rows_at n side → (k : ℕ) → k < 2 * (n - 1) →
        entry_for n (two s (at + 2 * k)) ≡ get_or (table_for n (rows_on (parts s) side)) k (pos 0)
    unfolding numbers
    its_entry here k h =
        let at : get_or (rows_on (parts s) side) k 0 ≡ two s (rows_at n side + 2 * k) =
        ap (λ r. get_or r k 0) (rows-given says side) ∙ get_d_made (λ i. two s (rows_at n side + 2 * i)) (2 * (n - 1)) k h in
        ap (λ j. entry_for n (two s (j + 2 * k))) here ∙ sym (table_entry n (rows_on (parts s) side) k ∙ ap (entry_for n) at)

-- ---- the refusals

module _ (s : List ℕ) (side : ℕ) (out : List ℤ) where
  pub merging_13 : is_side side ≡ false → 13 ≡ merge_write_refusal s side out
  unfolding merge_write_refusal
  merging_13 h = rw h refl

  module _ (good : is_side side ≡ true) where
    pub merging_record : refusal s ≢ 0 → refusal s ≡ merge_write_refusal s side out
    unfolding merge_write_refusal
    merging_record h = rw good (sym (else_first (refusal s) _ h))

    module _ (a : refusal s ≡ 0) where
      pub merging_14 : length out < 2 * (size_of s - 1) → 14 ≡ merge_write_refusal s side out
      unfolding merge_write_refusal
      merging_14 p = rw (good, a, lt-ltb (length out) (2 * (size_of s - 1)) p) refl

      pub merging_0 : 2 * (size_of s - 1) ≤ length out → 0 ≡ merge_write_refusal s side out
      unfolding merge_write_refusal
      merging_0 p = rw (good, a, le-ltb (length out) (2 * (size_of s - 1)) p) refl

  -- where it is not refused
  pub merging_good : merge_write_refusal s side out ≡ 0 → (is_side side ≡ true) × (refusal s ≡ 0) × (2 * (size_of s - 1) ≤ length out)
  unfolding merge_write_refusal
  merging_good e =
      let t = none_first _ 13 _ (omega arith) e in
      let u = none_both (refusal s) _ t.1 in
      let v = none_first (ltb (length out) (2 * (size_of s - 1))) 14 0 (omega arith) u.1 in
      (not_no _ t.0, u.0, ltb-false _ _ v.0)

  -- a row that is told is the record's
  pub merge-own : {k : ℕ} → k ≡ merge_write_refusal s side out → OwnRow s k
  unfolding merge_write_refusal
  merge-own e =
      rw e (own_when s (not (is_side side)) 13 refl (own_then s (alone_when (ltb (length out) (2 * (size_of s - 1))) 14 refl alone_0)))

  -- ---- the statement

  merge-refused : {k : ℕ} {told : NumberAndRow} → told ≡ told_of s k → k ≡ merge_write_refusal s side out → k ≢ 0 →
      MergeWrites s side out told out
  merge-refused {k} t e h = record {
    answers = t ∙ ap (told_of s) e;
    afterwards = rw (← e) (lent-refused k (written_table s side) out h);
  }

  pub merge-no_side : is_side side ≡ false → MergeWrites s side out (refused 13) out
  merge-no_side h = merge-refused (told-alone (parts s) (record { alone = refl })) (merging_13 h) (λ z. omega (arith, z))

  module _ (good : is_side side ≡ true) where
    pub merge-no_record : (r : Refusal) → Reads s (Refused (refused_row (number_of r) (row_of r))) →
        MergeWrites s side out (refused_row (number_of r) (row_of r)) out
    merge-no_record r found =
        let some = read-refuses s r found in merge-refused (read-told s r found) (merging_record good some) some

    module _ {n : ℕ} (over : RecordOver s n) where
      pub merge-no_room : length out < 2 * (n - 1) → MergeWrites s side out (refused 14) out
      merge-no_room p =
          merge-refused (told-alone (parts s) (record { alone = refl })) (merging_14 good over.accepted (rw over.sized.says p))
          (λ z. omega (arith, z))

      pub merge-written : {its : Side} {after : List ℤ} → side_of side ≡ its → 2 * (n - 1) ≤ length out →
          after ≡ sets out 0 (table_for n (rows_on (parts s) its)) → MergeWrites s side out (refused 0) after
      unfolding written_table
      merge-written {its} same room w =
          let a = sym (merging_0 good over.accepted (rw over.sized.says room)) in
          let fits : length (written_table s side) ≤ length out = omega (arith, length-written s side, over.sized.says) in
          let table : table_for n (rows_on (parts s) its) ≡ written_table s side = rw (← same, over.sized.says) refl in
          record {
            answers = told_none (parts s) a;
            afterwards =
                w ∙ ap (sets out 0) table ∙ sets_front out (written_table s side) fits
                ∙ lent-accepted (merge_write_refusal s side out) (written_table s side) out a;
          }
