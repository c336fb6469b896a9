-- Reading a table: its refusals, test by test, what an accepted table is, and from what the call found to its statement.
use Prim.Native.Nat.{ℕ, ◌-◌, ◌*◌, ◌≤◌, ◌<◌}
use mathlib.Core.Path.{◌≡◌, refl, sym, ap, ◌∙◌}
use mathlib.Core.Logic.{◌≢◌}
use mathlib.Core.Bool.{true, false, not}
use mathlib.Core.List.{List}
use native.Mathlib.Omega.{arith}
use borrow.Author.Tests.{eq-eqb, ne_eqb, eqb-true, lt-ltb, le-ltb, ltb-false}
use lib.Dec.{eqb, ltb}
use lib.IntN.{ℤ}
use lib.ListN.{length}
use lib.Seq.{sets}
use Rattle.merge.specs.Tables.{rows_in, some_none, twice, Pairs}
use Rattle.merge.proofs.Tables.{length-rows}
use Rattle.record_fields.specs.declared.refusal.Refusal.{Refusal}
use Rattle.record_fields.specs.Refusals.{no_size}
use Rattle.record_fields.specs.Refused.{refused, refused_row, number_of, row_of}
use Rattle.record_fields.proofs.Heading.{sized, none_first, not_no}
use Rattle.record_fields.proofs.Refused.{lent-refused, lent-accepted, refused-some}
use Rattle.record_fields.proofs.Stores.{sets_front}
use Rattle.calls_merge.specs.Refusals.{merge_read_refusal}
use Rattle.calls_merge.specs.Calls.{MergeReads}

module _ (n : ℕ) (table : List ℤ) (out : List ℕ) where
  -- ---- the refusals

  pub reading_5 : no_size n ≡ true → 5 ≡ merge_read_refusal n table out
  unfolding merge_read_refusal
  reading_5 h = rw h refl

  module _ (size : no_size n ≡ false) where
    pub reading_6 : length table ≢ 2 * (n - 1) → 6 ≡ merge_read_refusal n table out
    unfolding merge_read_refusal
    reading_6 h = rw (size, ne_eqb (length table) (2 * (n - 1)) h) refl

    module _ (long : length table ≡ 2 * (n - 1)) where
      pub pairs : Pairs n table
      pairs = let s = sized n size in record { some = s.0; most = s.1; long = long }

      pub reading_20 : some_none n table ≡ true → 20 ≡ merge_read_refusal n table out
      unfolding merge_read_refusal
      reading_20 h = rw (size, eq-eqb (length table) (2 * (n - 1)) long, h) refl

      module _ (named : some_none n table ≡ false) where
        pub reading_21 : twice table ≡ true → 21 ≡ merge_read_refusal n table out
        unfolding merge_read_refusal
        reading_21 h = rw (size, eq-eqb (length table) (2 * (n - 1)) long, named, h) refl

        module _ (once : twice table ≡ false) where
          pub reading_14 : length out < 2 * (n - 1) → 14 ≡ merge_read_refusal n table out
          unfolding merge_read_refusal
          reading_14 h = rw (size, eq-eqb (length table) (2 * (n - 1)) long, named, once, lt-ltb (length out) (2 * (n - 1)) h) refl

          pub reading_0 : 2 * (n - 1) ≤ length out → 0 ≡ merge_read_refusal n table out
          unfolding merge_read_refusal
          reading_0 h = rw (size, eq-eqb (length table) (2 * (n - 1)) long, named, once, le-ltb (length out) (2 * (n - 1)) h) refl

  -- ---- where it is not refused

  pub record GoodTable : Type 0 where
    pub its-pairs : Pairs n table
    pub named : some_none n table ≡ false
    pub once : twice table ≡ false
    pub room : 2 * (n - 1) ≤ length out

  pub reading-good : merge_read_refusal n table out ≡ 0 → GoodTable
  unfolding merge_read_refusal
  reading-good e =
      let a = none_first (no_size n) 5 _ (omega arith) e in
      let b = none_first (not (eqb (length table) (2 * (n - 1)))) 6 _ (omega arith) a.1 in
      let c = none_first (some_none n table) 20 _ (omega arith) b.1 in
      let d = none_first (twice table) 21 _ (omega arith) c.1 in
      let f = none_first (ltb (length out) (2 * (n - 1))) 14 0 (omega arith) d.1 in
      record {
        its-pairs = pairs a.0 (eqb-true (length table) (2 * (n - 1)) (not_no _ b.0));
        named = c.0;
        once = d.0;
        room = ltb-false _ _ f.0;
      }

  -- ---- the statement

  pub read_refused : (r : Refusal) → row_of r ≡ 0 → number_of r ≡ merge_read_refusal n table out →
      MergeReads n table out (refused_row (number_of r) (row_of r)) out
  read_refused r none e = record {
    answers = rw none (ap refused e);
    afterwards = rw (← e) (lent-refused (number_of r) (rows_in n table) out (refused-some r));
  }

  pub read-accepted : {after : List ℕ} → 0 ≡ merge_read_refusal n table out → after ≡ sets out 0 (rows_in n table) →
      MergeReads n table out (refused 0) after
  read-accepted a w =
      let g = reading-good (sym a) in
      let fits : length (rows_in n table) ≤ length out = omega (arith, length-rows n table, g.its-pairs.long, g.room) in
      record {
        answers = ap refused a;
        afterwards =
            w ∙ sets_front out (rows_in n table) fits
            ∙ lent-accepted (merge_read_refusal n table out) (rows_in n table) out (sym a);
      }
