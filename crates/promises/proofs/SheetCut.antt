-- Input longer than any record has the sheet of its first 6,143 bytes: both are refused, for the same number, by the first eight bytes or
-- for the length.
use Prim.Native.Nat.{ℕ, ◌≤◌, ◌<◌}
use mathlib.Core.Path.{◌≡◌, refl, sym, ap, ◌∙◌}
use mathlib.Core.Logic.{◌≢◌}
use mathlib.Core.Bool.{Bool, true, false}
use mathlib.Core.List.{List}
use native.Mathlib.Omega.{arith}
use borrow.Author.Tests.{ne_eqb, le-ltb}
use lib.Dec.{eqb}
use lib.ListN.{length, get_or, take}
use lib.Seq.{length-take-le, get_or-take}
use Rattle.record_fields.specs.Fields.{length_of, size_of}
use Rattle.record_fields.specs.Refusals.{is_mark, no_size, heading_refusal, refusal}
use Rattle.record_fields.specs.Refused.{refused}
use Rattle.record_fields.specs.Told.{row_for, told_of}
use Rattle.record_fields.proofs.Acceptance.{refusal_heading}
use Rattle.record_fields.proofs.Heading.{heading_good, sized}
use Rattle.calls_show.specs.InThousandths.{Refused}
use Rattle.calls_sheet.specs.Lines.{refused_line}
use Rattle.calls_sheet.specs.Sheet.{Sheet, ThirdNumber}
use Rattle.promises.proofs.SheetLines.{sheet-refused}
use Rattle.promises.proofs.SheetLength.{heading_number}

-- a refusal without a row
no_row : (s : List ℕ) (k : ℕ) → k ≤ 6 → told_of s k ≡ refused k
unfolding row_for
no_row s k h = rw (ne_eqb k 7 (λ e. omega arith), ne_eqb k 8 (λ e. omega arith)) refl

module _ (s : List ℕ) (long : 6143 ≤ length s) where
  too_long : heading_refusal s ≢ 0
  too_long e = let g = heading_good s e in omega (arith, g.whole, g.most)

  own-number : refusal s ≡ heading_refusal s
  own-number = refusal_heading s too_long

  refused-alone : told_of s (refusal s) ≡ refused (heading_refusal s)
  refused-alone = ap (told_of s) own-number ∙ no_row s (heading_refusal s) (heading_number s)

  -- it is not accepted, and so has no third number but 0
  pub not-accepted : refusal s ≢ 0
  not-accepted e = too_long (sym own-number ∙ e)

  pub no_third : ThirdNumber s 0
  no_third = record { answer = Refused (told_of s (refusal s)); told = record { answers = (not-accepted, refl) }; or_zero = refl }

module _ (s : List ℕ) (h : 6143 ≤ length s) where
  cut : List ℕ
  cut = take 6143 s

  cut-long : length cut ≡ 6143
  unfolding cut
  cut-long = length-take-le 6143 s h

  byte-same : (k : ℕ) → k < 6143 → get_or cut k 0 ≡ get_or s k 0
  unfolding cut
  byte-same k q = get_or-take 6143 s k 0 q

  size_same : size_of cut ≡ size_of s
  size_same = rw (byte-same 6 (omega arith), byte-same 7 (omega arith)) refl

  -- a length above 6,142 is no record's
  other_length : (m : ℕ) → 6143 ≤ m → no_size (size_of s) ≡ false → eqb m (length_of (size_of s)) ≡ false
  other_length m q e = ne_eqb m (length_of (size_of s)) (λ z. omega (arith, (sized (size_of s) e).1))

  heading_same : heading_refusal cut ≡ heading_refusal s
  unfolding heading_refusal is_mark
  heading_same = go (no_size (size_of s)) refl
    where
      go : (b : Bool) → no_size (size_of s) ≡ b → heading_refusal cut ≡ heading_refusal s
      go true e =
          rw (
            byte-same 0 (omega arith),
            byte-same 1 (omega arith),
            byte-same 2 (omega arith),
            byte-same 3 (omega arith),
            byte-same 4 (omega arith),
            byte-same 5 (omega arith),
            byte-same 6 (omega arith),
            byte-same 7 (omega arith),
            le-ltb (length cut) 8 (omega (arith, cut-long)),
            le-ltb (length s) 8 (omega arith),
            e,
          ) refl
      go false e =
          rw (
            byte-same 0 (omega arith),
            byte-same 1 (omega arith),
            byte-same 2 (omega arith),
            byte-same 3 (omega arith),
            byte-same 4 (omega arith),
            byte-same 5 (omega arith),
            byte-same 6 (omega arith),
            byte-same 7 (omega arith),
            le-ltb (length cut) 8 (omega (arith, cut-long)),
            le-ltb (length s) 8 (omega arith),
            e,
            other_length (length cut) (omega (arith, cut-long)) e,
            other_length (length s) h e,
          ) refl

  pub cut-sheet : (text : List ℕ) → Sheet (take 6143 s) text → Sheet s text
  unfolding cut
  cut-sheet text p =
      let short : 6143 ≤ length cut = omega (arith, cut-long) in
      record {
        third = 0;
        third_told = no_third s h;
        says =
            p.says ∙ sheet-refused cut p.third (not-accepted cut short)
            ∙ ap refused_line (refused-alone cut short ∙ ap refused heading_same ∙ sym (refused-alone s h))
            ∙ sym (sheet-refused s 0 (not-accepted s h));
      }
