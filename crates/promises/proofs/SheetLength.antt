-- A sheet has at most 7,832 bytes, line by line: heading 12, each order 1,942, count 9, entanglement 25, run 18.
use Prim.Native.Nat.{ℕ, zero, suc, ◌+◌, ◌^◌, ◌≤◌, ◌<◌}
use mathlib.Core.Path.{◌≡◌, refl, ◌∙◌}
use mathlib.Core.Logic.{◌⊎◌, inl, inr}
use mathlib.Core.Bool.{Bool, true, false, not}
use mathlib.Core.List.{List, [], ◌∷◌, ◌++◌}
use mathlib.Core.Option.{get_or}
use native.Mathlib.Nat.{pow-le-pow_right}
use native.Mathlib.Omega.{arith}
use borrow.Author.Tests.{eqb-true, eqb-false}
use lib.Dec.{eqb, ltb}
use lib.ListN.{length, length-append}
use Rattle.tanglegram.specs.Entanglement.{worst}
use Rattle.tanglegram.specs.declared.side.Side.TheVariants.{Left as left, Right as right}
use Rattle.tanglegram.specs.Table.{Layouts, crossings, order_of}
use Rattle.tanglegram.proofs.Crossings.{count_fits}
use Rattle.tanglegram.proofs.Entanglement.{worst-most}
use Rattle.tanglegram.proofs.Table.{table-run}
use Rattle.tanglegram.proofs.Thousandths.{within_1000, worst_positive}
use Rattle.work_text.specs.Lines.{ascii, space, next, spaced, line}
use Rattle.work_text.proofs.Decimal.{length_most}
use Rattle.work_text.proofs.Spaced.{line-length}
use Rattle.record_fields.specs.Fields.{two, version_at, length_of, hold_of, size_of, Parts, parts, parts_of, most_turns}
use Rattle.record_fields.specs.Refusals.{◌when◌else◌, or_else, refusal, heading_refusal, contents_refusal}
use Rattle.record_fields.specs.Refusals.{is_mark, is_hold, no_size, breaks_rule, one_to_one, is_layout}
use Rattle.record_fields.specs.Refused.{NumberAndRow, accepted}
use Rattle.record_fields.specs.Told.{told_of, SaysRow}
use Rattle.record_fields.specs.Meaning.{table_of, layouts_of}
use Rattle.record_fields.proofs.Acceptance.{accepted-sized, refusal_heading}
use Rattle.record_fields.proofs.Heading.{heading_good}
use Rattle.record_fields.proofs.SaysRow.{told_row}
use Rattle.record_fields.proofs.Meaning.{accepted_fair, accepted_fits}
use Rattle.record_arrays.specs.Sides.{holds}
use Rattle.record_arrays.specs.Shown.{shown_count, shown_displacement}
use Rattle.calls_show.specs.InThousandths.{InThousandths}
use Rattle.calls_show.specs.InThousandths.{Ratio, NoRatio, Refused}
use Rattle.calls_show.specs.Calls.{ThousandthsOf, thousandths_in}
use Rattle.calls_show.proofs.Shown.{displacement-at-most}
use Rattle.calls_turns.specs.Refusals.{no_allowance, run_refusal}
use Rattle.calls_turns.proofs.Turns.{run-own}
use Rattle.calls_turns.specs.Calls.{ran_to}
use Rattle.calls_sheet.specs.Lines.{heading_line, count_line, entangled_line, ending, turns_line, refused_line, row_told}
use Rattle.calls_sheet.specs.Sheet.{ThirdNumber, is_run, after_run, left_line, right_line, as_it_stands, of_the_run, sheet_text}
use Rattle.calls_sheet.proofs.Room.{line-most}
use Rattle.calls_sheet.proofs.Shown.{order_fits}
use Rattle.promises.proofs.RowTold.{row_told as rows_told}
use Rattle.promises.proofs.SheetLines.{run-again, sheet-accepted, sheet-refused}

-- a number of at most n + 1 digits, behind its space
short : (n x : ℕ) → n < 20 → x < 10 ^ suc n → length (next x) ≤ n + 2
short n x few h =
    omega (arith, length_most n x (omega (arith, pow-le-pow_right {n = 10} (omega arith) {i = suc n} {j = 20} (omega arith))) h)

-- a line with one number, and with three
one_number : (first : List ℕ) (x : ℕ) → length (line first (x ∷ [])) ≡ length first + length (next x) + 1
unfolding spaced
one_number first x = line-length first (x ∷ []) ∙ simp length-append (omega arith)

three-numbers : (first : List ℕ) (x y z : ℕ) →
    length (line first (x ∷ y ∷ z ∷ [])) ≡ length first + length (next x) + length (next y) + length (next z) + 1
unfolding spaced
three-numbers first x y z = line-length first (x ∷ y ∷ z ∷ []) ∙ simp length-append (omega arith)

module _ (s : List ℕ) (a : refusal s ≡ 0) where
  heading_most : length (heading_line (hold_of s) (size_of s)) ≤ 12
  heading_most =
      omega (
        arith,
        one_number (ascii "TGP 1 " ++ (hold_of s ∷ [])) (size_of s),
        (accepted-sized s a).most,
        short 2 (size_of s) (omega arith) (omega (arith, (accepted-sized s a).most)),
      )

  left-most : length (left_line s) ≤ 1942
  left-most = order_fits s a left 76

  right-most : length (right_line s) ≤ 1942
  right-most = order_fits s a right 82

  -- any count of the record's trees
  count_most : (at : Layouts) → crossings (table_of s) at ≤ 130816
  unfolding parts_of
  count_most at =
      count_fits (size_of s) (parts s).links (order_of (table_of s) at left) (order_of (table_of s) at right) (accepted-sized s a).most

  count-line-most : length (count_line (shown_count s)) ≤ 9
  count-line-most =
      omega (arith, one_number (ascii "X") (shown_count s), short 5 (shown_count s) (omega arith) (omega (arith, count_most (layouts_of s))))

  turns-line-most : (settled : Bool) →
      length (turns_line (ran_to s most_turns).turns settled (crossings (table_of s) (ran_to s most_turns).last)) ≤ 18
  turns-line-most settled =
      let ran = ran_to s most_turns in
      let last = crossings (table_of s) ran.last in
      let taken = (table-run (table_of s) (accepted_fair s a) most_turns (layouts_of s) (accepted_fits s a)).allowed in
      let below = line (space ∷ ending settled ∷ []) (last ∷ []) in
      omega (
        arith,
        length-append (ascii "T" ++ next ran.turns) below,
        one_number (space ∷ ending settled ∷ []) last,
        short 5 ran.turns (omega arith) (omega (arith, taken)),
        short 5 last (omega arith) (omega (arith, count_most ran.last)),
      )

  third-most : {third : ℕ} → ThirdNumber s third → third ≤ 1000
  third-most t = rw t.or_zero (go t.answer t.told.answers)
    where
      go : (answer : InThousandths) → ThousandthsOf s answer → get_or (thousandths_in answer) 0 ≤ 1000
      go (Ratio k) p =
          within_1000 (shown_displacement s) (worst (size_of s)) (worst_positive (size_of s) p.1) (displacement-at-most s a) k p.2.has
      go NoRatio p = omega arith
      go (Refused r) p = omega arith

  entangled_line-most : {third : ℕ} → ThirdNumber s third → length (entangled_line (shown_displacement s) (worst (size_of s)) third) ≤ 25
  entangled_line-most {third} t =
      let d = shown_displacement s in
      let w = worst (size_of s) in
      let most = worst-most (size_of s) (accepted-sized s a).most in
      omega (
        arith,
        three-numbers (ascii "E") d w third,
        short 7 d (omega arith) (omega (arith, displacement-at-most s a)),
        short 7 w (omega arith) (omega arith),
        short 3 third (omega arith) (omega (arith, third-most t)),
      )

-- ---- a refusal's line

-- a refusal's number is at most 10, and its row is below 512
when_most : (m k r : ℕ) (b : Bool) → k ≤ m → r ≤ m → (k when b else r) ≤ m
when_most m k r true p q = p
when_most m k r false p q = q

else_most : (m k r : ℕ) → k ≤ m → r ≤ m → or_else k r ≤ m
else_most m zero r p q = q
else_most m (suc k) r p q = p

pub heading_number : (s : List ℕ) → heading_refusal s ≤ 6
unfolding heading_refusal
heading_number s =
    when_most 6 1 _ (ltb (length s) 8) (omega arith)
    (when_most 6 2 _ (not (is_mark s)) (omega arith)
    (when_most 6 3 _ (not (eqb (two s version_at) 1)) (omega arith)
    (when_most 6 4 _ (not (is_hold (hold_of s))) (omega arith)
    (when_most 6 5 _ (no_size (size_of s)) (omega arith)
    (when_most 6 6 0 (not (eqb (length s) (length_of (size_of s)))) (omega arith) (omega arith))))))

contents_number : (P : Parts) → contents_refusal P ≤ 10
unfolding contents_refusal
contents_number P =
    when_most 10 7 _ (breaks_rule P.size P.left_rows) (omega arith)
    (when_most 10 8 _ (breaks_rule P.size P.right_rows) (omega arith)
    (when_most 10 9 _ (not (one_to_one P.size P.links)) (omega arith)
    (when_most 10 10 _ (not (is_layout P.left_layout)) (omega arith)
    (when_most 10 10 0 (not (is_layout P.right_layout)) (omega arith) (omega arith)))))

number-most : (s : List ℕ) → refusal s ≤ 10
unfolding refusal
number-most s = else_most 10 (heading_refusal s) (contents_refusal (parts s)) (omega (arith, heading_number s)) (contents_number (parts s))

run-number : (s : List ℕ) → refusal s ≡ 0 → run_refusal s most_turns ≤ 12
unfolding run_refusal
run-number s a =
    when_most 12 12 _ (no_allowance most_turns) (omega arith) (else_most 12 (refusal s) _ (omega arith)
    (when_most 12 11 _ (holds (hold_of s) left) (omega arith)
    (when_most 12 11 0 (holds (hold_of s) right) (omega arith) (omega arith))))

-- a row that is told is below 512, if the leaves are at most that many wherever one is told
row-most : {P : Parts} {number row : ℕ} → SaysRow P number row → ((number ≡ 7) ⊎ (number ≡ 8) → P.size ≤ 512) → row < 512
row-most {P} {number} {row} p h = go (eqb number 7) refl (eqb number 8) refl
  where
    go : (b : Bool) → eqb number 7 ≡ b → (d : Bool) → eqb number 8 ≡ d → row < 512
    go true e d f =
        let seven : (number ≡ 7) ⊎ (number ≡ 8) = inl (eqb-true number 7 e) in
        omega (arith, (p.exactly.0 seven).1, h seven)
    go false e true f =
        let eight : (number ≡ 7) ⊎ (number ≡ 8) = inr (eqb-true number 8 f) in
        omega (arith, (p.exactly.0 eight).1, h eight)
    go false e false f = omega (arith, p.no_row (eqb-false number 7 e) (eqb-false number 8 f))

refused-line-most : (r : NumberAndRow) → r.number ≤ 12 → r.row < 512 → length (refused_line r) ≤ 30
refused-line-most r n h = go r.row h
  where
    go : (row : ℕ) → row < 512 → length (line (ascii "REFUSED") (r.number ∷ row_told row)) ≤ 30
    go zero h = omega (arith, line-most (ascii "REFUSED") (r.number ∷ []) (omega arith, tt))
    go (suc i) h = omega (arith, line-most (ascii "REFUSED") (r.number ∷ suc i ∷ []) (omega arith, (omega arith, tt)))

-- ---- the whole

-- a row is told of at most 512 leaves
seven_or_eight : (s : List ℕ) → (refusal s ≡ 7) ⊎ (refusal s ≡ 8) → (parts s).size ≤ 512
unfolding parts_of
seven_or_eight s e = go (eqb (heading_refusal s) 0) refl
  where
    above : (refusal s ≡ 7) ⊎ (refusal s ≡ 8) → 6 < refusal s
    above (inl e) = omega arith
    above (inr e) = omega arith

    go : (b : Bool) → eqb (heading_refusal s) 0 ≡ b → size_of s ≤ 512
    go true f = (heading_good s (eqb-true (heading_refusal s) 0 f)).most
    go false f = absurd (omega (arith, refusal_heading s (eqb-false (heading_refusal s) 0 f), heading_number s, above e))

-- the refusal of bytes, and of a run
own-line-most : (s : List ℕ) → length (refused_line (told_of s (refusal s))) ≤ 30
own-line-most s =
    refused-line-most (told_of s (refusal s)) (omega (arith, number-most s))
    (row-most (rows_told.check s (told_of s (refusal s)) (record { answers = refl })) (seven_or_eight s))

module _ (s : List ℕ) (a : refusal s ≡ 0) where
  few-leaves : (parts s).size ≤ 512
  unfolding parts_of
  few-leaves = (accepted-sized s a).most

  run-refused-most : length (refused_line (told_of s (run_refusal s most_turns))) ≤ 30
  run-refused-most =
      refused-line-most (told_of s (run_refusal s most_turns)) (run-number s a)
      (row-most (told_row s (run-own s most_turns refl) refl) (λ _. few-leaves))

-- below the five lines: the run's and two orders, or its refusal
run-most : (s : List ℕ) → refusal s ≡ 0 → length (of_the_run s) ≤ 3902
run-most s a = go (is_run s) refl
  where
    go : (b : Bool) → is_run s ≡ b → length (of_the_run s) ≤ 3902
    go true e =
        let again = (run-again s e).0 in
        let ran = ran_to s most_turns in
        let first = turns_line ran.turns ran.settled (crossings (table_of s) ran.last) in
        rw e (omega (
          arith,
          length-append first (left_line (after_run s) ++ right_line (after_run s)),
          length-append (left_line (after_run s)) (right_line (after_run s)),
          turns-line-most s a ran.settled,
          left-most (after_run s) again,
          right-most (after_run s) again,
        ))
    go false e =
        rw e (omega (arith, length-append (refused_line (told_of s (run_refusal s most_turns))) [], run-refused-most s a))

stands_most : (s : List ℕ) (third : ℕ) → refusal s ≡ 0 → ThirdNumber s third → length (as_it_stands s third) ≤ 3930
stands_most s third a t =
    let e = entangled_line (shown_displacement s) (worst (size_of s)) third in
    let c = count_line (shown_count s) in
    omega (
      arith,
      length-append (heading_line (hold_of s) (size_of s)) (left_line s ++ (right_line s ++ (c ++ e))),
      length-append (left_line s) (right_line s ++ (c ++ e)),
      length-append (right_line s) (c ++ e),
      length-append c e,
      heading_most s a,
      left-most s a,
      right-most s a,
      count-line-most s a,
      entangled_line-most s a t,
    )

pub sheet-most : (s : List ℕ) (third : ℕ) → ThirdNumber s third → length (sheet_text s third) ≤ 7832
sheet-most s third t = go (accepted (refusal s)) refl
  where
    go : (b : Bool) → accepted (refusal s) ≡ b → length (sheet_text s third) ≤ 7832
    go true e =
        let a = eqb-true (refusal s) 0 e in
        rw (sheet-accepted s third a)
        (omega (arith, length-append (as_it_stands s third) (of_the_run s), stands_most s third a t, run-most s a))
    go false e = rw (sheet-refused s third (eqb-false (refusal s) 0 e)) (omega (arith, own-line-most s))
