-- From what is put to the statement of a line.
use Prim.Native.Nat.{ℕ, ◌≤◌}
use mathlib.Core.Path.{◌≡◌, refl, sym, ap, ◌∙◌}
use mathlib.Core.Logic.{◌≢◌}
use mathlib.Core.Bool.{Bool, true, false, cond}
use mathlib.Core.List.{List, [], ◌++◌}
use native.Mathlib.Omega.{arith}
use borrow.Author.Tests.{eq-eqb, ne_eqb}
use lib.Dec.{eqb}
use lib.ListN.{length, drop, length-append}
use Rattle.record_fields.specs.Fields.{most_turns}
use Rattle.record_fields.specs.Refusals.{refusal}
use Rattle.record_fields.specs.Refused.{NumberAndRow}
use Rattle.record_fields.specs.Told.{told_of}
use Rattle.record_fields.proofs.Stores.{sets_front}
use Rattle.calls_show.specs.InThousandths as in_thousandths
use Rattle.calls_turns.specs.Refusals.{run_refusal}
use Rattle.calls_turns.proofs.Turns.{running_good}
use Rattle.work_text.specs.Puts.{Puts}
use Rattle.calls_sheet.specs.Lines.{refused_line}
use Rattle.calls_sheet.specs.Sheet.{ThirdNumber, is_run, after_run, line_of_record, line_text, after_line}
use Rattle.calls_sheet.specs.Shown.{SaysRun, SaysOf}
use Rattle.calls_sheet.specs.Calls.{SaysLine}

-- ---- lines

-- bytes that are refused are not run
not-run : (s : List ℕ) (k : ℕ) → refusal s ≢ 0 → after_line s k ≡ s
unfolding after_line after_run
not-run s k h =
    let not : is_run s ≡ false = ne_eqb (run_refusal s most_turns) 0 (λ e. h (running_good s most_turns e).1) in
    go (eqb k 6) not
  where
    go : (b : Bool) → is_run s ≡ false → cond b (after_run s) s ≡ s
    go true e = rw e refl
    go false e = refl

module _ (s : List ℕ) (k : ℕ) {out out' : List ℕ} {r : ℕ} (long : length out ≤ 1942) where
  says : {s' : List ℕ} (third : ℕ) → (k ≡ 5 → ThirdNumber s third) → Puts (line_text s third k) out 0 r out' → s' ≡ after_line s k →
      SaysLine s k out r out' s'
  says third t p e =
      let many : r ≡ length (line_text s third k) = omega (arith, p.ends) in
      record {
        third = third;
        third_told = t;
        answers = many;
        within = omega (arith, p.within);
        writes =
            p.writes ∙ sets_front out (line_text s third k) (omega (arith, p.within))
            ∙ ap (λ n. line_text s third k ++ drop n out) (sym many);
        leaves = e;
      }

  pub says-shown : refusal s ≡ 0 → k ≢ 6 → SaysOf s k out r out' → SaysLine s k out r out' s
  unfolding line_text after_line
  says-shown a h p = says p.third p.third_told (rw (eq-eqb (refusal s) 0 a) p.puts) (rw (ne_eqb k 6 h) refl)

  pub says-run : {s' : List ℕ} → refusal s ≡ 0 → k ≡ 6 → SaysRun s out r out' s' → SaysLine s k out r out' s'
  unfolding line_text line_of_record after_line
  says-run a e p = says 0 (λ f. absurd (omega arith)) (rw (eq-eqb (refusal s) 0 a, e) p.puts) (rw e p.leaves)

  pub says-refused : {told : NumberAndRow} → refusal s ≢ 0 → told ≡ told_of s (refusal s) →
      Puts (cond (eqb k 1) (refused_line told) []) out 0 r out' → SaysLine s k out r out' s
  unfolding line_text
  says-refused h t p =
      let third : ThirdNumber s 0 =
      record { answer = in_thousandths.Refused (told_of s (refusal s)); told = record { answers = (h, refl) }; or_zero = refl } in
      says 0 (λ _. third) (rw (ne_eqb (refusal s) 0 h) (rw t at p)) (sym (not-run s k h))

-- what is answered is within the memory
pub line-within : {s out out' s' : List ℕ} {k r : ℕ} → SaysLine s k out r out' s' → r ≤ length out'
line-within {s} {out} {k = k} {r} p =
    let text = line_text s p.third k in
    omega (arith, ap length p.writes, length-append text (drop r out), p.answers)
