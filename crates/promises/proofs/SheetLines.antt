-- The lines of a sheet: what each leaves and writes, that the eight in their order are the sheet, and that each has one outcome.
use Prim.Native.Nat.{ℕ}
use mathlib.Core.Path.{◌≡◌, refl, sym, ap, ap₂, ◌∙◌, subst}
use mathlib.Core.Logic.{◌≢◌}
use mathlib.Core.Bool.{Bool, true, false, cond}
use mathlib.Core.List.{List, [], ◌++◌, append-nil, append_assoc}
use native.Mathlib.Omega.{arith}
use borrow.Author.Tests.{eq-eqb, ne_eqb, eqb-true, eqb-false}
use lib.Dec.{eqb}
use lib.ListN.{length, take, drop}
use lib.Seq.{take_at}
use Rattle.tanglegram.specs.Lists.{bit}
use Rattle.tanglegram.specs.Entanglement.{worst}
use Rattle.tanglegram.specs.Table.{crossings}
use Rattle.record_fields.specs.Fields.{hold_of, size_of, most_turns}
use Rattle.record_fields.specs.Refusals.{refusal}
use Rattle.record_fields.specs.Refused.{accepted, or_zero}
use Rattle.record_fields.specs.Told.{told_of}
use Rattle.record_fields.specs.Meaning.{table_of}
use Rattle.record_arrays.specs.Shown.{shown_count, shown_displacement}
use Rattle.calls_turns.specs.Answers.{Ran}
use Rattle.calls_turns.specs.Refusals.{run_refusal}
use Rattle.calls_turns.specs.Calls.{Runs, ran_to}
use Rattle.calls_turns.proofs.Turns.{running_good}
use mathlib.Core.Option.{get_or}
use Rattle.calls_show.specs.Calls.{thousandths_in}
use Rattle.calls_show.proofs.Outcomes.{one_thousandths}
use Rattle.calls_sheet.specs.Sheet.{ThirdNumber, is_run, after_run, left_line, right_line, as_it_stands, of_the_run, sheet_text, Sheet}
use Rattle.calls_sheet.specs.Sheet.{line_of_record, line_text, after_line}
use Rattle.calls_sheet.specs.Lines.{heading_line, count_line, entangled_line, refused_line}
use Rattle.calls_sheet.specs.Shown.{neither_held}
use Rattle.calls_sheet.specs.Calls.{SaysLine}
use Rattle.calls_sheet.proofs.Asked.{run-free}
use Rattle.promises.specs.Sheet.{Printed, all, more}
use Rattle.promises.proofs.HeldStays.{held_stays}

-- ---- what a line leaves

module _ {s out x s' : List ℕ} {a : ℕ} where
  pub kept : (k : ℕ) → SaysLine s k out a x s' → k ≢ 6 → s' ≡ s
  unfolding after_line
  kept k p h = p.leaves ∙ rw (ne_eqb k 6 h) refl

  pub run-left : SaysLine s 6 out a x s' → s' ≡ after_run s
  unfolding after_line
  run-left p = p.leaves

  -- and what it writes
  written : {k : ℕ} (p : SaysLine s k out a x s') → take a x ≡ line_text s p.third k
  written p = ap (take a) p.writes ∙ take_at _ _ a (sym p.answers)

line_of : {s₀ s s' out x : List ℕ} {a k : ℕ} → s ≡ s₀ → (p : SaysLine s k out a x s') → take a x ≡ line_text s₀ p.third k
line_of {k = k} e p = written p ∙ ap (λ z. line_text z p.third k) e

-- ---- the third number is one
one_third : (s : List ℕ) (j k : ℕ) → ThirdNumber s j → ThirdNumber s k → j ≡ k
one_third s j k p q =
    p.or_zero
    ∙ ap (λ a. get_or (thousandths_in a) 0) (one_thousandths s p.answer q.answer p.told.answers q.told.answers)
    ∙ sym q.or_zero

-- ---- the eight lines are the sheet

five : (a b c d e rest : List ℕ) → a ++ (b ++ (c ++ (d ++ (e ++ rest)))) ≡ (a ++ (b ++ (c ++ (d ++ e)))) ++ rest
five a b c d e rest = simp append_assoc

module _ (s : List ℕ) where
  -- where no run is made the bytes are kept; where one is made, another could be
  pub not-run : is_run s ≡ false → after_run s ≡ s
  unfolding after_run
  not-run e = rw e refl

  refused-not-run : refusal s ≢ 0 → is_run s ≡ false
  refused-not-run h = ne_eqb (run_refusal s most_turns) 0 (λ e. h (running_good s most_turns e).1)

  -- what a run of the bytes leaves
  pub run-leaves : {answer : Ran} {s'' : List ℕ} → Runs s most_turns answer s'' → s'' ≡ after_run s
  unfolding after_run
  run-leaves p = p.afterwards

  pub told : Ran
  told = record {
    refusal = told_of s (run_refusal s most_turns);
    first = or_zero (run_refusal s most_turns) (shown_count s);
    last = or_zero (run_refusal s most_turns) (crossings (table_of s) (ran_to s most_turns).last);
    turns = or_zero (run_refusal s most_turns) (ran_to s most_turns).turns;
    settled = or_zero (run_refusal s most_turns) (bit (ran_to s most_turns).settled);
  }

  pub an_outcome : Runs s most_turns told (after_run s)
  unfolding after_run told
  an_outcome = record { answers = refl; afterwards = refl }

  pub run-again : is_run s ≡ true → (refusal (after_run s) ≡ 0) × (is_run (after_run s) ≡ true)
  run-again e =
      let a = (running_good s most_turns (eqb-true (run_refusal s most_turns) 0 e)).1 in
      let keeps = held_stays.run s most_turns told (after_run s) an_outcome in
      let again = keeps.same_trees.accepted_again a in
      (again, run-free (after_run s) again ∙ ap neither_held keeps.same_hold ∙ sym (run-free s a) ∙ e)

  -- what is so of the bytes, and of what a run of them leaves, is so of what a line leaves
  pub line-leaves : (P : List ℕ → Type 0) → P s → P (after_run s) →
      {k a : ℕ} {out x s' : List ℕ} → SaysLine s k out a x s' → P s'
  unfolding after_line
  line-leaves P same ran {k = k} p = subst P (sym p.leaves) (go (eqb k 6))
    where
      go : (b : Bool) → P (cond b (after_run s) s)
      go true = ran
      go false = same

-- the lines of a record that is accepted; the two after a run
accepted-line : (s : List ℕ) (t k : ℕ) → refusal s ≡ 0 → line_text s t k ≡ line_of_record s t k
unfolding line_text
accepted-line s t k a = rw (eq-eqb (refusal s) 0 a) refl

left_after : (s : List ℕ) (t : ℕ) → refusal s ≡ 0 → line_text s t 7 ≡ cond (is_run s) (left_line s) []
unfolding line_of_record
left_after s t a = accepted-line s t 7 a

right-after : (s : List ℕ) (t : ℕ) → refusal s ≡ 0 → line_text s t 8 ≡ cond (is_run s) (right_line s) []
unfolding line_of_record
right-after s t a = accepted-line s t 8 a

-- lines 6 to 8
run_lines : (s : List ℕ) (t₆ t₇ t₈ : ℕ) → refusal s ≡ 0 →
    line_text s t₆ 6 ++ (line_text (after_run s) t₇ 7 ++ (line_text (after_run s) t₈ 8 ++ [])) ≡ of_the_run s
unfolding line_of_record
run_lines s t₆ t₇ t₈ a = ap₂ ◌++◌ (accepted-line s t₆ 6 a) (go (is_run s) refl)
  where
    go : (b : Bool) → is_run s ≡ b → line_text (after_run s) t₇ 7 ++ (line_text (after_run s) t₈ 8 ++ [])
        ≡ cond (is_run s) (left_line (after_run s) ++ right_line (after_run s)) []
    go true f =
        let again = run-again s f in
        let l = left_after (after_run s) t₇ again.0 ∙ ap (λ b. cond b (left_line (after_run s)) []) again.1 in
        let r = right-after (after_run s) t₈ again.0 ∙ ap (λ b. cond b (right_line (after_run s)) []) again.1 in
        ap₂ ◌++◌ l (ap (λ x. x ++ []) r ∙ append-nil _) ∙ sym (ap (λ b. cond b (left_line (after_run s) ++ right_line (after_run s)) []) f)
    go false f =
        let same = not-run s f in
        let l = left_after s t₇ a ∙ ap (λ b. cond b (left_line s) []) f in
        let r = right-after s t₈ a ∙ ap (λ b. cond b (right_line s) []) f in
        rw same (ap₂ ◌++◌ l (ap (λ x. x ++ []) r) ∙ sym (ap (λ b. cond b (left_line s ++ right_line s) []) f))

-- the sheet of a record that is accepted, and of bytes that are refused
pub sheet-accepted : (s : List ℕ) (third : ℕ) → refusal s ≡ 0 → sheet_text s third ≡ as_it_stands s third ++ of_the_run s
unfolding sheet_text
sheet-accepted s third a = rw (eq-eqb (refusal s) 0 a) refl

pub sheet-refused : (s : List ℕ) (third : ℕ) → refusal s ≢ 0 → sheet_text s third ≡ refused_line (told_of s (refusal s))
unfolding sheet_text
sheet-refused s third h = rw (ne_eqb (refusal s) 0 h) refl

refused-line : (s : List ℕ) (t k : ℕ) → refusal s ≢ 0 → line_text s t k ≡ cond (eqb k 1) (refused_line (told_of s (refusal s))) []
unfolding line_text
refused-line s t k h = rw (ne_eqb (refusal s) 0 h) refl

-- the text of the eight lines, whatever third number the others are given
module _ (s : List ℕ) (t₁ t₂ t₃ t₄ third t₆ t₇ t₈ : ℕ) where
  eight : List ℕ
  eight =
      line_text s t₁ 1 ++ (line_text s t₂ 2 ++ (line_text s t₃ 3 ++ (line_text s t₄ 4 ++ (line_text s third 5
      ++ (line_text s t₆ 6 ++ (line_text (after_run s) t₇ 7 ++ (line_text (after_run s) t₈ 8 ++ [])))))))

  whole-accepted : refusal s ≡ 0 → eight ≡ sheet_text s third
  unfolding eight line_of_record
  whole-accepted a =
      ap₂ ◌++◌ (accepted-line s t₁ 1 a) (ap₂ ◌++◌ (accepted-line s t₂ 2 a) (ap₂ ◌++◌ (accepted-line s t₃ 3 a)
      (ap₂ ◌++◌ (accepted-line s t₄ 4 a) (ap₂ ◌++◌ (accepted-line s third 5 a) (run_lines s t₆ t₇ t₈ a)))))
      ∙ five (heading_line (hold_of s) (size_of s)) (left_line s) (right_line s) (count_line (shown_count s))
      (entangled_line (shown_displacement s) (worst (size_of s)) third) (of_the_run s)
      ∙ sym (sheet-accepted s third a)

  whole-refused : refusal s ≢ 0 → eight ≡ sheet_text s third
  unfolding eight
  whole-refused h =
      let same = not-run s (refused-not-run s h) in
      rw (
        same,
        refused-line s t₁ 1 h,
        refused-line s t₂ 2 h,
        refused-line s t₃ 3 h,
        refused-line s t₄ 4 h,
        refused-line s third 5 h,
        refused-line s t₆ 6 h,
        refused-line s t₇ 7 h,
        refused-line s t₈ 8 h,
      )
      (append-nil _ ∙ sym (sheet-refused s third h))

  whole : eight ≡ sheet_text s third
  whole = go (accepted (refusal s)) refl
    where
      go : (b : Bool) → accepted (refusal s) ≡ b → eight ≡ sheet_text s third
      go true e = whole-accepted (eqb-true (refusal s) 0 e)
      go false e = whole-refused (eqb-false (refusal s) 0 e)

-- asked for in their order
pub in_order : (s text : List ℕ) → Printed s 1 text → Sheet s text
unfolding eight
in_order s text (more _ p₁ (more _ p₂ (more _ p₃ (more _ p₄ (more _ p₅ (more _ p₆ (more _ p₇ (more _ p₈ (more h _ _))))))))) =
    absurd (omega arith)
in_order s text (more _ p₁ (more _ p₂ (more _ p₃ (more _ p₄ (more _ p₅ (more _ p₆ (more _ p₇ (more _ p₈ all)))))))) =
    let e₁ = kept 1 p₁ (λ z. omega arith) in
    let e₂ = kept 2 p₂ (λ z. omega arith) ∙ e₁ in
    let e₃ = kept 3 p₃ (λ z. omega arith) ∙ e₂ in
    let e₄ = kept 4 p₄ (λ z. omega arith) ∙ e₃ in
    let e₅ = kept 5 p₅ (λ z. omega arith) ∙ e₄ in
    let e₆ = run-left p₆ ∙ ap after_run e₅ in
    let e₇ = kept 7 p₇ (λ z. omega arith) ∙ e₆ in
    record {
      third = p₅.third;
      third_told = subst (λ z. ThirdNumber z p₅.third) e₄ (p₅.third_told refl);
      says =
          ap₂ ◌++◌ (written p₁) (ap₂ ◌++◌ (line_of e₁ p₂) (ap₂ ◌++◌ (line_of e₂ p₃) (ap₂ ◌++◌ (line_of e₃ p₄)
          (ap₂ ◌++◌ (line_of e₄ p₅) (ap₂ ◌++◌ (line_of e₅ p₆) (ap₂ ◌++◌ (line_of e₆ p₇)
          (ap (λ x. x ++ []) (line_of e₇ p₈))))))))
          ∙ whole s p₁.third p₂.third p₃.third p₄.third p₅.third p₆.third p₇.third p₈.third;
    }

-- ---- there is one sheet, and asking for a line has one outcome

pub one_sheet : (s a b : List ℕ) → Sheet s a → Sheet s b → a ≡ b
one_sheet s a b p q =
    p.says ∙ ap (sheet_text s) (one_third s p.third q.third p.third_told q.third_told) ∙ sym q.says

-- the third number plays a part in line 5 only
same_line : (s : List ℕ) (k t u : ℕ) → (k ≡ 5 → t ≡ u) → line_text s t k ≡ line_text s u k
unfolding line_text line_of_record
same_line s k t u h = go (eqb k 5) refl
  where
    go : (b : Bool) → eqb k 5 ≡ b → line_text s t k ≡ line_text s u k
    go true e = ap (λ z. line_text s z k) (h (eqb-true k 5 e))
    go false e = rw e refl

pub one_outcome : (s : List ℕ) (k : ℕ) (out : List ℕ) (a b : ℕ) (x y s₁ s₂ : List ℕ) →
    SaysLine s k out a x s₁ → SaysLine s k out b y s₂ → (a ≡ b) × (x ≡ y) × (s₁ ≡ s₂)
one_outcome s k out a b x y s₁ s₂ p q =
    let same = same_line s k p.third q.third (λ e. one_third s _ _ (p.third_told e) (q.third_told e)) in
    let many : a ≡ b = p.answers ∙ ap length same ∙ sym q.answers in
    (many, p.writes ∙ ap₂ (λ t n. t ++ drop n out) same many ∙ sym q.writes, p.leaves ∙ sym q.leaves)
