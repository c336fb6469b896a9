-- The run's line, from what the run answers.
use Prim.Native.Nat.{ℕ}
use mathlib.Core.Path.{◌≡◌, refl, sym, ap, ◌∙◌}
use mathlib.Core.Bool.{Bool, true, false}
use mathlib.Core.List.{List}
use mathlib.Core.Logic.{◌≢◌}
use native.Mathlib.Omega.{arith}
use borrow.Author.Tests.{eq-eqb, ne_eqb}
use Rattle.tanglegram.specs.Lists.{bit}
use Rattle.record_fields.specs.Fields.{most_turns}
use Rattle.calls_turns.specs.Answers.{Ran}
use Rattle.calls_turns.specs.Refusals.{run_refusal}
use Rattle.calls_turns.specs.Calls.{Runs, ran_to}
use Rattle.work_text.specs.Puts.{Puts}
use Rattle.calls_sheet.specs.Lines.{turns_line, refused_line}
use Rattle.calls_sheet.specs.Sheet.{is_run, after_run}
use Rattle.calls_sheet.specs.Shown.{SaysRun}

-- the same bit, the same test
same_bit : (a b : Bool) → bit a ≡ bit b → a ≡ b
same_bit true true e = refl
same_bit true false e = absurd (omega (arith, e))
same_bit false true e = absurd (omega (arith, e))
same_bit false false e = refl

number-told : {s s' : List ℕ} {ran : Ran} → Runs s most_turns ran s' → ran.refusal.number ≡ run_refusal s most_turns
number-told p = ap (λ (x : Ran). x.refusal.number) p.answers

module _ (s : List ℕ) {ran : Ran} {s' out out' : List ℕ} {r : ℕ} (p : Runs s most_turns ran s') where
  pub run-not_made : ran.refusal.number ≢ 0 → Puts (refused_line ran.refusal) out 0 r out' → SaysRun s out r out' s'
  unfolding after_run
  run-not_made h q =
      let not : is_run s ≡ false = ne_eqb (run_refusal s most_turns) 0 (λ e. h (number-told p ∙ e)) in
      record {
        puts = rw not (rw (ap (λ (x : Ran). x.refusal) p.answers) at q);
        leaves = p.afterwards ∙ rw not refl;
      }

  pub run_made : (settled : Bool) → ran.refusal.number ≡ 0 → ran.settled ≡ bit settled →
      Puts (turns_line ran.turns settled ran.last) out 0 r out' →
      SaysRun s out r out' s'
  unfolding after_run
  run_made settled h t q =
      let is : is_run s ≡ true = eq-eqb (run_refusal s most_turns) 0 (sym (number-told p) ∙ h) in
      let same : settled ≡ (ran_to s most_turns).settled =
      same_bit settled (ran_to s most_turns).settled (sym t ∙ ap (λ (x : Ran). x.settled) p.answers ∙ rw is refl) in
      record {
        puts = rw is (rw (p.answers, is, same) at q);
        leaves = p.afterwards ∙ rw is refl;
      }
