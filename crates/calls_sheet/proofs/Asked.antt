-- Lines by their number, of an accepted record: each is what its function puts.
use Prim.Native.Nat.{ℕ}
use mathlib.Core.Path.{◌≡◌, refl, sym, ◌∙◌}
use mathlib.Core.Logic.{◌≢◌}
use mathlib.Core.Bool.{Bool, true, false}
use mathlib.Core.List.{List, []}
use native.Mathlib.Omega.{arith}
use borrow.Author.Tests.{ne_eqb}
use Rattle.tanglegram.specs.declared.side.Side.TheVariants.{Left as left, Right as right}
use Rattle.record_fields.specs.Fields.{hold_of, most_turns}
use Rattle.record_fields.specs.Refusals.{refusal}
use Rattle.record_arrays.specs.Sides.{holds}
use Rattle.calls_turns.specs.Refusals.{no_allowance}
use Rattle.calls_turns.proofs.Turns.{running_11_left, running_11_right, running_0}
use Rattle.work_text.specs.Puts.{Puts}
use Rattle.calls_sheet.specs.Sheet.{is_run, line_of_record}
use Rattle.calls_sheet.specs.Shown.{SaysEntangled, SaysOf, neither_held}

-- a run is made exactly if neither side is held
allowed : no_allowance most_turns ≡ false
unfolding no_allowance
allowed = refl

pub run-free : (s : List ℕ) → refusal s ≡ 0 → is_run s ≡ neither_held (hold_of s)
run-free s a = go (holds (hold_of s) left) refl (holds (hold_of s) right) refl
  where
    go : (b : Bool) → holds (hold_of s) left ≡ b → (d : Bool) → holds (hold_of s) right ≡ d → is_run s ≡ neither_held (hold_of s)
    go true e d f = rw (sym (running_11_left s most_turns allowed a e), e) refl
    go false e true f = rw (sym (running_11_right s most_turns allowed a e f), e, f) refl
    go false e false f = rw (sym (running_0 s most_turns allowed a e f), e, f) refl

-- nothing is put
pub none-put : {out : List ℕ} → Puts [] out 0 0 out
none-put = record { ends = omega arith; within = omega arith; writes = refl }

module _ (s : List ℕ) {k r : ℕ} {out out' : List ℕ} where
  -- a line other than the fifth, by its number
  pub said : (j : ℕ) → k ≡ j → j ≢ 5 → Puts (line_of_record s 0 j) out 0 r out' → SaysOf s k out r out'
  said j e h p = record { third = 0; third_told = λ f. absurd (h (sym e ∙ f)); puts = rw e p }

  pub said_entangled : k ≡ 5 → SaysEntangled s out r out' → SaysOf s k out r out'
  unfolding line_of_record
  said_entangled e p = record { third = p.third; third_told = λ f. p.third_told; puts = rw e p.puts }

-- there is no other line
pub no_line : (s : List ℕ) {k : ℕ} {out : List ℕ} → k ≢ 1 → k ≢ 2 → k ≢ 3 → k ≢ 4 → k ≢ 5 → k ≢ 6 → k ≢ 7 → k ≢ 8 → SaysOf s k out 0 out
unfolding line_of_record
no_line s {k} h₁ h₂ h₃ h₄ h₅ h₆ h₇ h₈ = record {
  third = 0;
  third_told = λ e. absurd (h₅ e);
  puts =
      rw (ne_eqb k 1 h₁, ne_eqb k 2 h₂, ne_eqb k 3 h₃, ne_eqb k 4 h₄, ne_eqb k 5 h₅, ne_eqb k 6 h₆, ne_eqb k 7 h₇, ne_eqb k 8 h₈) none-put;
}
