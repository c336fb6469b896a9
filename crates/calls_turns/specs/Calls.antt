-- What free and run answer, and what the record lent to them is afterwards, for every input.
use Rattle.std.specs.Prelude.{ℕ, ◌≡◌, cond, List}
use Rattle.tanglegram.specs.Lists.{bit}
use Rattle.tanglegram.specs.Table.{Layouts, crossings, free}
use Rattle.record_fields.specs.Refused.{accepted, or_zero}
use Rattle.record_fields.specs.Told.{told_of}
use Rattle.record_fields.specs.Meaning.{table_of, layouts_of, relaid}
use Rattle.record_arrays.specs.Sides.{side_of}
use Rattle.record_arrays.specs.Shown.{shown_count}
use Rattle.calls_turns.specs.Answers.{Freed}
use Rattle.calls_turns.specs.Answers.{Ran}
use Rattle.calls_turns.specs.Refusals.{free_refusal, run_refusal}
pub use Rattle.record_turns.specs.Worked.{ran_to}

-- ---- free

-- The layouts after freeing a side.
abbrev pub freed_layouts : List ℕ → ℕ → Layouts
freed_layouts s side = free (table_of s) (side_of side) (layouts_of s)

pub record Frees (s : List ℕ) (side : ℕ) (answer : Freed) (s' : List ℕ) : Type 0 where
  pub answers : answer ≡ record {
    refusal = told_of s (free_refusal s side);
    before = or_zero (free_refusal s side) (shown_count s);
    after = or_zero (free_refusal s side) (crossings (table_of s) (freed_layouts s side));
  }
  pub afterwards : s' ≡ cond (accepted (free_refusal s side)) (relaid s (freed_layouts s side)) s

-- ---- run

pub record Runs (s : List ℕ) (allowance : ℕ) (answer : Ran) (s' : List ℕ) : Type 0 where
  pub answers : answer ≡ record {
    refusal = told_of s (run_refusal s allowance);
    first = or_zero (run_refusal s allowance) (shown_count s);
    last = or_zero (run_refusal s allowance) (crossings (table_of s) (ran_to s allowance).last);
    turns = or_zero (run_refusal s allowance) (ran_to s allowance).turns;
    settled = or_zero (run_refusal s allowance) (bit (ran_to s allowance).settled);
  }
  pub afterwards : s' ≡ cond (accepted (run_refusal s allowance)) (relaid s (ran_to s allowance).last) s
