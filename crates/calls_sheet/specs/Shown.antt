-- What the functions below a line of a sheet do, of an accepted record.
use Rattle.std.specs.Prelude.{ℕ, ◌≡◌, Bool, false, not, cond, List}
use Rattle.tanglegram.specs.Entanglement.{worst}
use Rattle.tanglegram.specs.declared.side.Side.TheVariants.{Left as left, Right as right}
use Rattle.record_fields.specs.Fields.{hold_of, size_of}
use Rattle.record_fields.specs.Refusals.{refusal}
use Rattle.record_arrays.specs.Shown.{shown_displacement}
use Rattle.record_arrays.specs.Sides.{holds}
use Rattle.work_text.specs.Puts.{Puts}
use Rattle.calls_sheet.specs.Lines.{entangled_line}
use Rattle.calls_sheet.specs.Sheet.{ThirdNumber, run_line, after_run, line_of_record}

-- An accepted record with that hold and n.
pub record HeadingOf (s : List ℕ) (hold n : ℕ) : Type 0 where
  pub accepted : refusal s ≡ 0
  pub holds : hold ≡ hold_of s
  pub sized : n ≡ size_of s

-- The `E` line, with its third number.
pub record SaysEntangled (s out : List ℕ) (answer : ℕ) (out' : List ℕ) : Type 0 where
  pub third : ℕ
  pub third_told : ThirdNumber s third
  pub puts : Puts (entangled_line (shown_displacement s) (worst (size_of s)) third) out 0 answer out'

-- The run's first line, and the record after the run.
pub record SaysRun (s out : List ℕ) (answer : ℕ) (out' s' : List ℕ) : Type 0 where
  pub puts : Puts (run_line s) out 0 answer out'
  pub leaves : s' ≡ after_run s

-- Any line of a record.
pub record SaysOf (s : List ℕ) (k : ℕ) (out : List ℕ) (answer : ℕ) (out' : List ℕ) : Type 0 where
  pub third : ℕ
  pub third_told : k ≡ 5 → ThirdNumber s third
  pub puts : Puts (line_of_record s third k) out 0 answer out'

-- Neither side is held.
abbrev pub neither_held : ℕ → Bool
neither_held hold = cond (holds hold left) false (not (holds hold right))
