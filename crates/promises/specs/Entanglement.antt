-- The customer: "The answer is either a ratio, D divided by W as one 64-bit float division of two exact whole numbers, or 'no ratio'
-- when n = 1." And in the fifth request for changes: "Entanglement in thousandths is the largest whole k with k·k·W at most 1,000,000·D, so
-- example 4 gives 948; n = 1 has 'no ratio'. The old float stays and is called squared entanglement." For every record that is not refused.
use Rattle.std.specs.Prelude.{ℕ, suc, ◌*◌, ◌≤◌, ◌<◌, ◌≡◌, ◌↔◌, false, List, pos}
use Rattle.std.proofs.Math.Option.{some, none}
use Rattle.std.specs.Float.{binary64}
use Rattle.std.specs.Float.Ieee.{div, of_int}
use Rattle.std.specs.Float.Ieee.Exact.{HasValue}
use Rattle.tanglegram.specs.Entanglement.{worst, Thousandths}
use Rattle.record_fields.specs.Fields.{size_of}
use Rattle.record_arrays.specs.Shown.{shown_displacement}
use Rattle.calls_show.specs.Answers.{SquaredEntanglement}
use Rattle.calls_show.specs.InThousandths.{InThousandths}
use Rattle.calls_show.specs.Calls.{SquaredEntangles, squared_refusal, displaced_in, worst_in, ratio_in}
use Rattle.calls_show.specs.Calls.{TellsThousandths, thousandths_refusal, thousandths_in}

-- ---- squared

-- A whole number is a 64-bit float without loss: the float has its value.
abbrev pub Exact : ℕ → Type 0
Exact x = HasValue (of_int binary64 (pos x)) false x 1

pub record SquaredKeeps (s : List ℕ) (answer : SquaredEntanglement) : Type 0 where
  -- D is the links' displacement, at most W; W = n(n² - 1)/3 is at most 44,739,072. Both are exact as floats.
  pub displaced : displaced_in answer ≡ shown_displacement s
  pub worst_value : worst_in answer ≡ worst (size_of s)
  pub no_worse : displaced_in answer ≤ worst_in answer
  pub bounded : worst_in answer ≤ 44739072
  pub exact : Exact (displaced_in answer) × Exact (worst_in answer)
  -- One leaf has no ratio; more have D divided by W.
  pub one_leaf : size_of s ≡ 1 → ratio_in answer ≡ none
  pub divided : 2 ≤ size_of s →
      ratio_in answer ≡ some (div binary64 (of_int binary64 (pos (displaced_in answer))) (of_int binary64 (pos (worst_in answer))))

-- ---- in thousandths

-- What a k says of D and W.
pub record Root (d w k : ℕ) : Type 0 where
  -- It is the largest whole number with k·k·W at most 1,000,000·D: so the next one is above.
  pub largest : Thousandths d w k
  pub next_above : 1000000 * d < suc k * suc k * w
  -- It is at most 1,000, and 1,000 exactly at the worst; 0 where nothing is displaced, and exactly if 1,000,000·D is below W.
  pub at_most : k ≤ 1000
  pub worst_exactly : (k ≡ 1000) ↔ (d ≡ w)
  pub zero_exactly : (k ≡ 0) ↔ (1000000 * d < w)
  pub nothing_displaced : d ≡ 0 → k ≡ 0

pub record ThousandthsKeeps (s : List ℕ) (answer : InThousandths) : Type 0 where
  -- There is no ratio exactly if there is one leaf; otherwise k is that of D and W.
  pub no_ratio : (thousandths_in answer ≡ none) ↔ (size_of s ≡ 1)
  pub root : (k : ℕ) → thousandths_in answer ≡ some k → Root (shown_displacement s) (worst (size_of s)) k

-- The two answers of one record: refused alike; a ratio in both or in neither; and k is that of the D and W in the other.
pub record Beside (squared : SquaredEntanglement) (answer : InThousandths) : Type 0 where
  pub same_refusal : thousandths_refusal answer ≡ squared_refusal squared
  pub same_ratio : (thousandths_in answer ≡ none) ↔ (ratio_in squared ≡ none)
  pub root : (k : ℕ) → thousandths_in answer ≡ some k → Thousandths (displaced_in squared) (worst_in squared) k

pub record Entanglement : Type 0 where
  pub squared : (s : List ℕ) (answer : SquaredEntanglement) → SquaredEntangles s answer → (squared_refusal answer).number ≡ 0 →
      SquaredKeeps s answer
  pub thousandths : (s : List ℕ) (answer : InThousandths) → TellsThousandths s answer → (thousandths_refusal answer).number ≡ 0 →
      ThousandthsKeeps s answer
  pub both : (s : List ℕ) (squared : SquaredEntanglement) (answer : InThousandths) → SquaredEntangles s squared →
      TellsThousandths s answer → Beside squared answer
