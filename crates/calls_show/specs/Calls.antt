-- What each call that shows a record answers, and what was lent to it is afterwards, for every input.
use Rattle.std.specs.Prelude.{ℕ, ◌≤◌, ◌≡◌, ◌≢◌, cond, List, eqb, Float, pos}
use Rattle.std.proofs.Math.Option.{Option, some, none}
use Rattle.std.specs.Float.{binary64}
use Rattle.std.specs.Float.Ieee.{div, of_int}
use Rattle.tanglegram.specs.Entanglement.{worst, Thousandths}
use Rattle.record_fields.specs.Fields.{size_of}
use Rattle.record_fields.specs.Refusals.{refusal}
use Rattle.record_fields.specs.Refused.{NumberAndRow, refused, accepted, lent, or_zero}
use Rattle.record_fields.specs.Told.{told_of}
use Rattle.record_arrays.specs.Sides.{side_of}
use Rattle.record_arrays.specs.Shown.{shown_order, shown_count, shown_displacement}
use Rattle.calls_show.specs.Answers.{Counted}
use Rattle.calls_show.specs.Answers.{SquaredEntanglement}
use Rattle.calls_show.specs.Answers.{Ratio, NoRatio, Refused}
use Rattle.calls_show.specs.InThousandths.{InThousandths}
use Rattle.calls_show.specs.InThousandths as in_thousandths
use Rattle.calls_show.specs.Refusals.{order_refusal}

-- ---- order, count, pairs

pub record Orders (s : List ℕ) (side : ℕ) (out : List ℕ) (answer : NumberAndRow) (out' : List ℕ) : Type 0 where
  pub answers : answer ≡ told_of s (order_refusal s side out)
  pub afterwards : out' ≡ lent (order_refusal s side out) (shown_order s (side_of side)) out

pub record Counts (s : List ℕ) (answer : Counted) : Type 0 where
  pub answers : answer ≡ record { refusal = told_of s (refusal s); count = or_zero (refusal s) (shown_count s) }

-- ---- squared entanglement

unfoldable pub ratio : ℕ → ℕ → Float
ratio d w = div binary64 (of_int binary64 (pos d)) (of_int binary64 (pos w))

unfoldable pub squared_entanglement : List ℕ → SquaredEntanglement
unfolding refusal ratio
squared_entanglement s =
    cond (accepted (refusal s))
    (cond (eqb (size_of s) 1) NoRatio
    (Ratio (shown_displacement s) (worst (size_of s)) (ratio (shown_displacement s) (worst (size_of s)))))
    (Refused (told_of s (refusal s)))

-- The refusal, D, W and the ratio or none, for each case.
abbrev pub squared_refusal : SquaredEntanglement → NumberAndRow
squared_refusal (Ratio d w x) = refused 0
squared_refusal NoRatio = refused 0
squared_refusal (Refused r) = r

abbrev pub displaced_in : SquaredEntanglement → ℕ
displaced_in (Ratio d w x) = d
displaced_in NoRatio = 0
displaced_in (Refused r) = 0

abbrev pub worst_in : SquaredEntanglement → ℕ
worst_in (Ratio d w x) = w
worst_in NoRatio = 0
worst_in (Refused r) = 0

abbrev pub ratio_in : SquaredEntanglement → Option Float
ratio_in (Ratio d w x) = some x
ratio_in NoRatio = none
ratio_in (Refused r) = none

pub record SquaredEntangles (s : List ℕ) (answer : SquaredEntanglement) : Type 0 where
  pub answers : answer ≡ squared_entanglement s

-- ---- entanglement in thousandths

-- Which answer a record has: k, if it has two leaves or more; no ratio, if it has one; its refusal, if it is refused.
abbrev pub ThousandthsOf : List ℕ → InThousandths → Type 0
ThousandthsOf s (in_thousandths.Ratio k) =
    (refusal s ≡ 0) × (2 ≤ size_of s) × Thousandths (shown_displacement s) (worst (size_of s)) k
ThousandthsOf s in_thousandths.NoRatio = (refusal s ≡ 0) × (size_of s ≡ 1)
ThousandthsOf s (in_thousandths.Refused r) = (refusal s ≢ 0) × (r ≡ told_of s (refusal s))

-- The refusal, and k or none, for each case.
abbrev pub thousandths_refusal : InThousandths → NumberAndRow
thousandths_refusal (in_thousandths.Ratio k) = refused 0
thousandths_refusal in_thousandths.NoRatio = refused 0
thousandths_refusal (in_thousandths.Refused r) = r

abbrev pub thousandths_in : InThousandths → Option ℕ
thousandths_in (in_thousandths.Ratio k) = some k
thousandths_in in_thousandths.NoRatio = none
thousandths_in (in_thousandths.Refused r) = none

pub record TellsThousandths (s : List ℕ) (answer : InThousandths) : Type 0 where
  pub answers : ThousandthsOf s answer
