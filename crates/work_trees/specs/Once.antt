-- A row array is good, and has its leaf counts, in one way at most: what a ghost field asks of a fact.
use Rattle.std.specs.Prelude.{ℕ, List, [], ◌∷◌, ◌≢◌}
use Rattle.std.specs.Coded.{×_prop, →_prop, Unit-prop}
use mathlib.Core.HLevel.{⊥_prop}
use Rattle.std.proofs.Props.{props}
use Rattle.tanglegram.specs.Lists.{Each}

pub other_than-prop : (x : ℕ) (ks : List ℕ) → IsProp (Each (λ k. x ≢ k) ks)
other_than-prop x [] = Unit-prop
other_than-prop x (k ∷ ks) = ×_prop (→_prop ⊥_prop) (other_than-prop x ks)

pub ruleset once = (other_than-prop, props)
