-- The customer: "The same row twice comes back to where it was." For every hand list that is not refused.
use Rattle.std.specs.Prelude.{ℕ, ◌≡◌, List, [], ◌∷◌}
use Rattle.record_fields.specs.Refused.{NumberAndRow}
use Rattle.record_fields.specs.Meaning.{layouts_of, relaid}
use Rattle.calls_hands.specs.Refusals.{Hand}
use Rattle.calls_hands.specs.Calls.{Hands, handed}

pub record HandsTwice : Type 0 where
  -- An entry twice and no other: the record is as it was.
  pub alone : (s : List ℕ) (h : Hand) (answer : NumberAndRow) (s' : List ℕ) → Hands s (h ∷ h ∷ []) answer s' → s' ≡ s
  -- Before other entries: what those make of the record.
  pub before_others : (s : List ℕ) (h : Hand) (hands : List Hand) (answer : NumberAndRow) (s' : List ℕ) →
      Hands s (h ∷ h ∷ hands) answer s' → answer.number ≡ 0 → s' ≡ relaid s (handed (layouts_of s) hands)
