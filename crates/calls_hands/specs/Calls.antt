-- What a hand list answers, and what the lent record is afterwards, for every input.
use Rattle.std.specs.Prelude.{ℕ, ◌≡◌, cond, List, [], ◌∷◌}
use Rattle.tanglegram.specs.Order.{turn_row}
use Rattle.tanglegram.specs.Table.{Layouts, layout, put}
use Rattle.record_fields.specs.Refused.{NumberAndRow, accepted}
use Rattle.record_fields.specs.Told.{told_of}
use Rattle.record_fields.specs.Meaning.{layouts_of, relaid}
use Rattle.record_arrays.specs.Sides.{side_of}
use Rattle.calls_hands.specs.Refusals.{Hand, hands_refusal}

-- ---- hands: each entry turns one row over, entry after entry

unfoldable pub handed : Layouts → List Hand → Layouts
handed at [] = at
handed at (h ∷ hs) = handed (put (side_of h.side) (turn_row (layout at (side_of h.side)) h.row) at) hs

pub record Hands (s : List ℕ) (hands : List Hand) (answer : NumberAndRow) (s' : List ℕ) : Type 0 where
  pub answers : answer ≡ told_of s (hands_refusal s hands)
  pub afterwards : s' ≡ cond (accepted (hands_refusal s hands)) (relaid s (handed (layouts_of s) hands)) s
