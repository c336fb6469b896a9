-- Rows pinned and unpinned, and hand lists over records with pinned rows: what each comes to, of a case's record under a hold.
use Rattle.std.specs.Prelude.{ℕ, Bool, true, false, cond, List, [], ◌∷◌}
use Rattle.tanglegram.specs.Table.{Layouts}
use Rattle.tanglegram.specs.Examples.{Case, bytes_of, case2, root_pinned, roots_tie, one_leaf}
use Rattle.record_fields.specs.Refused.{accepted}
use Rattle.record_fields.specs.Meaning.{layouts_of}
use Rattle.calls_hands.specs.Refusals.{Hand, hand, hands_refusal}
use Rattle.calls_hands.specs.Calls.{handed}
use Rattle.calls_pins.specs.Refusals.{pin_refusal}
use Rattle.calls_pins.specs.Calls.{pinned_layouts}
use Rattle.promises.specs.Cases.{held_record_of}

-- What a call comes to: its number, and the layouts of the record afterwards.
pub record Laid : Type 0 where
  pub refused : ℕ
  pub afterwards : Layouts

-- ---- pinning

-- A case, a hold, a side, a row, pinned or unpinned; and what comes of it.
pub record PinLine : Type 0 where
  pub from : Case
  pub hold : ℕ
  pub side : ℕ
  pub row : ℕ
  pub pinned : Bool
  pub comes_to : Laid

abbrev pub pin_to : PinLine → Laid
pin_to l =
    let s = held_record_of l.hold l.from in
    let k = pin_refusal s l.side l.row in
    record { refused = k; afterwards = cond (accepted k) (pinned_layouts s l.side l.row l.pinned) (layouts_of s) }

abbrev pin_line : Case → ℕ → ℕ → ℕ → Bool → ℕ → Layouts → PinLine
pin_line g hold side row pinned k at = record {
  from = g;
  hold = hold;
  side = side;
  row = row;
  pinned = pinned;
  comes_to = record { refused = k; afterwards = at };
}

abbrev none : List ℕ
none = 0 ∷ 0 ∷ 0 ∷ []

abbrev pub pin_examples : List PinLine
pin_examples =
    -- case 2's left root pinned; pinned again; unpinned; unpinned though it is not pinned
    pin_line case2 78 1 3 true 0 (bytes_of (0 ∷ 0 ∷ 2 ∷ []) none)
    ∷ pin_line root_pinned 78 1 3 true 0 (bytes_of (0 ∷ 0 ∷ 2 ∷ []) none)
    ∷ pin_line root_pinned 78 1 3 false 0 (bytes_of none none)
    ∷ pin_line case2 78 1 3 false 0 (bytes_of none none)
    -- with its side held, `L`, and with both held, `B`
    ∷ pin_line case2 76 1 3 true 0 (bytes_of (0 ∷ 0 ∷ 2 ∷ []) none)
    ∷ pin_line root_pinned 66 1 3 false 0 (bytes_of none none)
    -- a row that is turned over, unpinned and pinned
    ∷ pin_line (roots_tie (bytes_of (3 ∷ 0 ∷ []) (0 ∷ 3 ∷ []))) 78 2 2 false 0 (bytes_of (3 ∷ 0 ∷ []) (0 ∷ 1 ∷ []))
    ∷ pin_line (roots_tie (bytes_of (1 ∷ 0 ∷ []) (0 ∷ 3 ∷ []))) 78 1 1 true 0 (bytes_of (3 ∷ 0 ∷ []) (0 ∷ 3 ∷ []))
    -- no row: 0, and n; of one leaf, any; no side; and a layout byte above 3, which is told before the row
    ∷ pin_line case2 78 1 0 true 15 (bytes_of none none)
    ∷ pin_line case2 78 2 4 true 15 (bytes_of none none)
    ∷ pin_line (one_leaf 2) 78 1 1 true 15 (bytes_of [] [])
    ∷ pin_line case2 78 3 0 true 13 (bytes_of none none)
    ∷ pin_line (roots_tie (bytes_of (4 ∷ 0 ∷ []) (0 ∷ 0 ∷ []))) 78 1 0 true 10 (bytes_of (4 ∷ 0 ∷ []) (0 ∷ 0 ∷ []))
    ∷ []

-- ---- hand lists

pub record HandLine : Type 0 where
  pub hold : ℕ
  pub hands : List Hand
  pub comes_to : Laid

-- Of case 2 with its left root pinned.
abbrev pub hand_to : HandLine → Laid
hand_to l =
    let s = held_record_of l.hold root_pinned in
    let k = hands_refusal s l.hands in
    record { refused = k; afterwards = cond (accepted k) (handed (layouts_of s) l.hands) (layouts_of s) }

abbrev hand_line : ℕ → List Hand → ℕ → List ℕ → HandLine
hand_line hold hands k left = record {
  hold = hold;
  hands = hands;
  comes_to = record { refused = k; afterwards = bytes_of left none };
}

abbrev pub hand_examples : List HandLine
hand_examples =
    -- a row that is not pinned; the one that is; both, in either order
    hand_line 78 (hand 1 2 ∷ []) 0 (0 ∷ 1 ∷ 2 ∷ [])
    ∷ hand_line 78 (hand 1 3 ∷ []) 22 (0 ∷ 0 ∷ 2 ∷ [])
    ∷ hand_line 78 (hand 1 2 ∷ hand 1 3 ∷ []) 22 (0 ∷ 0 ∷ 2 ∷ [])
    ∷ hand_line 78 (hand 1 3 ∷ hand 1 2 ∷ []) 22 (0 ∷ 0 ∷ 2 ∷ [])
    -- twice over it would come back, and is refused
    ∷ hand_line 78 (hand 1 3 ∷ hand 1 3 ∷ []) 22 (0 ∷ 0 ∷ 2 ∷ [])
    -- on a held side it is 11; the first bad entry decides
    ∷ hand_line 76 (hand 1 3 ∷ []) 11 (0 ∷ 0 ∷ 2 ∷ [])
    ∷ hand_line 82 (hand 1 3 ∷ []) 22 (0 ∷ 0 ∷ 2 ∷ [])
    ∷ hand_line 78 (hand 1 3 ∷ hand 3 1 ∷ []) 22 (0 ∷ 0 ∷ 2 ∷ [])
    ∷ hand_line 78 (hand 3 1 ∷ hand 1 3 ∷ []) 13 (0 ∷ 0 ∷ 2 ∷ [])
    ∷ hand_line 78 (hand 1 4 ∷ hand 1 3 ∷ []) 15 (0 ∷ 0 ∷ 2 ∷ [])
    ∷ []
