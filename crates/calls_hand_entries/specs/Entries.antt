-- A lent entry of a hand list, and the hand that it is.
use Rattle.calls_hand_entries.specs.declared.hand_entries.HandEntry.{HandEntry}
use Rattle.calls_hands.specs.Refusals.{Hand, hand}
pub use Rattle.calls_hands.specs.Entries.{narrow}

abbrev pub hand_in : HandEntry → Hand
hand_in e = hand e.side e.row
