-- Demand 1: "A refused call changes no lent byte. A held side is never moved." For the calls that may change a record's layouts,
-- in every outcome; they change layout bytes only, and an accepted record is accepted again.
use Rattle.std.specs.Prelude.{ℕ, ◌≡◌, true, List, length, take}
use Rattle.tanglegram.specs.declared.side.Side.{Side}
use Rattle.tanglegram.specs.Table.{layout}
use Rattle.record_fields.specs.Refused.{NumberAndRow}
use Rattle.record_fields.specs.Fields.{hold_of, size_of, left_layout_at, parts}
use Rattle.record_fields.specs.Refusals.{refusal}
use Rattle.record_fields.specs.Meaning.{table_of, layouts_of}
use Rattle.calls_turns.specs.Answers.{Freed}
use Rattle.calls_turns.specs.Answers.{Ran}
use Rattle.record_arrays.specs.Sides.{holds}
use Rattle.record_arrays.specs.Shown.{shown_order}
use Rattle.calls_hands.specs.Refusals.{Hand}
use Rattle.calls_turns.specs.Calls.{Frees, Runs}
use Rattle.calls_hands.specs.Calls.{Hands}

-- s' shows the trees and links of s, and is accepted if s is.
pub record SameTrees (s s' : List ℕ) : Type 0 where
  pub same_size : size_of s' ≡ size_of s
  pub same_trees : (side : Side) → (table_of s').tree side ≡ (table_of s).tree side
  pub same_links : (parts s').links ≡ (parts s).links
  pub accepted_again : refusal s ≡ 0 → refusal s' ≡ 0

-- s' has the bytes of s but for layout bytes, and of a held side those too; so a held side's leaf order stays.
pub record Keeps (s s' : List ℕ) : Type 0 where
  pub same_length : length s' ≡ length s
  pub same_front : take (left_layout_at (size_of s)) s' ≡ take (left_layout_at (size_of s)) s
  pub same_hold : hold_of s' ≡ hold_of s
  pub same_trees : SameTrees s s'
  pub held_stays : (side : Side) → holds (hold_of s) side ≡ true → layout (layouts_of s') side ≡ layout (layouts_of s) side
  pub held_order : (side : Side) → holds (hold_of s) side ≡ true → shown_order s' side ≡ shown_order s side

pub record HeldStays : Type 0 where
  pub free : (s : List ℕ) (side : ℕ) (answer : Freed) (s' : List ℕ) → Frees s side answer s' → Keeps s s'
  pub run : (s : List ℕ) (allowance : ℕ) (answer : Ran) (s' : List ℕ) → Runs s allowance answer s' → Keeps s s'
  pub hands : (s : List ℕ) (hands : List Hand) (answer : NumberAndRow) (s' : List ℕ) → Hands s hands answer s' → Keeps s s'
