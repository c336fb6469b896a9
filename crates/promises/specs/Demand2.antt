-- Demand 2: "Orders and crossings are those of the published tanglegram definition. With one side standing, the freed side gets the
-- fewest crossings that any choice of its turnings could give, and a branching is turned only if that makes its own crossings fewer.
-- Parts packed into a record are read out the same, and a record read and packed gives the same bytes." For every input that the call does not refuse.
use Rattle.std.specs.Prelude.{ℕ, ◌<◌, ◌≡◌, true, ◌↔◌, ◌⊎◌, List, take}
use Rattle.tanglegram.specs.Tree.{EachRow}
use Rattle.tanglegram.specs.Order.{order, Compatible, byte, flip, turn_row, may_change}
use Rattle.tanglegram.specs.Crossings.{count}
use Rattle.tanglegram.specs.declared.side.Side.{Side}
use Rattle.tanglegram.specs.declared.side.Side.TheVariants.{Left as left, Right as right}
use Rattle.tanglegram.specs.Run.{other}
use Rattle.tanglegram.specs.Table.{layout, put, Least}
use Rattle.record_fields.specs.Refused.{NumberAndRow}
use Rattle.record_fields.specs.Fields.{size_of, parts}
use Rattle.record_fields.specs.Meaning.{table_of, layouts_of}
use Rattle.record_arrays.specs.Sides.{side_of}
use Rattle.record_arrays.specs.Shown.{shown_order, shown_count, own_crossings}
use Rattle.calls_show.specs.Answers.{Counted}
use Rattle.calls_show.specs.Calls.{Orders, Counts}
use Rattle.calls_turns.specs.Answers.{Freed}
use Rattle.calls_turns.specs.Calls.{Frees}
use Rattle.promises.specs.RoundTrip.{RoundTrip}

-- What freeing a side of s, which becomes s', keeps.
pub record FreeKeeps (s : List ℕ) (side : Side) (s' : List ℕ) : Type 0 where
  -- "the freed side gets the fewest crossings that any choice of its turnings could give", of those that agree with the pinned rows.
  pub fewest : Least (table_of s') side (layouts_of s')
  -- "a branching is turned only if that makes its own crossings fewer": exactly if it may change, which a pinned one may not, and, of the
  -- pairs of leaves with one under each of its children, fewer cross with this row turned over.
  pub turned_exactly : EachRow (λ i u l.
      (byte (layout (layouts_of s') side) i ≡ flip (byte (layout (layouts_of s) side) i)) ↔
      ((may_change (byte (layout (layouts_of s) side) i) ≡ true) ×
      (own_crossings s (put side (turn_row (layout (layouts_of s) side) i) (layouts_of s)) side u l < own_crossings s (layouts_of s) side u l)))
      ((table_of s).tree side)
  -- A row that is not turned keeps its byte.
  pub turned_or_kept : EachRow (λ i u l.
      (byte (layout (layouts_of s') side) i ≡ flip (byte (layout (layouts_of s) side) i)) ⊎
      (byte (layout (layouts_of s') side) i ≡ byte (layout (layouts_of s) side) i)) ((table_of s).tree side)
  -- "With one side standing".
  pub other_stands : layout (layouts_of s') (other side) ≡ layout (layouts_of s) (other side)

pub record Demand2 : Type 0 where
  -- "Orders .. are those of the published tanglegram definition": the one that the side's layout gives, and compatible with its tree.
  pub order_given : (s : List ℕ) (side : ℕ) (out : List ℕ) (answer : NumberAndRow) (out' : List ℕ) →
      Orders s side out answer out' → answer.number ≡ 0 →
      (take (size_of s) out' ≡ order (layout (layouts_of s) (side_of side)) ((table_of s).tree (side_of side))) ×
      Compatible ((table_of s).tree (side_of side)) (take (size_of s) out')
  -- ".. and crossings": a count, by seen places or pair by pair, is the number of pairs of links that cross.
  pub count_published : (s : List ℕ) (answer : Counted) → Counts s answer → answer.refusal.number ≡ 0 →
      answer.count ≡ count (size_of s) (parts s).links (shown_order s left) (shown_order s right)
  -- So are the two counts that freeing answers.
  pub freed_counts : (s : List ℕ) (side : ℕ) (answer : Freed) (s' : List ℕ) → Frees s side answer s' → answer.refusal.number ≡ 0 →
      (answer.before ≡ shown_count s) × (answer.after ≡ shown_count s')
  -- What freeing does.
  pub freed_keeps : (s : List ℕ) (side : ℕ) (answer : Freed) (s' : List ℕ) → Frees s side answer s' → answer.refusal.number ≡ 0 →
      FreeKeeps s (side_of side) s'
  -- "Parts packed into a record are read out the same, and a record read and packed gives the same bytes."
  pub round_trip : RoundTrip
