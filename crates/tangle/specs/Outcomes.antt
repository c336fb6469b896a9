-- The customer: "For every input, refusals too, a public call's statement determines its answer and the final content of what was
-- lent to it. Prove that any two outcomes satisfying it are equal." Here for the calls for C.
use Rattle.std.specs.Prelude.{ℕ, List, ℤ}
use Rattle.record_fields.specs.Fields.{Parts}
use Rattle.record_fields.specs.Fixes.{Fixes, FixesBoth}
use Rattle.calls_hands.specs.Refusals.{Hand}
use Rattle.tangle.specs.declared.answers.TangleUnpack.{TangleUnpack}
use Rattle.tangle.specs.ForC.{ChecksForC, OrdersForC, SetsHoldForC, PinsForC, HandsForC, BetterChecksForC, PacksForC, CountsForC}
use Rattle.tangle.specs.ForC.{SquaredEntanglesForC, TellsThousandthsForC, FreesForC, RunsForC, ComparesForC, TakesInForC, UnpacksForC}
use Rattle.tangle.specs.ForC.{NewickReadsForC, NewickWritesForC, MergeReadsForC, MergeWritesForC}

-- What unpacking comes to: its answer, and what is in the five buffers afterwards.
pub record UnpackOutcomeForC : Type 0 where
  pub answer : TangleUnpack
  pub left : List ℕ
  pub right : List ℕ
  pub links : List ℕ
  pub left_layout : List ℕ
  pub right_layout : List ℕ

abbrev pub UnpacksToForC : List ℕ → List ℕ → List ℕ → List ℕ → List ℕ → List ℕ → UnpackOutcomeForC → Type 0
UnpacksToForC s left right links left_layout right_layout o =
    UnpacksForC s left right links left_layout right_layout
    o.answer o.left o.right o.links o.left_layout o.right_layout

pub record OutcomesForC : Type 0 where
  pub check : (s : List ℕ) → Fixes (ChecksForC s)
  pub order : (s : List ℕ) (side : ℕ) (out : List ℕ) → FixesBoth (OrdersForC s side out)
  -- Of count and of pairs, and of one against the other.
  pub count : (s : List ℕ) → Fixes (CountsForC s)
  pub squared_entanglement : (s : List ℕ) → Fixes (SquaredEntanglesForC s)
  pub thousandths : (s : List ℕ) → Fixes (TellsThousandthsForC s)
  pub free : (s : List ℕ) (side : ℕ) → FixesBoth (FreesForC s side)
  pub run : (s : List ℕ) (allowance : ℕ) → FixesBoth (RunsForC s allowance)
  pub hands : (s : List ℕ) (hands : List Hand) → FixesBoth (HandsForC s hands)
  pub better : (s : List ℕ) (side : ℕ) (first second : List ℕ) → Fixes (ComparesForC s side first second)
  pub better_check : (s : List ℕ) (side : ℕ) (first second : List ℕ) → Fixes (BetterChecksForC s side first second)
  pub take_in : (s : List ℕ) (side : ℕ) (xs out : List ℕ) → FixesBoth (TakesInForC s side xs out)
  pub hold : (s : List ℕ) (letter : ℕ) → FixesBoth (SetsHoldForC s letter)
  pub pin : (s : List ℕ) (side row pin : ℕ) → FixesBoth (PinsForC s side row pin)
  pub pack : (P : Parts) (out : List ℕ) → FixesBoth (PacksForC P out)
  pub unpack : (s left right links left_layout right_layout : List ℕ) → Fixes (UnpacksToForC s left right links left_layout right_layout)
  pub newick_read : (text out : List ℕ) → FixesBoth (NewickReadsForC text out)
  pub newick_write : (s : List ℕ) (side : ℕ) (out : List ℕ) → FixesBoth (NewickWritesForC s side out)
  pub merge_read : (n : ℕ) (table : List ℤ) (out : List ℕ) → FixesBoth (MergeReadsForC n table out)
  pub merge_write : (s : List ℕ) (side : ℕ) (out : List ℤ) → FixesBoth (MergeWritesForC s side out)
