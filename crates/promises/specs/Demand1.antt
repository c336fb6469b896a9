-- Demand 1: "Every call takes any record, list or number, and either answers or refuses as document 01 fixes. A refused call changes no
-- lent byte. A held side is never moved." What is fixed of a call, for every input, is that call's statement (`Orders`,
-- `Frees`, .., in its crate's `specs/Calls`), which the code is proved to meet. ("Document 01" is the customer's; what it fixes is, in
-- words, docs/CALLS.md and docs/RECORD.md.)
use Rattle.promises.specs.Outcomes.{Outcomes}
use Rattle.promises.specs.Results.{Results}
use Rattle.promises.specs.Tests.{Tests}
use Rattle.promises.specs.RefusedCalls.{RefusedCalls}
use Rattle.promises.specs.RowTold.{RowTold}
use Rattle.promises.specs.HeldStays.{HeldStays}
use Rattle.promises.specs.PinnedStays.{PinnedStays}
use Rattle.promises.specs.SetHoldOnly.{SetHoldPromise}
use Rattle.promises.specs.PinOnly.{PinPromise}

pub record Demand1 : Type 0 where
  -- "Every call .. either answers or refuses as .. fixes": each statement has one outcome, for every input.
  pub one_outcome : Outcomes
  -- .. and with it the result that the call answers is fixed: different results come to different answers in numbers.
  pub one_result : Results
  -- And the tests in them say what their words mean.
  pub tests_mean : Tests
  -- "A refused call changes no lent byte", and answers zeros.
  pub refused_keeps : RefusedCalls
  -- A refusal of 7 or 8 says which row is bad.
  pub row_told : RowTold
  -- "A held side is never moved": not by the calls that move sides, nor by setting the hold; nor is a pinned row ever turned over. Pinning
  -- moves nothing.
  pub held_never_moved : HeldStays
  pub pinned_stays : PinnedStays
  pub hold_set_only : SetHoldPromise
  pub pin_only : PinPromise
