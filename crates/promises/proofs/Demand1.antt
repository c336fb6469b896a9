-- Demand 1, from what is proved of the calls.
use Rattle.promises.specs.Demand1.{Demand1}
use Rattle.promises.proofs.Outcomes.{outcomes}
use Rattle.promises.proofs.Results.{results}
use Rattle.promises.proofs.Tests.{tests}
use Rattle.promises.proofs.RefusedCalls.{refused-calls}
use Rattle.promises.proofs.RowTold.{row_told}
use Rattle.promises.proofs.HeldStays.{held_stays}
use Rattle.promises.proofs.PinnedStays.{pinned_stays}
use Rattle.promises.proofs.SetHoldOnly.{set-hold-only}
use Rattle.promises.proofs.PinOnly.{pin_only}

pub demand1 : Demand1
demand1 = record {
  one_outcome = outcomes;
  one_result = results;
  tests_mean = tests;
  refused_keeps = refused-calls;
  row_told = row_told;
  held_never_moved = held_stays;
  pinned_stays = pinned_stays;
  hold_set_only = set-hold-only;
  pin_only = pin_only;
}
