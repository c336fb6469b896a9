-- `pin_as`: the loop's invariant is that the rows before row i + 1 are pinned as asked, and those from there on are to be.
use Rattle.std.proofs.Common.{drop, take, ◌++◌, ◌≡◌}
use Rattle.tanglegram.specs.Order.{pinned_as}
use Rattle.work_matching.proofs.pins.pin_as.Given as goal

abbrev pub invariant-loop-i : goal.invariant-loop-i
invariant-loop-i l = pinned_as l.pins l.initial.lay ≡ take l.i l.lay ++ pinned_as (drop l.i l.pins) (drop l.i l.lay)
