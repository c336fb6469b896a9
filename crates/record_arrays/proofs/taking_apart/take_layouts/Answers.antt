-- `take_layouts`: each layout is its side's.
use Rattle.std.proofs.Common.{ap₂}
use Rattle.work_linked_trees.specs.Memory.{layouts_from}
use Rattle.record_arrays.proofs.taking_apart.take_layouts.Goals as goal

pub returns : goal.returns
returns c =
    ap₂ layouts_from c.fill_layout.ensures c.fill_layout-2.ensures
