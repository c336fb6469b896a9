-- `fixed_entry`: leaves as they are, groups behind them.
use Rattle.std.proofs.Common.{le-ltb, lt-ltb, refl}
use Rattle.newick.specs.Noted.{fixed}
use Rattle.work_newick_reading.proofs.notes.fixed_entry.Goals as goal

pub returns-then-x-lt-FIRST_GROUP : goal.returns-then-x-lt-FIRST_GROUP
unfolding fixed
returns-then-x-lt-FIRST_GROUP c = rw (lt-ltb _ _ c.if-x-lt-FIRST_GROUP.true) refl

pub returns-else-x-lt-FIRST_GROUP : goal.returns-else-x-lt-FIRST_GROUP
unfolding fixed
returns-else-x-lt-FIRST_GROUP c = rw (le-ltb _ _ c.if-x-lt-FIRST_GROUP.false) refl
