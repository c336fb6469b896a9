-- `is_row`: both tests against the definition.
use Rattle.std.proofs.Common.{eq-eqb}
use Rattle.record_arrays.proofs.OneRow.{no_row_0, row_below}
use Rattle.record_arrays.proofs.rows.is_row.Goals as goal

pub returns-then-row-ne0 : goal.returns-then-row-ne0
returns-then-row-ne0 c = row_below _ _ c.if-row-ne0.true

pub returns-else-row-ne0 : goal.returns-else-row-ne0
returns-else-row-ne0 c = let zero = c.if-row-ne0.false in rw (eq-eqb _ _ zero) (no_row_0 _ _ zero)
