-- `no_size` says whether n is 0 or above 512.
use Rattle.std.proofs.Common.{eq-eqb, ne_eqb}
use Rattle.record_fields.specs.Refusals.{no_size}
use Rattle.record.proofs.heading.no_size.Goals as goal

pub returns-then-n-eq0 : goal.returns-then-n-eq0
unfolding no_size
returns-then-n-eq0 c = simp (eq-eqb _ _ c.if-n-eq0.true)

pub returns-else-n-eq0 : goal.returns-else-n-eq0
unfolding no_size
returns-else-n-eq0 c = simp (ne_eqb _ _ c.if-n-eq0.false)
