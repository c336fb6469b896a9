-- `holds`: each hold's letter holds what the hold does.
use Rattle.record_fields.proofs.Holds.{none-held, both-held}
use Rattle.record_fields.proofs.hold.Hold.holds.Goals as goal

pub returns-in-Neither : goal.returns-in-Neither
returns-in-Neither c = rw c.in-Neither.is (none-held c.args.side)

pub returns-in-Both : goal.returns-in-Both
returns-in-Both c = rw c.in-Both.is (both-held c.args.side)
