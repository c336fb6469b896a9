-- `close_one`: the row is noted where there is room for it.
use Rattle.work_newick_reading.proofs.NotesView.{closed-many, closed-noted}
use Rattle.work_newick_reading.proofs.notes.Notes.close_one.Goals as goal

pub returns-then-closed-lt-MOST_ROWS : goal.returns-then-closed-lt-MOST_ROWS
returns-then-closed-lt-MOST_ROWS c =
    let s = c.self.inside in
    rw (← c.self.view_is, c.from-at.ensures)
    (closed-noted s.rows s.closed s.last s.open c.args.first c.self.told c.if-closed-lt-MOST_ROWS.true)

pub returns-else-closed-lt-MOST_ROWS : goal.returns-else-closed-lt-MOST_ROWS
returns-else-closed-lt-MOST_ROWS c =
    let s = c.self.inside in
    rw (← c.self.view_is) (closed-many s.rows s.closed s.last s.open c.args.first c.self.told c.if-closed-lt-MOST_ROWS.false)
