-- `free_rows` meets its contract. The loop's invariant: the rows before `row` are decided, in the array and in the layout, the others are
-- as they were, and for the objects below n + row it is noted where the far places under them stand.
use Rattle.std.proofs.Common.{◌+◌}
use Rattle.tanglegram.specs.Crossings.{inverted}
use Rattle.work_trees.specs.Rows.{size}
use Rattle.work_places.specs.Arrays.{at}
use Rattle.work_freeing.proofs.Counted.{LinksNoted}
use Rattle.work_freeing.proofs.Freed.{FreedTo}
use Rattle.work_freeing.proofs.rows.free_rows.Given as goal

abbrev pub invariant-loop-row : goal.invariant-loop-row
invariant-loop-row l =
    FreedTo (inverted (at l.far)) l.initial.rows l.initial.lay l.rows l.lay l.row l.before l.after
    × LinksNoted l.far l.initial.rows l.seen l.from l.many (size l.initial.rows + l.row)
