-- `note_places` meets its contract. The loop's invariant: each leaf has its first place among the entries from i on.
use Rattle.work_trees.proofs.Places.{PlacesNoted}
use Rattle.work_trees.proofs.noting.note_places.Given as goal

abbrev pub invariant-loop-i : goal.invariant-loop-i
invariant-loop-i l = PlacesNoted l.xs l.n l.at l.i
