-- `entries`: the entries of the parts that are not left stand in the first places.
use Rattle.std.proofs.Common.{ℕ, List, Option, length, ◌≡◌, ◌≤◌}
use Rattle.std.specs.Fn.{FnReturnsAt}
use Rattle.desk_words.proofs.Listing.{Listed, length_of}
use Rattle.desk_words.proofs.lists.entries.Given as goal

abbrev pub invariant-loop-rest : goal.invariant-loop-rest
invariant-loop-rest g l =
    (l.n ≤ length l.out)
    × ((said : List ℕ → Option g.row.T.Denot)
    → ((part : List ℕ) (r : Option g.row.T.Denot) → FnReturnsAt g.F.Fn l.entry part r → r ≡ said part)
    → Listed said l.word l.rest l.initial.out l.n l.out)

abbrev pub decreases-loop-rest : goal.decreases-loop-rest
decreases-loop-rest g l = length_of l.rest
