-- `one_to_one` marks each link in turn: what is marked are the links passed.
use Rattle.std.proofs.Common.{◌≡◌, replicate, take}
use Rattle.record_contents.specs.Marks.{marking_all}
use Rattle.record_contents.proofs.links.one_to_one.Given as goal

abbrev pub invariant-loop-i : goal.invariant-loop-i
invariant-loop-i g l = l.seen ≡ marking_all l.n (replicate 8 0) (take l.i (g.T.Numbers.list l.links))
