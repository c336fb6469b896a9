-- `put_spaced`: what is put so far is `SpacedSoFar`.
use Rattle.work_text.proofs.Spaced.{SpacedSoFar}
use Rattle.work_text.proofs.lines.put_spaced.Given as goal

abbrev pub invariant-loop-x : goal.invariant-loop-x
invariant-loop-x g l = SpacedSoFar (g.T.Number.values l.xs) l.initial.out l.at l.x-index l.end l.out
