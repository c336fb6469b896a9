-- `compare`: where nothing is refused, both orders can be counted, and the smaller of the two counts decides.
use Rattle.std.proofs.lemmas.Result.{err_from_is_err_and}
use Rattle.calls_better.proofs.Compared.{Ready, ready, compare-refused, compare-first, compare_second}
use Rattle.calls_better.proofs.comparing.compare.Goals.{In_ok-side}
use Rattle.calls_better.proofs.comparing.compare.Goals as goal

at-start : (c : In_ok-side) → let a = c.args in Ready a.s.now c.in_ok-side.n c.in_ok-side.side a.first.now a.second.now
at-start c = let h = c.in_ok-side.ensures.says in ready _ _ _ _ h.0 h.1 h.2

pub returns-in_err-side : goal.returns-in_err-side
returns-in_err-side c =
    let p = err_from_is_err_and c.from_residual.result c.from_residual.ensures.1 in
    rw (p.1, p.2) (compare-refused _ _ _ _ _ c.in_err-side.ensures.tells)

pub count_with-a-requires-clause-record_over : goal.count_with-a-requires-clause-record_over
count_with-a-requires-clause-record_over c = (at-start c).given

pub count_with-a-requires-clause-proposed : goal.count_with-a-requires-clause-proposed
count_with-a-requires-clause-proposed c = (at-start c).good-first

pub count_with-b-requires-clause-record_over : goal.count_with-b-requires-clause-record_over
count_with-b-requires-clause-record_over c = let at = goal.at.count_with-b-requires-clause-record_over c in (at-start at.In_ok-side).given

pub count_with-b-requires-clause-proposed : goal.count_with-b-requires-clause-proposed
count_with-b-requires-clause-proposed c = let at = goal.at.count_with-b-requires-clause-proposed c in (at-start at.In_ok-side).good_second

pub returns-then-b-a : goal.returns-then-b-a
returns-then-b-a c =
    let h = c.in_ok-side.ensures.says in
    compare_second _ _ _ _ h.0 h.1 h.2 c.count_with-a.ensures c.count_with-b.ensures c.if-b-a.true

pub returns-else-b-a : goal.returns-else-b-a
returns-else-b-a c =
    let h = c.in_ok-side.ensures.says in
    compare-first _ _ _ _ h.0 h.1 h.2 c.count_with-a.ensures c.count_with-b.ensures c.if-b-a.false
