-- `cut`: by the place of the first stop.
use Rattle.std.proofs.Common.{arith, length-take-le, refl, rules, sym}
use Rattle.desk_words.proofs.Parting.{cut_none, cut_at, found_at}
use Rattle.desk_words.proofs.words.cut.Goals as goal

pub returns-in-Some : goal.returns-in-Some
returns-in-Some c = let a = c.args in cut_at a.stop a.s.now c.in-Some.to _ c.in-Some.ensures refl

pub returns-in-None : goal.returns-in-None
returns-in-None c = let a = c.args in cut_none a.stop a.s.now c.in-None.ensures

pub slice_bounds-result-end : goal.slice_bounds-result-end
slice_bounds-result-end c =
    let within = found_at _ _ _ c.in-Some.ensures in
    sym (length-take-le _ _ (omega arith))

pub overflow_add-result : goal.overflow_add-result
overflow_add-result c = let within = found_at _ _ _ c.in-Some.ensures in search rules

pub slice_bounds-result-count : goal.slice_bounds-result-count
slice_bounds-result-count c = let within = found_at _ _ _ c.in-Some.ensures in omega arith

pub slice_bounds-result-start : goal.slice_bounds-result-start
slice_bounds-result-start c = let within = found_at _ _ _ c.in-Some.ensures in search rules
