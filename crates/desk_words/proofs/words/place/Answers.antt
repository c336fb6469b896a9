-- `place`: what `position` says of the parts that `split` yields.
use Rattle.std.proofs.Common.{eqb, rules, tests}
use Rattle.std.proofs.lemmas.Iterator.Search.{position_from_yields_List}
use Rattle.std.proofs.lemmas.Iterator.Splits.{YieldsList-from_slice_split}
use Rattle.std.specs.Cmp.Lexicographic.{pointwise}
use Rattle.desk_words.specs.Words.{placed}
use Rattle.desk_words.proofs.Parting.{parts_split, name_found}
use Rattle.desk_words.proofs.words.place.Goals as goal

pub returns : goal.returns
unfolding placed
returns c =
    let line = c.args.line.now in
    let name = c.args.name.now in
    let split = c.split.ensures in
    rw (name_found name _, parts_split 32 line)
    (position_from_yields_List (λ w. pointwise eqb w name) _ _ _ c.position.ensures.ran
    (YieldsList-from_slice_split _ (λ b. eqb b 32) line split.rest split.done split.closure (λ x r q k. search (rules, tests)))
    (λ x b q k. search (rules, tests)))
