-- `find`: what `position` says, in the words of the statement.
use Rattle.std.proofs.Common.{eqb, rules, tests}
use Rattle.std.proofs.lemmas.Iterator.{YieldsList-from_slice}
use Rattle.std.proofs.lemmas.Iterator.Search.{position_from_yields_List}
use Rattle.desk_words.specs.Words.{stop_in}
use Rattle.desk_words.proofs.Parting.{stop_found}
use Rattle.desk_words.proofs.words.find.Goals as goal

pub returns : goal.returns
unfolding stop_in
returns c =
    let a = c.args in
    rw (stop_found a.stop a.s.now)
    (position_from_yields_List (λ b. eqb b a.stop) _ _ _ c.position.ensures.ran (YieldsList-from_slice a.s.now cc)
    (λ x b q k. search (rules, tests)))
