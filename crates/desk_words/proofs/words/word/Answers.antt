-- `word`: what `nth` says of the parts that `split` yields.
use Rattle.std.proofs.Common.{eqb, rules, tests, sym, [], Some, None}
use Rattle.std.proofs.lemmas.Iterator.Consumers.{nth_from_yields_List}
use Rattle.std.proofs.lemmas.Iterator.Splits.{YieldsList-from_slice_split}
use Rattle.std.proofs.lemmas.Option.{get_or_from_slice_get}
use Rattle.desk_words.specs.Words.{word_in}
use Rattle.desk_words.proofs.Parting.{parts_split, past_the_end}
use Rattle.desk_words.proofs.words.word.Goals as goal

pub returns-in-Some : goal.returns-in-Some
unfolding word_in
returns-in-Some c =
    let line = c.args.line.now in
    let split = c.split.ensures in
    let here = nth_from_yields_List (Some c.in-Some.word) c.nth.new.self c.args.k c.in-Some.ensures.ran
    (YieldsList-from_slice_split _ (λ b. eqb b 32) line split.rest split.done split.closure (λ x r q k. search (rules, tests))) in
    rw (parts_split 32 line) (sym (get_or_from_slice_get _ c.args.k c.in-Some.word.now [] (sym here)))

pub returns-in-None : goal.returns-in-None
unfolding word_in
returns-in-None c =
    let line = c.args.line.now in
    let split = c.split.ensures in
    let here = nth_from_yields_List None c.nth.new.self c.args.k c.in-None.ensures.ran
    (YieldsList-from_slice_split _ (λ b. eqb b 32) line split.rest split.done split.closure (λ x r q k. search (rules, tests))) in
    rw (parts_split 32 line) (past_the_end _ c.args.k [] here)
