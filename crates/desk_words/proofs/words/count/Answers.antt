-- `count`: as many as `split` yields.
use Rattle.std.proofs.Common.{eqb, rules, tests}
use Rattle.std.proofs.lemmas.Iterator.Consumers.{count_from_yields_List}
use Rattle.std.proofs.lemmas.Iterator.Splits.{YieldsList-from_slice_split}
use Rattle.desk_words.proofs.Parting.{parts_split}
use Rattle.desk_words.proofs.words.count.Goals as goal

pub returns : goal.returns
returns c =
    let line = c.args.line.now in
    let split = c.split.ensures in
    rw (parts_split 32 line)
    (count_from_yields_List c.split.result _ c.count.ensures.ran
    (YieldsList-from_slice_split _ (λ b. eqb b 32) line split.rest split.done split.closure (λ x r q k. search (rules, tests))))
