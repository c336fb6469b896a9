-- `hands`: what `entries` says of its entries.
use Rattle.std.proofs.Common.{rules}
use Rattle.desk_words.specs.Lists.{hand_said, hands_in}
use Rattle.desk_words.proofs.lists.hands.Goals as goal

pub returns-clause-says : goal.returns-clause-says
unfolding hands_in
returns-clause-says c = c.entries.ensures.says hand_said (λ part r h. search rules)
