-- `list`: what `entries` says of its entries.
use Rattle.std.proofs.Common.{rules}
use Rattle.desk_words.specs.Numbers.{number_in}
use Rattle.desk_words.specs.Lists.{list_in}
use Rattle.desk_words.proofs.lists.list.Goals as goal

pub returns-clause-says : goal.returns-clause-says
unfolding list_in
returns-clause-says c = c.entries.ensures.says (number_in 65535) (λ part r h. search rules)
