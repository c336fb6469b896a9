-- `table`: what `entries` says of its entries.
use Rattle.std.proofs.Common.{rules}
use Rattle.desk_words.specs.Tables.{signed_in, table_in}
use Rattle.desk_words.proofs.lists.table.Goals as goal

pub returns-clause-says : goal.returns-clause-says
unfolding table_in
returns-clause-says c = c.entries.ensures.says signed_in (λ part r h. search rules)
