-- `lend`: a call that is lent no bytes has no such word; any other is lent those that its word says.
use Rattle.std.proofs.Common.{refl}
use Rattle.desk_words.proofs.Filling.{puts_empty}
use Rattle.desk.specs.Calls.{lent_in}
use Rattle.desk.proofs.lend.Goals as goal

pub returns-in-Some-clause-says : goal.returns-in-Some-clause-says
unfolding lent_in
returns-in-Some-clause-says c = rw (← c.in-Some.ensures, ← c.word.ensures) c.bytes.ensures.says

pub returns-in-None-clause-says : goal.returns-in-None-clause-says
unfolding lent_in
returns-in-None-clause-says c = rw (← c.in-None.ensures) (puts_empty c.args.s.now refl)
