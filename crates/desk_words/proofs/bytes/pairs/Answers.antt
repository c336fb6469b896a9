-- `pairs`: by the two tests.
use Rattle.desk_words.proofs.Pairing.{pairs_empty, pairs_odd, pairs_even}
use Rattle.desk_words.proofs.bytes.pairs.Goals as goal
use Rattle.desk_words.proofs.bytes.pairs.Goals.{then-digits-eq0-via-then-digits-eq0, then-digits-eq0-via-else-digits-eq0+then-digits-eq1}

pub returns-then-digits-eq0 : goal.returns-then-digits-eq0
returns-then-digits-eq0 c =
    elim c.then-digits-eq0.branch [
      | then-digits-eq0-via-then-digits-eq0 w ↦ pairs_empty c.args.digits w.if-digits-eq0.true
      | then-digits-eq0-via-else-digits-eq0+then-digits-eq1 w ↦ pairs_odd c.args.digits w.if-digits-eq0.false w.if-digits-eq1.true
    ]

pub returns : goal.returns
returns c = pairs_even c.args.digits c.if-digits-eq0.false c.if-digits-eq1.false
