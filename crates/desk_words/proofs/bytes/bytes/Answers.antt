-- `bytes`: two digits by two, each pair's byte put in its place.
use Rattle.std.proofs.Common.{arith, sym, ◌∙◌, ◌≡◌}
use Rattle.desk_words.proofs.Pairing.{paired_none, paired_more, paired_bad, paired_all, pair_none, pair_narrow, dash-said}
use Rattle.desk_words.proofs.Filling.{puts_empty}
use Rattle.desk_words.proofs.bytes.bytes.Goals as goal

pub returns-then-is_dash-clause-says : goal.returns-then-is_dash-clause-says
returns-then-is_dash-clause-says c =
    let a = c.args in
    puts_empty a.out.now (dash-said a.word.now (sym c.is_dash.ensures ∙ c.if-is_dash.true))

pub returns-in_err-n-clause-says : goal.returns-in_err-n-clause-says
returns-in_err-n-clause-says c =
    let a = c.args in
    let other = sym c.is_dash.ensures ∙ c.if-is_dash.false in
    rw c.from_residual.ensures (pair_none a.word.now a.out.now a.out.now other c.in_err-n.ensures)

pub returns-then-out-n-clause-says : goal.returns-then-out-n-clause-says
returns-then-out-n-clause-says c =
    let a = c.args in
    let other = sym c.is_dash.ensures ∙ c.if-is_dash.false in
    pair_narrow a.word.now _ a.out.now a.out.now other c.in_ok-n.ensures (omega arith)

pub loop-i-init : goal.loop-i-init
loop-i-init c =
    let a = c.args in
    let other = sym c.is_dash.ensures ∙ c.if-is_dash.false in
    paired_none a.word.now a.out.now _ other c.in_ok-n.ensures (omega arith)

pub returns-clause-says : goal.returns-clause-says
returns-clause-says c =
    let a = c.args in
    let l = c.loop-i in
    let end : l.i ≡ c.in_ok-n.n = omega arith in
    paired_all a.word.now a.out.now c.in_ok-n.n l.out (rw end at l.invariant)

pub returns-in_err-out-clause-says : goal.returns-in_err-out-clause-says
returns-in_err-out-clause-says c =
    let a = c.args in
    let l = c.loop-i in
    rw c.from_residual-in_err-out.ensures
    (paired_bad a.word.now a.out.now _ l.i l.out (omega arith) l.invariant c.in_err-out.ensures)

pub loop-i-preserved : goal.loop-i-preserved
loop-i-preserved c =
    let a = c.args in
    let l = c.loop-i in
    paired_more a.word.now a.out.now _ l.i l.out (omega arith) l.invariant _ c.in_ok-out.ensures
