use Rattle.std.proofs.Common.{arith, length-set, refl, ◌≡◌}
use Rattle.desk_words.proofs.Spelt.{spelt_none, spelt_more}
use Rattle.desk_words.proofs.spelling.spelled.Goals as goal

pub loop-k-init : goal.loop-k-init
loop-k-init c = (refl, spelt_none c.args.s.now)

pub loop-k-preserved : goal.loop-k-preserved
loop-k-preserved c =
    let a = c.args in
    let l = c.loop-k in
    let more = spelt_more a.s.now l.text l.k _ _ (omega arith) (omega arith) c.hex_digit.ensures
    c.hex_digit-in-loop-k.ensures l.invariant.1 in
    (simp length-set l.invariant.0, more)

pub returns : goal.returns
returns c =
    let a = c.args in
    let l = c.loop-k in
    let end : a.n ≡ l.k = omega arith in
    rw end l.invariant.1
