-- `signed`: by the dash in front, and the number that the digits say.
use Rattle.std.proofs.Common.{arith, ap, ◌∙◌, Some}
use Rattle.std.proofs.lemmas.Int.{ints}
use Rattle.desk_words.proofs.Reading.{bounded}
use Rattle.desk_words.proofs.Signing.{dash_told, dash_none, bare_told, bare_none, narrowed, widened}
use Rattle.desk_words.proofs.tables.signed.Goals as goal

pub returns-in_err-x-in-Some : goal.returns-in_err-x-in-Some
returns-in_err-x-in-Some c =
    let h = c.in-Some.ensures.cases in
    rw c.from_residual.ensures (dash_none c.args.word.now c.in-Some.digits.now h.0 h.1 c.in_err-x-in-Some.ensures)

pub overflow_cast-result : goal.overflow_cast-result
overflow_cast-result c =
    let h = bounded 2147483648 _ _ c.in_ok-x-in-Some.ensures in
    omega (arith, ints)

pub returns-in_ok-x-in-Some : goal.returns-in_ok-x-in-Some
returns-in_ok-x-in-Some c =
    let h = c.in-Some.ensures.cases in
    let x = c.in_ok-x-in-Some.x in
    ap Some (narrowed x c.from.result c.from.ensures (bounded 2147483648 _ _ c.in_ok-x-in-Some.ensures))
    ∙ dash_told c.args.word.now c.in-Some.digits.now x h.0 h.1 c.in_ok-x-in-Some.ensures

pub returns-in_err-x-in-None : goal.returns-in_err-x-in-None
returns-in_err-x-in-None c =
    rw c.from_residual-in_err-x-in-None.ensures (bare_none c.args.word.now c.in-None.ensures.cases c.in_err-x-in-None.ensures)

pub overflow_cast-result-in-None : goal.overflow_cast-result-in-None
overflow_cast-result-in-None c =
    let h = bounded 2147483647 _ _ c.in_ok-x-in-None.ensures in
    omega (arith, ints)

pub returns-in_ok-x-in-None : goal.returns-in_ok-x-in-None
returns-in_ok-x-in-None c =
    let x = c.in_ok-x-in-None.x in
    ap Some (widened x (bounded 2147483647 _ _ c.in_ok-x-in-None.ensures))
    ∙ bare_told c.args.word.now x c.in-None.ensures.cases c.in_ok-x-in-None.ensures
