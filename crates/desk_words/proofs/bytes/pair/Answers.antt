-- `pair`: by the two digits.
use Rattle.std.proofs.Common.{arith, ◌∙◌}
use Rattle.desk_words.proofs.Reading.{within_some}
use Rattle.desk_words.proofs.Digits.{byte_no_first, byte_no_second, byte_both}
use Rattle.desk_words.proofs.bytes.pair.Goals as goal

pub returns-in_err-a : goal.returns-in_err-a
returns-in_err-a c = let a = c.args in c.from_residual.ensures ∙ byte_no_first a.high a.low c.in_err-a.ensures

pub returns-in_err-b : goal.returns-in_err-b
returns-in_err-b c = let a = c.args in c.from_residual-in_err-b.ensures ∙ byte_no_second a.high a.low c.in_err-b.ensures

pub overflow_mul-result : goal.overflow_mul-result
overflow_mul-result c =
    let a = within_some 15 _ _ c.in_ok-a.ensures in
    omega arith

pub overflow_add-result : goal.overflow_add-result
overflow_add-result c =
    let a = within_some 15 _ _ c.in_ok-a.ensures in
    let b = within_some 15 _ _ c.in_ok-b.ensures in
    omega arith

pub returns : goal.returns
returns c = let a = c.args in byte_both a.high a.low _ _ c.in_ok-a.ensures c.in_ok-b.ensures
