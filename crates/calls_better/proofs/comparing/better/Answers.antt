-- `better`: the part that the answer of `compare` means.
use Rattle.std.proofs.Common.{ap, arith, length-take-le, sym}
use Rattle.calls_better.specs.Answers.{number_for}
use Rattle.calls_better.proofs.Compared.{part_first, part_second, better-first, better_second}
use Rattle.calls_better.proofs.comparing.better.Goals as goal

pub slice_bounds-result-end : goal.slice_bounds-result-end
slice_bounds-result-end c =
    let e = ap number_for c.in-First.is in
    sym (length-take-le _ _ (part_first _ _ _ _ c.in-Ok.ensures (λ z. omega (arith, e, z))).0)

pub returns-in-First : goal.returns-in-First
returns-in-First c =
    let e = ap number_for c.in-First.is in
    better-first _ _ _ _ c.in-Ok.ensures (λ z. omega (arith, e, z))

pub slice_bounds-result-end-in-Second : goal.slice_bounds-result-end-in-Second
slice_bounds-result-end-in-Second c =
    sym (length-take-le _ _ (part_second _ _ _ _ c.in-Ok.ensures (ap number_for c.in-Second.is)).0)

pub returns-in-Second : goal.returns-in-Second
returns-in-Second c = better_second _ _ _ _ c.in-Ok.ensures (ap number_for c.in-Second.is)

pub returns-in-Err : goal.returns-in-Err
returns-in-Err c = better-first _ _ _ _ c.in-Err.ensures (λ z. omega (arith, z))
