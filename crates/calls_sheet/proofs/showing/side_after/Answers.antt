-- `side_after`: a run is made exactly if neither side is held.
use Rattle.std.proofs.Common.{ap, sym, ◌∙◌}
use Rattle.calls_sheet.specs.Shown.{neither_held}
use Rattle.calls_sheet.proofs.Asked.{run-free, none-put}
use Rattle.calls_sheet.proofs.showing.side_after.Goals as goal

pub returns-then-is_free : goal.returns-then-is_free
returns-then-is_free c =
    let h = c.requires.0 in
    let free = run-free c.args.s.now h.accepted ∙ ap neither_held (sym h.holds) in
    rw (free ∙ sym c.is_free.ensures ∙ c.if-is_free.true) c.side_line.ensures

pub returns : goal.returns
returns c =
    let h = c.requires.0 in
    let free = run-free c.args.s.now h.accepted ∙ ap neither_held (sym h.holds) in
    rw (free ∙ sym c.is_free.ensures ∙ c.if-is_free.false) none-put
