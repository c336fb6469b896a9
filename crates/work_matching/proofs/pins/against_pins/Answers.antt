-- `against_pins` meets its contract: some pair of bytes passes the test.
use Rattle.std.proofs.Common.{rules, tests, sym, ◌∙◌}
use Rattle.std.proofs.lemmas.Iterator.{YieldsList-from_slice, YieldsList-from_zip}
use Rattle.std.proofs.lemmas.Iterator.Search.{any_from_yields_List}
use Rattle.work_matching.proofs.RowPins.{against_pins-any, otherwise}
use Rattle.work_matching.proofs.pins.against_pins.Goals as goal

pub returns : goal.returns
returns c =
    let pins = c.args.pins.now in
    let lay = c.args.lay.now in
    any_from_yields_List otherwise c.any.new.self _ _ c.any.ensures.ran
    (YieldsList-from_zip (YieldsList-from_slice pins cc) (YieldsList-from_slice lay cc))
    (λ x b q k. search (rules, tests))
    ∙ sym (against_pins-any pins lay)
