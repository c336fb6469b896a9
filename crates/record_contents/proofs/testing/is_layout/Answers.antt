-- `is_layout`: each byte is at most 3.
use Rattle.std.proofs.Common.{rules, tests, ◌∙◌}
use Rattle.std.proofs.lemmas.Iterator.{YieldsList-from_slice}
use Rattle.std.proofs.lemmas.Iterator.Search.{all_from_yields_List}
use Rattle.std.specs.Prelude.{leb}
use Rattle.record_contents.proofs.Layouts.{layout-all}
use Rattle.record_contents.proofs.testing.is_layout.Goals as goal

pub returns : goal.returns
returns c =
    all_from_yields_List (λ x. leb x 3) _ _ c.all.result c.all.ensures.ran (YieldsList-from_slice c.args.bytes.now cc)
    (λ x b q k. search (rules, tests))
    ∙ layout-all c.args.bytes.now
