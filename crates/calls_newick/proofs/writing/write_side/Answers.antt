-- `write_side`: the side's rows as its layout lays them out have the side's text.
use Rattle.std.proofs.Common.{ap, arith, length, ◌∙◌, ◌≡◌}
use lib.Seq.{sets}
use Rattle.calls_newick.specs.Refusals.{written_text}
use Rattle.calls_newick.proofs.SideWritten.{laid-text, laid-fits}
use Rattle.calls_newick.proofs.Outcomes.{side_no_room, side-written}
use Rattle.calls_newick.proofs.writing.write_side.Goals as goal

pub returns-then-out-length : goal.returns-then-out-length
returns-then-out-length c k same =
    let text = laid-text _ _ c.fill_side.ensures k same in
    let long : c.length-length.result ≡ length (written_text c.args.s.now k) = c.length-length.ensures ∙ ap length text in
    side_no_room _ _ _ (omega (arith, long, c.if-out-length.true))

pub overflow_cast-result : goal.overflow_cast-result
overflow_cast-result c = omega (arith, c.length-length.ensures, laid-fits _ _ c.fill_side.ensures c.requires)

pub returns : goal.returns
returns c k same =
    let text = laid-text _ _ c.fill_side.ensures k same in
    let long : c.length-length.result ≡ length (written_text c.args.s.now k) = c.length-length.ensures ∙ ap length text in
    side-written _ _ _ long (omega (arith, long, c.if-out-length.false)) (c.write.ensures ∙ ap (sets c.args.out.now 0) text)
