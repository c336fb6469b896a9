use Rattle.std.proofs.Common.{sym, ◌∙◌}
use Rattle.work_newick_reading.proofs.DigitLaws.{digit-same, digits_start, digits_step, digits-stop, digits-ended, leaf-said}
use Rattle.work_newick_reading.proofs.digits.Text.digits_from.Goals.{then-loop-end-test+else-is_ascii_digit, else-loop-end-test}
use Rattle.work_newick_reading.proofs.digits.Text.digits_from.Goals as goal

pub loop-end-init : goal.loop-end-init
loop-end-init c = digits_start _ _ c.requires.within

pub loop-end-preserved : goal.loop-end-preserved
loop-end-preserved c =
    let w = c.with_digit-x.ensures in
    digits_step _ _ _ _ _ c.loop-end.invariant c.loop-end-test.true
    (sym (c.is_ascii_digit.ensures.value ∙ digit-same _) ∙ c.if-is_ascii_digit.true) w.value w.value_2

pub returns : goal.returns
returns c =
    rw (c.then_some.ensures, leaf-said c.loop-end.x)
    (elim c.loop-end-test.branch [
      | then-loop-end-test+else-is_ascii_digit w ↦
          digits-stop _ _ _ _ c.loop-end.invariant w.loop-end-test.true
          (sym (w.is_ascii_digit.ensures.value ∙ digit-same _) ∙ w.if-is_ascii_digit.false)
      | else-loop-end-test w ↦ digits-ended _ _ _ _ c.loop-end.invariant w.loop-end-test.false
    ])
