use Rattle.std.proofs.Common.{ap, arith, length, refl, sym, ◌+◌, ◌*◌, ◌∙◌, ◌≡◌}
use Rattle.std.specs.List.{swap}
use Rattle.work_trees.specs.Exchange.{exchanged_to}
use Rattle.work_trees.proofs.Exchanged.{exchanged_to-turned, exchanged_to-given, exchanged_to-all}
use Rattle.work_trees.proofs.turning.exchange.Goals as goal
use Rattle.work_trees.proofs.turning.exchange.Goals.{then-is_turned, else-is_turned}

pub loop-i-init : goal.loop-i-init
unfolding exchanged_to
loop-i-init c = refl

pub loop-i-preserved : goal.loop-i-preserved
loop-i-preserved c =
    let T = c.args.rows.now in
    let y = c.args.lay.now in
    let l = c.loop-i in
    let r = c.is_turned.ensures in
    elim c.if-is_turned.branch [
      | then-is_turned w ↦
          w.rows-is ∙ w.swap.ensures.after ∙ ap (λ R. swap R (2 * l.i) (2 * l.i + 1)) l.invariant
          ∙ sym (exchanged_to-turned T y l.i (omega arith) (sym r ∙ w.if-is_turned.true))
      | else-is_turned w ↦ w.rows-is ∙ l.invariant ∙ sym (exchanged_to-given T y l.i (sym r ∙ w.if-is_turned.false))
    ]

pub returns : goal.returns
returns c =
    let l = c.loop-i in
    let e : l.i ≡ length c.args.lay.now = omega arith in
    l.invariant ∙ ap (exchanged_to c.args.rows.now c.args.lay.now) e
    ∙ exchanged_to-all c.args.rows.now c.args.lay.now c.requires.lay_len
