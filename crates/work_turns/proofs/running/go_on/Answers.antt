-- `go_on`: each turn frees the side that the run has next, from the trees as given.
use Rattle.std.proofs.Common.{arith, ◌<◌, ◌∙◌, ◌≡◌}
use Rattle.work_trees.specs.Rows.{size}
use Rattle.work_linked_trees.specs.Memory.{SideFreed}
use Rattle.work_linked_trees.specs.Sides.{layouts_in, tree_in}
use Rattle.work_linked_trees.proofs.SideFreed.{freed_then}
use Rattle.tanglegram.proofs.Alternating.{turning_gain, turning_stop, turning_end}
use Rattle.work_turns.proofs.running.go_on.Goals.{After-take_turn-turn}
use Rattle.work_turns.proofs.running.go_on.Goals as goal

turn-freed : (c : After-take_turn-turn) →
    let l = c.loop-taken in
    let r = c.take_turn-turn in
    SideFreed (tree_in c.args.left.now) (tree_in c.args.right.now) (size c.args.left.now.rows.now) c.args.links.now l.side
    (layouts_in l.left l.right) r.result.before r.result.after r.new.left.rows.now r.new.left.lay.now r.new.right.rows.now
    r.new.right.lay.now
turn-freed c = freed_then c.loop-taken.invariant.in_memory c.take_turn-turn.ensures.side_freed

pub returns-then-turn-last-clause-gone_on : goal.returns-then-turn-last-clause-gone_on
returns-then-turn-last-clause-gone_on c =
    let f = turn-freed (goal.at.returns-then-turn-last-clause-gone_on c).After-take_turn-turn in
    let within : c.loop-taken.taken < c.args.allowance = c.loop-taken-test.true in
    record {
      ran = turning_stop _ _ _ _ _ _ _ _ c.loop-taken.invariant.run within _ f.afterwards _ _ f.counted f.recounted c.if-turn-last.true;
      in_memory = f.in_memory;
    }

pub loop-taken-preserved : goal.loop-taken-preserved
loop-taken-preserved c =
    let f = turn-freed (goal.at.loop-taken-preserved c).After-take_turn-turn in
    let within : c.loop-taken.taken < c.args.allowance = c.loop-taken-test.true in
    let i = c.loop-taken.invariant in
    let e = c.take_turn-turn.ensures in
    let left_was = i.left_arrays in
    let left_is = e.left_arrays in
    let right_was = i.right_arrays in
    let right_is = e.right_arrays in
    record {
      in_memory = f.in_memory;
      at_hand = rw c.other-side.ensures e.order_at_hand_2;
      left_arrays = (left_is.0 ∙ left_was.0, left_is.1 ∙ left_was.1, left_is.2 ∙ left_was.2, left_is.3 ∙ left_was.3);
      right_arrays = (right_is.0 ∙ right_was.0, right_is.1 ∙ right_was.1, right_is.2 ∙ right_was.2, right_is.3 ∙ right_was.3);
      run =
          rw c.other-side.ensures
          (turning_gain _ _ _ _ _ _ _ _ i.run within _ f.afterwards _ _ f.counted f.recounted c.if-turn-last.false);
    }

pub returns-clause-gone_on : goal.returns-clause-gone_on
returns-clause-gone_on c =
    let i = c.loop-taken.invariant in
    let all : c.loop-taken.taken ≡ c.args.allowance = let w = i.run.within in omega arith in
    record {
      ran = rw all at (turning_end _ _ _ _ _ _ _ _ i.run c.loop-taken-test.false);
      in_memory = i.in_memory;
    }
