-- `go_on`: what the turns still to take come to is what the run comes to.
use Rattle.tanglegram.specs.Table.{crossings, free}
use Rattle.work_trees.specs.Rows.{size}
use Rattle.work_linked_trees.specs.Memory.{here, InMemory}
use Rattle.work_linked_trees.specs.Sides.{AtHand, layouts_in, SameArrays, tree_in}
use Rattle.tanglegram.proofs.Alternating.{RunUnderWay}
use Rattle.work_turns.proofs.running.go_on.Given as goal

abbrev pub invariant-loop-taken : goal.invariant-loop-taken
invariant-loop-taken l =
    let t = tree_in l.initial.left in
    let u = tree_in l.initial.right in
    let n = size l.initial.left.rows.now in
    let T = here t u n l.links in
    let first = layouts_in l.initial.left l.initial.right in
    let now = layouts_in l.left l.right in
    record {
      in_memory : InMemory t u n l.links l.left.rows.now l.left.lay.now l.right.rows.now l.right.lay.now;
      at_hand : AtHand l.side l.left l.right;
      left_arrays : SameArrays l.initial.left l.left;
      right_arrays : SameArrays l.initial.right l.right;
      run : RunUnderWay (crossings T) (free T) l.allowance first now l.last l.taken l.side;
    }
