-- `take_turns`: the first turn frees the left, and the others come after it.
use Rattle.std.proofs.Common.{rules, ◌∙◌}
use Rattle.tanglegram.proofs.Alternating.{first_turn}
use Rattle.work_turns.proofs.TurnsTaken.{gone_then, lent-back}
use Rattle.work_turns.proofs.running.take_turns.Goals as goal

pub returns : goal.returns
returns c =
    let l = c.counted-left.ensures.value in
    let r = c.counted-right.ensures.value in
    let f = rw (l.0, l.1, r.0, r.1) at c.first_turn-turn.ensures.side_freed in
    let e = gone_then f.in_memory c.go_on.ensures.gone_on in
    lent-back (record {
      first_count = c.go_on.ensures.first ∙ f.counted;
      ran = first_turn _ _ _ c.requires.le_allowance _ _ f.afterwards e.ran;
      in_memory = e.in_memory;
    }) (search rules) (search rules) (search rules) (search rules)
