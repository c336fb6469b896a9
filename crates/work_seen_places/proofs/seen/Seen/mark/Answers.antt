-- `mark` meets its contract: the shift makes the digit of the place.
use Rattle.std.proofs.Common.{ap, arith, bit_or, get_or, set, ℕ, ◌%◌, ◌/◌, ◌∙◌}
use Rattle.work_seen_places.specs.Seen.{mark_at}
use Rattle.work_seen_places.proofs.Words.{one_shl}
use Rattle.work_seen_places.proofs.seen.Seen.mark.Goals as goal

pub returns : goal.returns
unfolding mark_at
returns c =
    let w = c.self.inside.words in
    let p = c.args.p in
    ap (λ (x : ℕ). set w (p / 64) (bit_or (get_or w (p / 64) 0) x)) (one_shl (p % 64) (omega arith))
    ∙ ap (λ w. mark_at w p) c.self.view_is
