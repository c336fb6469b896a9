use Rattle.std.proofs.Common.{ap, arith, sym, replicate, take, take_all, ◌∙◌, ◌≡◌}
use Rattle.work_seen_places.specs.Seen.{all_before}
use Rattle.work_trees.proofs.Stores.{take_more}
use Rattle.record_contents.specs.Marks.{marking_all}
use Rattle.record_contents.proofs.Marks.{all-marked, marking-last}
use Rattle.record_contents.proofs.links.one_to_one.Goals as goal

pub loop-i-init : goal.loop-i-init
unfolding marking_all
loop-i-init g c = c.new-seen.ensures

pub loop-i-preserved : goal.loop-i-preserved
loop-i-preserved g c =
    let n = c.args.n in
    let l = c.loop-i in
    let xs = g.T.Numbers.list c.args.links.now in
    c.mark_link.ensures
    ∙ rw (l.invariant, c.number.ensures) (sym (marking-last n (take l.i xs) (replicate 8 0) _))
    ∙ ap (marking_all n (replicate 8 0)) (sym (take_more xs l.i 0 (omega arith)))

pub returns : goal.returns
returns g c =
    let n = c.args.n in
    let xs = g.T.Numbers.list c.args.links.now in
    c.all_before.ensures
    ∙ ap (λ w. all_before w n) (c.loop-i.invariant ∙ ap (marking_all n (replicate 8 0)) (take_all c.loop-i.i xs (omega arith)))
    ∙ all-marked n c.requires.0 xs
