use Rattle.std.proofs.Common.{ℕ, List, arith, ap, sym, length, get_or, ◌∙◌, ◌≡◌, ◌<◌}
use Rattle.work_text.proofs.Spaced.{spaced_start, spaced-room, spaced-next, spaced-end}
use Rattle.work_text.proofs.lines.put_spaced.Goals as goal

-- The number put is the one at the place looked at.
number_here : {A : Type 0} (value : A → ℕ) (ys : List ℕ) (xs : List A) (i : ℕ) {w : ℕ} (x : A) → w ≡ value x → x ≡ get_or xs i x
    → get_or ys i 0 ≡ value (get_or xs i x) → w ≡ get_or ys i 0
number_here value ys xs i x e is law = e ∙ ap value is ∙ sym law

pub loop-x-init : goal.loop-x-init
loop-x-init g c = spaced_start c.requires

pub put_next-end-requires : goal.put_next-end-requires
put_next-end-requires g c =
    let T = g.T.Number in
    let xs = c.args.xs.now in
    let l = c.loop-x in
    let here : l.x-index < length (T.values xs) = omega (arith, g.met.T.Number.as_long xs) in
    let law = g.met.T.Number.in_order xs l.x-index c.x-item.result (omega arith) in
    let same = number_here T.value (T.values xs) xs l.x-index _ c.wide.ensures c.x-item.is law in
    rw same (spaced-room l.invariant here c.requires)

pub loop-x-preserved : goal.loop-x-preserved
loop-x-preserved g c =
    let T = g.T.Number in
    let xs = c.args.xs.now in
    let l = c.loop-x in
    let here : l.x-index < length (T.values xs) = omega (arith, g.met.T.Number.as_long xs) in
    let law = g.met.T.Number.in_order xs l.x-index c.x-item.result (omega arith) in
    let same = number_here T.value (T.values xs) xs l.x-index _ c.wide.ensures c.x-item.is law in
    spaced-next l.invariant here (rw same at c.put_next-end.ensures)

pub returns : goal.returns
returns g c = spaced-end c.loop-x.invariant (omega (arith, g.met.T.Number.as_long c.args.xs.now))
