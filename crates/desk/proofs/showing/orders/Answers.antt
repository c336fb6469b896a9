-- `orders`: the first word that says nothing, or both lists where they were put.
use Rattle.std.proofs.Common.{arith, length, ◌≤◌}
use Rattle.desk.specs.Orders.{orders_in}
use Rattle.desk.proofs.Ordering.{put_some, rest_long, first_stands, second_stands, no_first, no_second, both_said}
use Rattle.desk.proofs.showing.orders.Goals as goal

pub returns-in_err-side : goal.returns-in_err-side
unfolding orders_in
returns-in_err-side c = rw (c.from_residual.ensures, ← c.word.ensures, ← c.in_err-side.ensures)

pub returns-in_err-a : goal.returns-in_err-a
unfolding orders_in
returns-in_err-a c =
    rw (c.from_residual-in_err-a.ensures, ← c.word-2.ensures) (no_first _ _ _ c.args.xs.now _ c.in_err-a.ensures.says)

pub returns-in_err-b : goal.returns-in_err-b
unfolding orders_in
returns-in_err-b c =
    let first = put_some _ c.args.xs.now _ _ c.in_ok-a.ensures.says in
    let whole = rest_long c.in_ok-a.a c.list.new.out (omega (arith, first.within, c.list.auto.out)) in
    rw (c.from_residual-in_err-b.ensures, ← c.word-2.ensures, ← c.word-3.ensures)
    (no_second _ _ _ _ _ _ _ first.is (omega (arith, first.long, whole, c.list.auto.out)) c.in_err-b.ensures.says)

pub returns : goal.returns
unfolding orders_in
returns c =
    let first = put_some _ c.args.xs.now _ _ c.in_ok-a.ensures.says in
    let second = put_some _ _ _ _ c.in_ok-b.ensures.says in
    let inside : c.in_ok-a.a ≤ length c.list.new.out = omega (arith, first.within, c.list.auto.out) in
    let whole = rest_long c.in_ok-a.a c.list.new.out inside in
    rw (
      ← c.word.ensures,
      ← c.in_ok-side.ensures,
      ← c.word-2.ensures,
      ← c.word-3.ensures,
      c.split_at.ensures.front,
      c.split_at.ensures.back,
      first_stands c.in_ok-a.a c.list.new.out inside _ c.list-2.new.out,
      second_stands c.in_ok-a.a c.list.new.out inside _ c.list-2.new.out c.in_ok-b.b (omega (arith, second.within, c.list-2.auto.out)),
    )
    (both_said _ _ _ _ _ _ first.is second.is (omega (arith, first.long, second.long, first.within, second.within, whole, c.list.auto.out)))
