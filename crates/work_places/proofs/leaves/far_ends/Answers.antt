-- `far_ends` meets its contract: it writes over each link that was copied what the array has for it.
use Rattle.std.proofs.Common.{arith, ap, drop, length-append, length-drop, length-take, take, ◌++◌, ◌∙◌}
use Rattle.work_places.specs.Arrays.{along, at}
use Rattle.work_places.proofs.Arrays.{copied_leaves, copied_along}
use Rattle.work_places.proofs.leaves.far_ends.Goals as goal

pub entries_along-requires : goal.entries_along-requires
entries_along-requires c =
    let a = c.args in
    let links = a.links.now in
    let out = a.out.now in
    rw c.copy_from_slice.ensures.after (
      omega arith,
      omega (arith, length-append (take a.n links) (drop a.n out), length-take a.n links, length-drop a.n out),
      copied_leaves links out a.n (omega arith) c.requires.0 c.requires.2,
    )

pub returns : goal.returns
returns c =
    let a = c.args in
    c.entries_along.ensures
    ∙ ap (λ l. along (at a.places.now) a.n (l ++ drop a.n a.out.now)) c.copy_from_slice.ensures.after
    ∙ copied_along a.links.now a.out.now a.n (omega arith) (at a.places.now)
