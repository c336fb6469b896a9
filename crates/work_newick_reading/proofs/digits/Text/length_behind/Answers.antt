-- `length_behind`: digits; or digits, a point and digits.
use Rattle.std.proofs.Common.{refl}
use Rattle.work_newick_reading.proofs.LengthLaws.{whole_length, pointed-length}
use Rattle.work_newick_reading.proofs.digits.Text.length_behind.Goals as goal

pub returns-in_default : goal.returns-in_default
returns-in_default c =
    rw c.then_some.ensures
    (whole_length c.args.self.now.bytes.now c.args.from _ _ c.digits_from-whole.ensures c.in_default.ensures _ refl)

pub returns : goal.returns
returns c =
    let p = c.in-Some.ensures in
    rw c.then_some-2.ensures
    (pointed-length c.args.self.now.bytes.now c.args.from _ _ c.digits_from-whole.ensures p.0 _ _
    (rw p.1 at c.digits_from-end.ensures) _ refl)
