-- `behind`: no byte, another byte, or the byte.
use Rattle.std.proofs.Common.{arith, refl, sym, ◌∙◌}
use Rattle.work_newick_reading.proofs.Text.{byte_is, no_byte}
use Rattle.work_newick_reading.proofs.digits.Text.behind.Goals as goal

pub returns-in_err-byte_at : goal.returns-in_err-byte_at
returns-in_err-byte_at c =
    let none = no_byte c.args.self.now.bytes.now c.args.at (sym c.in_err-byte_at.was ∙ c.byte_at.ensures) in
    let fits = c.ranges.byte.fits in
    rw c.from_residual.ensures (λ z. omega arith)

pub returns-then-branch-byte : goal.returns-then-branch-byte
returns-then-branch-byte c =
    let is = byte_is c.args.self.now.bytes.now c.args.at _ (sym c.in_ok-byte_at.was ∙ c.byte_at.ensures) in
    λ z. c.if-branch-byte.true (sym is ∙ z)

pub returns : goal.returns
returns c =
    let is = byte_is c.args.self.now.bytes.now c.args.at _ (sym c.in_ok-byte_at.was ∙ c.byte_at.ensures) in
    (is ∙ c.if-branch-byte.false, refl)
