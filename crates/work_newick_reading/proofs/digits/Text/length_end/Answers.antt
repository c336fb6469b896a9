-- `length_end`: no colon, or one and what follows it.
use Rattle.std.proofs.Common.{arith, sym, ◌∙◌}
use Rattle.work_newick_reading.proofs.Text.{byte_is, no_byte, place-behind}
use Rattle.work_newick_reading.proofs.LengthLaws.{length_none, length_colon}
use Rattle.work_newick_reading.proofs.digits.Text.length_end.Goals as goal

pub returns-in_default : goal.returns-in_default
returns-in_default c =
    let text = c.args.self.now.bytes.now in
    let is = byte_is text c.args.at _ c.in_default.ensures in
    length_none text c.args.at c.requires.1.within (λ z. c.in_default.field-0-test.1 (sym is ∙ z))

pub returns-in_default-2 : goal.returns-in_default-2
returns-in_default-2 c =
    let text = c.args.self.now.bytes.now in
    let none = no_byte text c.args.at (sym c.in_default.is ∙ c.byte_at.ensures) in
    length_none text c.args.at c.requires.1.within (λ z. absurd (omega arith))

pub length_behind-requires : goal.length_behind-requires
length_behind-requires c =
    let text = c.args.self.now.bytes.now in
    let is = byte_is text c.args.at _ (sym c.in-Some-eq58.is ∙ c.byte_at.ensures) in
    place-behind text c.args.at 58 c.requires.1 (is ∙ c.in-Some-eq58.field-0-test) (omega arith)

pub returns : goal.returns
returns c =
    let text = c.args.self.now.bytes.now in
    let is = byte_is text c.args.at _ (sym c.in-Some-eq58.is ∙ c.byte_at.ensures) in
    length_colon text c.args.at (is ∙ c.in-Some-eq58.field-0-test) _ c.length_behind.ensures
