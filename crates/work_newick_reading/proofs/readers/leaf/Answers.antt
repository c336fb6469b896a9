-- `leaf`: no digit from 1 to 9; or digits, which are noted, and the length behind them.
use Rattle.std.proofs.Common.{arith, sym, ◌∙◌}
use Rattle.work_newick_reading.proofs.Text.{byte_is, no_byte}
use Rattle.work_newick_reading.proofs.ReaderLaws.{leaf-other, digits_further, leaf-read}
use Rattle.work_newick_reading.proofs.readers.leaf.Goals as goal

pub returns-in_err-first : goal.returns-in_err-first
returns-in_err-first c =
    let none = no_byte c.args.text.now.bytes.now c.args.at (sym c.in_err-first.was ∙ c.byte_at.ensures) in
    rw (c.from_residual.ensures, leaf-other c.args.text.now.bytes.now c.args.at (λ p q. omega arith)) tt

pub returns-then-not-begins_number : goal.returns-then-not-begins_number
returns-then-not-begins_number c =
    let is = byte_is c.args.text.now.bytes.now c.args.at _ (sym c.in_ok-first.was ∙ c.byte_at.ensures) in
    let other = c.if-not-begins_number.true in
    rw (leaf-other c.args.text.now.bytes.now c.args.at (λ p q. let z = c.begins_number.ensures.1 (omega arith, omega arith) in cc)) tt

pub length_end-requires : goal.length_end-requires
length_end-requires c =
    let text = c.args.text.now.bytes.now in
    let is = byte_is text c.args.at _ (sym c.in_ok-first.was ∙ c.byte_at.ensures) in
    let d = c.begins_number.ensures.0 c.if-not-begins_number.false in
    let f = digits_further text c.args.at (omega arith) (omega arith) _ _ c.digits_from-number.ensures in
    (omega arith, record { within = c.digits_from-number.ensures.ends.within; in_memory = c.requires.0.in_memory })

pub returns : goal.returns
returns c =
    let text = c.args.text.now.bytes.now in
    let is = byte_is text c.args.at _ (sym c.in_ok-first.was ∙ c.byte_at.ensures) in
    let d = c.begins_number.ensures.0 c.if-not-begins_number.false in
    rw c.note_leaf.ensures
    (leaf-read text c.args.at (omega arith) (omega arith) c.args.notes.now c.requires.1 _ _ _ c.digits_from-number.ensures
    c.length_end.ensures)
