-- `number`: digit by digit, what is read so far is the value of the digits read, and none beyond the limit.
use Rattle.std.proofs.Common.{arith, sym, length, ◌∙◌, ◌≡◌}
use Rattle.desk_words.proofs.Reading.{read_none, read_digit, no_digit, nothing_read, some_left, too_large, all_read}
use Rattle.desk_words.proofs.numbers.number.Goals as goal

pub returns-then-is_empty : goal.returns-then-is_empty
returns-then-is_empty c = let a = c.args in nothing_read a.most a.word.now c.if-is_empty.ensures

pub loop-byte-init : goal.loop-byte-init
loop-byte-init c = (omega arith, read_none c.args.word.now)

pub returns-in_err-d : goal.returns-in_err-d
returns-in_err-d c =
    let a = c.args in
    let l = c.loop-byte in
    c.from_residual.ensures ∙ no_digit a.most a.word.now l.byte-index l.x (omega arith) c.in_err-d.ensures l.invariant.1

pub returns-then-from-x : goal.returns-then-from-x
returns-then-from-x c =
    let a = c.args in
    let l = c.loop-byte in
    let more = read_digit a.word.now l.byte-index l.x _ (omega arith) c.in_ok-d.ensures l.invariant.1 in
    sym (too_large a.most a.word.now _ _ (omega arith) (omega arith) more)

pub loop-byte-preserved : goal.loop-byte-preserved
loop-byte-preserved c =
    let a = c.args in
    let l = c.loop-byte in
    let more = read_digit a.word.now l.byte-index l.x _ (omega arith) c.in_ok-d.ensures l.invariant.1 in
    (omega arith, rw c.from.ensures more)

pub returns : goal.returns
returns c =
    let a = c.args in
    let l = c.loop-byte in
    let end : l.byte-index ≡ length a.word.now = omega arith in
    sym (all_read a.most a.word.now l.x (some_left a.word.now c.if-is_empty.ensures) (omega arith) (rw end at l.invariant.1))
