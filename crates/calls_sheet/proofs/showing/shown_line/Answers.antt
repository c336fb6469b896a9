-- `shown_line`: line by line.
use Rattle.std.proofs.Common.{arith}
use Rattle.calls_sheet.specs.Sheet.{line_of_record}
use Rattle.calls_sheet.proofs.Asked.{said, said_entangled, no_line}
use Rattle.calls_sheet.proofs.showing.shown_line.Goals as goal

pub returns-in-1 : goal.returns-in-1
unfolding line_of_record
returns-in-1 c =
    said c.args.s.now 1 c.in-1.is (λ e. omega arith)
    (rw (c.requires.0.holds, c.requires.0.sized) at c.heading_line.ensures)

pub returns-in-2 : goal.returns-in-2
unfolding line_of_record
returns-in-2 c =
    said c.args.s.now 2 c.in-2.is (λ e. omega arith)
    c.side_line.ensures

pub returns-in-3 : goal.returns-in-3
unfolding line_of_record
returns-in-3 c =
    said c.args.s.now 3 c.in-3.is (λ e. omega arith)
    c.side_line-in-3.ensures

pub returns-in-4 : goal.returns-in-4
unfolding line_of_record
returns-in-4 c =
    said c.args.s.now 4 c.in-4.is (λ e. omega arith)
    c.counted_line.ensures

pub returns-in-5 : goal.returns-in-5
returns-in-5 c =
    said_entangled c.args.s.now c.in-5.is c.measures_line.ensures

pub returns-in-7 : goal.returns-in-7
unfolding line_of_record
returns-in-7 c =
    said c.args.s.now 7 c.in-7.is (λ e. omega arith)
    c.side_after.ensures

pub returns-in-8 : goal.returns-in-8
unfolding line_of_record
returns-in-8 c =
    said c.args.s.now 8 c.in-8.is (λ e. omega arith)
    c.side_after-in-8.ensures

pub returns-in_default : goal.returns-in_default
returns-in_default c =
    no_line c.args.s.now (λ e. omega arith) (λ e. omega arith) (λ e. omega arith) (λ e. omega arith) (λ e. omega arith)
    c.requires.1 (λ e. omega arith) (λ e. omega arith)
