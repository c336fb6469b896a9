-- Wrong sheets that the promise excludes: each was tried. Of example 2's record, and of it with the left held.
use Rattle.tanglegram.specs.Examples.{case2}
use Rattle.work_text.specs.Lines.{ascii}
use Rattle.calls_sheet.specs.Sheet.{Sheet}
use Rattle.promises.specs.Cases.{held_record_of, record_of}

pub record SheetTried : Type 0 where
  -- The first two lines exchanged; their orders exchanged; the order after the run in the place of the one before, and the other way.
  pub lines-exchanged :
      Sheet (record_of case2) (ascii "TGP 1 N 4\nR 1 2 3 4\nL 4 3 1 2\nX 5\nE 18 20 948\nT 2 S 0\nL 1 2 3 4\nR 1 2 3 4\n") → ⊥
  pub orders-exchanged :
      Sheet (record_of case2) (ascii "TGP 1 N 4\nL 1 2 3 4\nR 4 3 1 2\nX 5\nE 18 20 948\nT 2 S 0\nL 1 2 3 4\nR 1 2 3 4\n") → ⊥
  pub after-for-before :
      Sheet (record_of case2) (ascii "TGP 1 N 4\nL 1 2 3 4\nR 1 2 3 4\nX 5\nE 18 20 948\nT 2 S 0\nL 1 2 3 4\nR 1 2 3 4\n") → ⊥
  pub before-for-after :
      Sheet (record_of case2) (ascii "TGP 1 N 4\nL 4 3 1 2\nR 1 2 3 4\nX 5\nE 18 20 948\nT 2 S 0\nL 4 3 1 2\nR 1 2 3 4\n") → ⊥
  -- A last digit lost; a 0 in front; a space at a line's end; a line feed lost; `U` for `S`; a run not told; nothing at all.
  pub digit-lost :
      Sheet (record_of case2) (ascii "TGP 1 N 4\nL 4 3 1 2\nR 1 2 3 4\nX 5\nE 18 20 94\nT 2 S 0\nL 1 2 3 4\nR 1 2 3 4\n") → ⊥
  pub zero-in-front :
      Sheet (record_of case2) (ascii "TGP 1 N 4\nL 4 3 1 2\nR 1 2 3 4\nX 05\nE 18 20 948\nT 2 S 0\nL 1 2 3 4\nR 1 2 3 4\n") → ⊥
  pub space-at-the-end :
      Sheet (record_of case2) (ascii "TGP 1 N 4\nL 4 3 1 2 \nR 1 2 3 4\nX 5\nE 18 20 948\nT 2 S 0\nL 1 2 3 4\nR 1 2 3 4\n") → ⊥
  pub line-feed-lost :
      Sheet (record_of case2) (ascii "TGP 1 N 4\nL 4 3 1 2\nR 1 2 3 4\nX 5\nE 18 20 948\nT 2 S 0\nL 1 2 3 4\nR 1 2 3 4") → ⊥
  pub unsettled-for-settled :
      Sheet (record_of case2) (ascii "TGP 1 N 4\nL 4 3 1 2\nR 1 2 3 4\nX 5\nE 18 20 948\nT 2 U 0\nL 1 2 3 4\nR 1 2 3 4\n") → ⊥
  pub run_not_told : Sheet (record_of case2) (ascii "TGP 1 N 4\nL 4 3 1 2\nR 1 2 3 4\nX 5\nE 18 20 948\n") → ⊥
  pub nothing : Sheet (record_of case2) (ascii "") → ⊥
  -- A held record run all the same; and refused from the first line on.
  pub held-run :
      Sheet (held_record_of 76 case2) (ascii "TGP 1 L 4\nL 4 3 1 2\nR 1 2 3 4\nX 5\nE 18 20 948\nT 2 S 0\nL 1 2 3 4\nR 1 2 3 4\n") → ⊥
  pub held_refused : Sheet (held_record_of 76 case2) (ascii "REFUSED 11\n") → ⊥
