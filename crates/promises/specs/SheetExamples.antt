-- Sheets, as they are printed, of bytes and of the third number of their `E` line: example 2's record, as it is, under holds and with its
-- left root pinned; example 6's, whose run has a turn more; a single leaf; and bytes that are refused.
use Rattle.std.specs.Prelude.{ℕ, List, [], ◌∷◌, map}
use Rattle.tanglegram.specs.Examples.{Case, case2, root_pinned, gains_in_turn2, one_leaf}
use Rattle.work_text.specs.Lines.{ascii}
use Rattle.calls_sheet.specs.Sheet.{sheet_text}
use Rattle.promises.specs.Cases.{held_record_of, record_of}

pub record SheetLine : Type 0 where
  pub of : List ℕ
  pub third : ℕ
  pub text : List ℕ

abbrev sheet_line : List ℕ → ℕ → List ℕ → SheetLine
sheet_line s third text = record { of = s; third = third; text = text }

-- Example 9's rows (1,2), (1,3) on the left.
abbrev used_twice : Case
used_twice = record {
  size = 3;
  left_rows = 1 ∷ 2 ∷ 1 ∷ 3 ∷ [];
  right_rows = 1 ∷ 2 ∷ 4 ∷ 3 ∷ [];
  links = 1 ∷ 2 ∷ 3 ∷ [];
  layouts = record { left_bytes = 0 ∷ 0 ∷ []; right_bytes = 0 ∷ 0 ∷ [] };
  allowance = 1;
}

abbrev pub sheet_examples : List SheetLine
sheet_examples =
    sheet_line (record_of case2) 948
    (ascii "TGP 1 N 4\nL 4 3 1 2\nR 1 2 3 4\nX 5\nE 18 20 948\nT 2 S 0\nL 1 2 3 4\nR 1 2 3 4\n")
    ∷ sheet_line (held_record_of 76 case2) 948 (ascii "TGP 1 L 4\nL 4 3 1 2\nR 1 2 3 4\nX 5\nE 18 20 948\nREFUSED 11\n")
    ∷ sheet_line (held_record_of 82 case2) 948 (ascii "TGP 1 R 4\nL 4 3 1 2\nR 1 2 3 4\nX 5\nE 18 20 948\nREFUSED 11\n")
    ∷ sheet_line (held_record_of 66 case2) 948 (ascii "TGP 1 B 4\nL 4 3 1 2\nR 1 2 3 4\nX 5\nE 18 20 948\nREFUSED 11\n")
    ∷ sheet_line (record_of root_pinned) 948
    (ascii "TGP 1 N 4\nL 4 3 1 2\nR 1 2 3 4\nX 5\nE 18 20 948\nT 3 S 2\nL 4 1 2 3\nR 1 2 4 3\n")
    ∷ sheet_line (record_of gains_in_turn2) 500 (ascii "TGP 1 N 3\nL 1 2 3\nR 1 3 2\nX 1\nE 2 8 500\nT 3 S 0\nL 1 2 3\nR 1 2 3\n")
    ∷ sheet_line (record_of (one_leaf 1)) 0 (ascii "TGP 1 N 1\nL 1\nR 1\nX 0\nE 0 0 0\nT 2 S 0\nL 1\nR 1\n")
    ∷ sheet_line [] 0 (ascii "REFUSED 1\n")
    ∷ sheet_line (held_record_of 77 case2) 0 (ascii "REFUSED 4\n")
    ∷ sheet_line (record_of used_twice) 0 (ascii "REFUSED 7 2\n")
    ∷ []

-- What they should be is what they are.
abbrev pub sheets_told : List (List ℕ)
sheets_told = map (λ l. l.text) sheet_examples

abbrev pub sheets_are : List (List ℕ)
sheets_are = map (λ l. sheet_text l.of l.third) sheet_examples
