-- Examples of merge tables, a line each: tables read into a buffer, and tables written of a case's side. That the calls' definitions come
-- to this is in `Examples`.
use Rattle.std.specs.Prelude.{ℕ, List, [], ◌∷◌, ℤ, pos, neg_ℤ}
use Rattle.tanglegram.specs.Examples.{Case, case2, one_leaf}
use Rattle.promises.specs.Cases.{case2_freed}

-- Entries by their signs.
abbrev pub minus : ℕ → ℤ
minus a = neg_ℤ (pos a)

abbrev pub plus : ℕ → ℤ
plus j = pos j

-- n, a table, a buffer, and what should come of reading it: the refusal's number, and the buffer afterwards.
pub record TableLine : Type 0 where
  pub size : ℕ
  pub table : List ℤ
  pub buffer : List ℕ
  pub refused : ℕ
  pub afterwards : List ℕ

abbrev table_line : ℕ → List ℤ → List ℕ → ℕ → List ℕ → TableLine
table_line n table buffer k after = record { size = n; table = table; buffer = buffer; refused = k; afterwards = after }

abbrev refused_line : ℕ → List ℤ → ℕ → TableLine
refused_line n table k = table_line n table (9 ∷ 9 ∷ 9 ∷ 9 ∷ 9 ∷ 9 ∷ []) k (9 ∷ 9 ∷ 9 ∷ 9 ∷ 9 ∷ 9 ∷ [])

-- Example 1's rows (1,2), (3,5), (4,6) as a table.
abbrev pub example1 : List ℤ
example1 = minus 1 ∷ minus 2 ∷ minus 3 ∷ plus 1 ∷ minus 4 ∷ plus 2 ∷ []

abbrev pub table_examples : List TableLine
table_examples =
    -- example 1, into a buffer of seven places
    table_line 4 example1 (9 ∷ 9 ∷ 9 ∷ 9 ∷ 9 ∷ 9 ∷ 9 ∷ []) 0 (1 ∷ 2 ∷ 3 ∷ 5 ∷ 4 ∷ 6 ∷ 9 ∷ [])
    -- R's hclust of 0, 1, 20, 22 and 4, row by row
    ∷ table_line 5 (minus 1 ∷ minus 2 ∷ minus 3 ∷ minus 4 ∷ minus 5 ∷ plus 1 ∷ plus 2 ∷ plus 3 ∷ [])
    (9 ∷ 9 ∷ 9 ∷ 9 ∷ 9 ∷ 9 ∷ 9 ∷ 9 ∷ []) 0 (1 ∷ 2 ∷ 3 ∷ 4 ∷ 5 ∷ 6 ∷ 7 ∷ 8 ∷ [])
    -- (-1,-2), (-3,1), and the same column by column, as R keeps it: another tree, and accepted
    ∷ table_line 3 (minus 1 ∷ minus 2 ∷ minus 3 ∷ plus 1 ∷ []) (9 ∷ 9 ∷ 9 ∷ 9 ∷ []) 0 (1 ∷ 2 ∷ 3 ∷ 4 ∷ [])
    ∷ table_line 3 (minus 1 ∷ minus 3 ∷ minus 2 ∷ plus 1 ∷ []) (9 ∷ 9 ∷ 9 ∷ 9 ∷ []) 0 (1 ∷ 3 ∷ 2 ∷ 4 ∷ [])
    -- one leaf, into a buffer of no places
    ∷ table_line 1 [] [] 0 []
    -- 5: no leaf; 513 leaves. 6: no pair too few, one too many, half a pair.
    ∷ refused_line 0 [] 5
    ∷ refused_line 513 [] 5
    ∷ refused_line 2 [] 6
    ∷ refused_line 2 (minus 1 ∷ minus 2 ∷ minus 3 ∷ plus 1 ∷ []) 6
    ∷ refused_line 2 (minus 1 ∷ []) 6
    -- 20: zero; no leaf 3 of 2; row 1 in row 1; a later row; the least and the largest number of 32 bits.
    ∷ refused_line 2 (minus 1 ∷ minus 0 ∷ []) 20
    ∷ refused_line 2 (minus 1 ∷ minus 3 ∷ []) 20
    ∷ refused_line 2 (plus 1 ∷ minus 2 ∷ []) 20
    ∷ refused_line 3 (minus 1 ∷ plus 2 ∷ minus 2 ∷ minus 3 ∷ []) 20
    ∷ refused_line 2 (minus 2147483648 ∷ minus 2 ∷ []) 20
    ∷ refused_line 2 (minus 1 ∷ plus 2147483647 ∷ []) 20
    -- 21: a leaf twice in a row; a leaf in two rows; a row's object twice. 20 where row 2 has a zero, though leaf 1 is there twice before.
    ∷ refused_line 2 (minus 1 ∷ minus 1 ∷ []) 21
    ∷ refused_line 3 (minus 1 ∷ minus 2 ∷ minus 1 ∷ plus 1 ∷ []) 21
    ∷ refused_line 4 (minus 1 ∷ minus 2 ∷ minus 3 ∷ plus 1 ∷ minus 4 ∷ plus 1 ∷ []) 21
    ∷ refused_line 3 (minus 1 ∷ minus 1 ∷ minus 0 ∷ plus 1 ∷ []) 20
    -- 14: one place for two entries.
    ∷ table_line 2 (minus 1 ∷ minus 2 ∷ []) (9 ∷ []) 14 (9 ∷ [])
    ∷ []

-- A case's side, and the table that should be written of it.
pub record TableWritten : Type 0 where
  pub from : Case
  pub side : ℕ
  pub table : List ℤ

abbrev table_written : Case → ℕ → List ℤ → TableWritten
table_written g side table = record { from = g; side = side; table = table }

abbrev pub tables_written : List TableWritten
tables_written =
    -- case 2's left and right; its left again where freeing has turned rows over: the layout plays no part
    table_written case2 1 example1
    ∷ table_written case2 2 (minus 1 ∷ minus 2 ∷ minus 3 ∷ minus 4 ∷ plus 1 ∷ plus 2 ∷ [])
    ∷ table_written case2_freed 1 example1
    -- one leaf
    ∷ table_written (one_leaf 2) 1 []
    ∷ []
