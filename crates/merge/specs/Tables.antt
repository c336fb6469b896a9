-- Merge tables over n leaves: 2(n - 1) entries, pair by pair, row i's upper entry at place 2(i - 1) and its lower one right after it. The
-- rows that a table says, the table that says rows, and the two tests of a table.
use Rattle.std.specs.Prelude.{ℕ, pred, ◌+◌, ◌-◌, ◌*◌, ◌≤◌, ◌<◌, ◌≡◌, ◌⊎◌, Bool, false, ◌||◌, List, [], ◌∷◌, map, eqb, ℤ, pos, negsuc, length, get_or}
use Rattle.tanglegram.specs.Lists.{range}
use Rattle.merge.specs.Entries.{NamesNone, named_by, entry_for, names_none}

-- The rows that a table says, flat: the object that each entry names. The table that says flat rows: the entry for each object.
unfoldable pub rows_in : ℕ → List ℤ → List ℕ
rows_in n table = map (named_by n) table

unfoldable pub table_for : ℕ → List ℕ → List ℤ
table_for n rows = map (entry_for n) rows

-- The two entries of row i.
abbrev pub upper_entry : List ℤ → ℕ → ℤ
upper_entry table i = get_or table (2 * pred i) (pos 0)

abbrev pub lower_entry : List ℤ → ℕ → ℤ
lower_entry table i = get_or table (2 * pred i + 1) (pos 0)

-- A test is met by one of some numbers.
unfoldable pub any : (ℕ → Bool) → List ℕ → Bool
any p [] = false
any p (x ∷ xs) = p x || any p xs

-- An entry of row i is zero, or names no leaf, or no earlier row; one of rows 1 to n - 1 has such an entry.
abbrev pub row_none : ℕ → List ℤ → ℕ → Bool
row_none n table i = names_none n i (upper_entry table i) || names_none n i (lower_entry table i)

unfoldable pub some_none : ℕ → List ℤ → Bool
unfolding any
some_none n table = any (row_none n table) (range 1 (pred n))

-- Two entries are the same.
abbrev pub same : ℤ → ℤ → Bool
same (pos a) (pos b) = eqb a b
same (pos a) (negsuc b) = false
same (negsuc a) (pos b) = false
same (negsuc a) (negsuc b) = eqb a b

-- An entry is one of some entries; an entry is used twice.
unfoldable pub among_entries : ℤ → List ℤ → Bool
among_entries x [] = false
among_entries x (y ∷ ys) = same x y || among_entries x ys

unfoldable pub twice : List ℤ → Bool
unfolding among_entries
twice [] = false
twice (x ∷ xs) = among_entries x xs || twice xs

-- What the two tests find: a row from 1 to n - 1 with an entry that is zero, or names no leaf, or no earlier row; and two places with the
-- same entry.
pub record EntryNone (n : ℕ) (table : List ℤ) : Type 0 where
  pub row : ℕ
  pub is_row : (1 ≤ row) × (row < n)
  pub none : NamesNone n row (upper_entry table row) ⊎ NamesNone n row (lower_entry table row)

pub record EntryTwice (table : List ℤ) : Type 0 where
  pub place : ℕ
  pub later : ℕ
  pub apart : (place < later) × (later < length table)
  pub alike : get_or table place (pos 0) ≡ get_or table later (pos 0)

-- A table of n - 1 pairs, over 1 to 512 leaves.
pub record Pairs (n : ℕ) (table : List ℤ) : Type 0 where
  pub some : 1 ≤ n
  pub most : n ≤ 512
  pub long : length table ≡ 2 * (n - 1)
