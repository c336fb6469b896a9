-- What is noted while a text is read, as one list of 1,025 numbers: the rows of the groups that have closed, two entries each, from its
-- first place on; how many have closed, up to 512; the object that was read last; and how many groups are open. Objects are those of
-- `newick/specs/Noted`.
use Rattle.std.specs.Prelude.{ℕ, ◌+◌, ◌-◌, ◌*◌, ◌≤◌, ◌<◌, ◌≡◌, cond, List, ◌++◌, ltb, length, get_or, set, take}
use Rattle.newick.specs.Sentence.{Sentence, groups}
use Rattle.newick.specs.Rows.{object_from, rows_from}
use Rattle.newick.specs.Noted.{noted}

abbrev pub closed_in : List ℕ → ℕ
closed_in T = get_or T 1022 0

abbrev pub last_in : List ℕ → ℕ
last_in T = get_or T 1023 0

abbrev pub open_in : List ℕ → ℕ
open_in T = get_or T 1024 0

-- Notes that one may go on from.
pub record Notes (T : List ℕ) : Type 0 where
  pub long : length T ≡ 1025
  pub few_open : open_in T ≤ 511
  pub few_closed : closed_in T ≤ 512

-- One group more is open.
abbrev pub opened : List ℕ → List ℕ
opened T = set T 1024 (open_in T + 1)

-- A group closes, whose first sentence is the object `first` and whose second was read last: its row is noted, if it is one of the first
-- 511, and the object that it makes was read last.
abbrev pub entries_noted : ℕ → List ℕ → List ℕ
entries_noted first T = let one = set T (2 * closed_in T) first in set one (2 * closed_in T + 1) (last_in one)

abbrev pub row_noted : ℕ → List ℕ → List ℕ
row_noted first T = set (set (entries_noted first T) 1022 (closed_in T + 1)) 1023 (1024 + closed_in T)

unfoldable pub closed : ℕ → List ℕ → List ℕ
closed first T =
    let one_less = set T 1024 (open_in T - 1) in
    cond (ltb (closed_in one_less) 511) (row_noted first one_less) (set one_less 1022 512)

-- Of a sentence whose groups are among the first 511: how many have closed, its object, and its rows behind those that were there.
pub record NotedRows (s : Sentence) (T T' : List ℕ) : Type 0 where
  pub all_closed : closed_in T' ≡ closed_in T + groups s
  pub its_object : last_in T' ≡ object_from noted 1023 (closed_in T) s
  pub its_rows : take (2 * (closed_in T + groups s)) T' ≡ take (2 * closed_in T) T ++ rows_from noted 1023 (closed_in T) s

-- T is T' once a sentence was read.
pub record Noted (s : Sentence) (T T' : List ℕ) : Type 0 where
  pub notes : Notes T'
  pub as_many_open : open_in T' ≡ open_in T
  pub few : closed_in T + groups s ≤ 511 → NotedRows s T T'
  pub many : 511 < closed_in T + groups s → closed_in T' ≡ 512
