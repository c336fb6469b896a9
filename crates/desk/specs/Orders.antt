-- What a line says that compares two orders.
use Rattle.std.specs.Prelude.{ℕ, ◌+◌, cond, List, leb, length, Option, None, Some}
use Rattle.desk_words.specs.Words.{word_in}
use Rattle.desk_words.specs.Numbers.{number_in}
use Rattle.desk_words.specs.Lists.{list_in}

-- The side and the two orders.
pub record Orders : Type 0 where
  pub side : ℕ
  pub first : List ℕ
  pub second : List ℕ

-- These, where all three are said and there are so many places for both orders.
abbrev pub all_said : Option ℕ → Option (List ℕ) → Option (List ℕ) → ℕ → Option Orders
all_said None first second room = None
all_said (Some side) None second room = None
all_said (Some side) (Some first) None room = None
all_said (Some side) (Some first) (Some second) room =
    cond (leb (length first + length second) room) (Some (record { side = side; first = first; second = second })) None

-- What the words of the line say.
unfoldable pub orders_in : List ℕ → ℕ → Option Orders
orders_in line room = all_said (number_in 65535 (word_in line 2)) (list_in (word_in line 3)) (list_in (word_in line 4)) room
