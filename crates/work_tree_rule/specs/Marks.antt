-- How a row is tested by marks at the objects that earlier rows use. No statement of a call cites this.
use Rattle.std.specs.Prelude.{ℕ, Bool, not, ◌||◌, List, leb, eqb, get_or}

-- A mark stands at v.
abbrev pub used_by : List ℕ → ℕ → Bool
used_by marks v = not (eqb (get_or marks v 0) 0)

-- The row that makes object `made` can't have the entry v: it is 0, or not below made, or marked.
abbrev pub refused_by : List ℕ → ℕ → ℕ → Bool
refused_by marks made v = eqb v 0 || leb made v || used_by marks v

-- The row that makes it of a and b breaks the rule: it can't have one of them, or they are the same.
abbrev pub broken_by : List ℕ → ℕ → ℕ → ℕ → Bool
broken_by marks made a b = refused_by marks made a || refused_by marks made b || eqb a b
