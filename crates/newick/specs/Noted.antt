-- The rows as they are noted while a text is read, before the number of leaves is known: the group that closes as number i is noted as
-- object 1023 + i, so that every entry below 1024 is a leaf, and a number above 512 as 0, which is no leaf.
use Rattle.std.specs.Prelude.{ℕ, ◌+◌, ◌-◌, cond, List, [], ◌∷◌, leb, ltb}
use Rattle.newick.specs.Sentence.{Sentence, value_from, value}
use Rattle.newick.specs.Rows.{leaf_objects}

-- The object that a leaf is noted as; those of a sentence's leaves, in the order of the text.
unfoldable pub noted : List ℕ → ℕ
unfolding value_from
noted ds = cond (leb (value ds) 512) (value ds) 0

unfoldable pub noted_leaves : Sentence → List ℕ
unfolding noted leaf_objects
noted_leaves s = leaf_objects noted s

-- A noted entry once there are n leaves.
unfoldable pub fixed : ℕ → ℕ → ℕ
fixed n e = cond (ltb e 1024) e (n + (e - 1023))

-- The leaves among noted entries, in order.
unfoldable pub leaves_in : List ℕ → List ℕ
leaves_in [] = []
leaves_in (e ∷ es) = let more = leaves_in es in cond (ltb e 1024) (e ∷ more) more
