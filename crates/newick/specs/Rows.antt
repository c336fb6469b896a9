-- The rows that a sentence makes (docs/NEWICK.md). Groups are numbered in the order in which they close: the group that closes as number
-- i is row i, and makes object n + i. Rows are flat, upper then lower; a group's first sentence is its upper child.
use Rattle.std.specs.Prelude.{ℕ, ◌+◌}
use mathlib.Core.List.{List, [], ◌∷◌, ◌++◌}
use Rattle.tanglegram.specs.Tree.{Tree, leaf, fork}
use Rattle.newick.specs.Sentence.{Sentence, number, group, groups, value_from, value, leaf_numbers, leaf_count}

-- The objects that the leaves are, in the order of the text, where a leaf with the digits ds is object v ds.
unfoldable pub leaf_objects : (List ℕ → ℕ) → Sentence → List ℕ
leaf_objects v (number ds l) = v ds ∷ []
leaf_objects v (group a b l) = leaf_objects v a ++ leaf_objects v b

-- Over n leaves, where a leaf with the digits ds is object v ds.
module _ (v : List ℕ → ℕ) (n : ℕ) where
  -- The object that a sentence is, if k groups have closed before it begins.
  unfoldable pub object_from : ℕ → Sentence → ℕ
  unfolding groups
  object_from k (number ds l) = v ds
  object_from k (group a b l) = n + (k + groups (group a b l))

  -- The rows of its groups.
  unfoldable pub rows_from : ℕ → Sentence → List ℕ
  unfolding groups object_from
  rows_from k (number ds l) = []
  rows_from k (group a b l) =
      rows_from k a ++ (rows_from (k + groups a) b ++ (object_from k a ∷ object_from (k + groups a) b ∷ []))

-- The rows of a whole sentence.
unfoldable pub rows_of : Sentence → List ℕ
unfolding value_from leaf_numbers rows_from
rows_of s = rows_from value (leaf_count s) 0 s

-- The tree that a sentence is, if k groups have closed before it begins.
unfoldable pub tree_from : ℕ → Sentence → Tree
unfolding groups value_from
tree_from k (number ds l) = leaf (value ds)
tree_from k (group a b l) = fork (k + groups (group a b l)) (tree_from k a) (tree_from (k + groups a) b)
