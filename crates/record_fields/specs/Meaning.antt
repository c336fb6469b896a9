-- What a record means: two trees, links and layouts; and a record with other layouts.
use Rattle.std.specs.Prelude.{ℕ, List, ◌++◌, take}
use Rattle.tanglegram.specs.Tree.{Tree, tree}
use Rattle.tanglegram.specs.declared.side.Side.{Side}
use Rattle.tanglegram.specs.Table.{Table, Layouts, pick, linked}
use Rattle.work_trees.specs.Rows.{upper, lower}
use Rattle.record_fields.specs.Fields.{size_of, left_layout_at, Parts, parts}

-- The tree over n leaves that flat rows make.
abbrev pub tree_in : ℕ → List ℕ → Tree
tree_in n rows = tree (upper rows) (lower rows) n

-- The rows of a side, as they are given.
abbrev pub rows_on : Parts → Side → List ℕ
rows_on P side = pick P.left_rows P.right_rows side

-- The table and the layouts of parts, and of a record.
abbrev pub table_in : Parts → Table
table_in P = linked P.size (tree_in P.size P.left_rows) (tree_in P.size P.right_rows) P.links

abbrev pub layouts_in : Parts → Layouts
layouts_in P = record { left_bytes = P.left_layout; right_bytes = P.right_layout }

abbrev pub table_of : List ℕ → Table
table_of s = table_in (parts s)

abbrev pub layouts_of : List ℕ → Layouts
layouts_of s = layouts_in (parts s)

-- Parts with other layouts.
abbrev pub relaid_in : Parts → Layouts → Parts
relaid_in P new = record {
  hold = P.hold;
  size = P.size;
  left_rows = P.left_rows;
  right_rows = P.right_rows;
  links = P.links;
  left_layout = new.left_bytes;
  right_layout = new.right_bytes;
}

-- A record with other layouts: what stands before them as it is.
unfoldable pub relaid : List ℕ → Layouts → List ℕ
relaid s new = take (left_layout_at (size_of s)) s ++ (new.left_bytes ++ new.right_bytes)
