-- How many bytes the texts of a row array's objects have, each row's upper child first (no byte of the empty layout turns a row), noted
-- by row.
use Rattle.std.specs.Prelude.{ℕ, pred, ◌+◌, ◌-◌, ◌≤◌, ◌<◌, ◌≡◌, cond, List, [], leb, length, get_or}
use Rattle.tanglegram.specs.Tree.{Tree}
use Rattle.newick.specs.Sentence.{spell}
use Rattle.newick.specs.Writing.{decimal, sentence_of}
use Rattle.work_trees.specs.Rows.{size, object_of}

-- The text of an object, without a semicolon.
abbrev pub written : Tree → List ℕ
written t = spell (sentence_of [] t)

-- How many bytes the text of the object that each row makes has.
pub record TextCounts (T bytes : List ℕ) : Type 0 where
  pub long : length bytes ≡ 512
  pub counts : (i : ℕ) → 1 ≤ i → i < size T → get_or bytes (pred i) 0 ≡ length (written (object_of T (size T + i)))

-- How many an object's text has by these notes, among n leaves: a leaf's digits, else what is noted for its row.
abbrev pub bytes_of : List ℕ → ℕ → ℕ → ℕ
bytes_of bytes n o = cond (leb o n) (length (decimal o)) (get_or bytes (o - n - 1) 0)
