-- A side of a record in memory, its layout applied, has the side's text; and how long a record's text is.
use Prim.Native.Nat.{ℕ, ◌≤◌}
use mathlib.Core.Path.{◌≡◌, ap}
use mathlib.Core.List.{List, []}
use lib.ListN.{length}
use Rattle.tanglegram.specs.declared.side.Side.{Side}
use Rattle.tanglegram.specs.Table.{layout}
use Rattle.work_trees.specs.Rows.{tree_of}
use Rattle.work_trees.specs.Exchange.{LaidOut}
use Rattle.newick.specs.Writing.{sentence_of, text_of, text_length}
use Rattle.newick.proofs.Written.{written-length, text-most}
use Rattle.work_newick_writing.proofs.LaidOut.{written-laid}
use Rattle.record_fields.specs.Meaning.{table_of, layouts_of}
use Rattle.record_arrays.specs.Sides.{side_of, RecordOver}
use Rattle.record_arrays.proofs.AsItStands.{side-leaves}
use Rattle.calls_newick.specs.Refusals.{written_text}

module _ (s : List ℕ) (side : Side) where
  -- a side's text
  abbrev side_text : List ℕ
  side_text = text_of (sentence_of (layout (layouts_of s) side) ((table_of s).tree side))

  -- is as long for every tree over n leaves
  side-long : (n : ℕ) → RecordOver s n → length side_text ≡ text_length n
  side-long n g =
      written-length n (layout (layouts_of s) side) ((table_of s).tree side) g.sized.some g.sized.most (side-leaves s n g side)

  -- its rows in memory have that text, which is not long
  module _ {n : ℕ} {W : List ℕ} (laid : LaidOut ((table_of s).tree side) n (layout (layouts_of s) side) W) where
    pub laid-text : (k : ℕ) → side_of k ≡ side → text_of (sentence_of [] (tree_of W)) ≡ written_text s k
    unfolding written_text
    laid-text k same = rw same (ap text_of (written-laid laid))

    pub laid-fits : RecordOver s n → length (text_of (sentence_of [] (tree_of W))) ≤ 2962
    laid-fits g = rw (ap text_of (written-laid laid), side-long n g) (text-most n g.sized.most)

module _ (s : List ℕ) (side : ℕ) where
  pub text-long : (n : ℕ) → RecordOver s n → length (written_text s side) ≡ text_length n
  unfolding written_text
  text-long n g = side-long s (side_of side) n g

  pub text_fits : (n : ℕ) → RecordOver s n → length (written_text s side) ≤ 2962
  text_fits n g = rw (text-long n g) (text-most n g.sized.most)
