-- The customer, in the second request for changes: "A subtree is a leaf number or a group, a group is two subtrees between parentheses
-- with a comma, and a semicolon ends the text. .. Rows are numbered in the order in which groups close. .. Refusals: 18 text breaks the
-- grammar; 19 leaves aren't 1 to n once each, or n above 512. 18 before 19, both before 14." And: "Reading what was written gives a tree
-- with all bytes 0 and the same leaf order and the same sets of leaves under its rows; writing it again gives the same text." For every
-- outcome of the calls.
use Rattle.std.specs.Prelude.{ℕ, ◌-◌, ◌*◌, ◌≤◌, ◌<◌, ◌≡◌, ◌↔◌, ◌⊎◌, length, take, drop}
use mathlib.Core.List.{List, Permᴰ}
use Rattle.tanglegram.specs.Lists.{Each, range}
use Rattle.tanglegram.specs.Tree.{Rule}
use Rattle.tanglegram.specs.Order.{order}
use Rattle.tanglegram.specs.Table.{layout}
use Rattle.work_trees.specs.Rows.{upper, lower}
use Rattle.newick.specs.Sentence.{Sentence, leaf_numbers, leaf_count}
use Rattle.newick.specs.Grammar.{Spells}
use Rattle.newick.specs.Rows.{rows_of}
use Rattle.newick.specs.Same.{SameSets}
use Rattle.newick.specs.Writing.{sentence_of, text_of, text_length}
use Rattle.record_fields.specs.Fields.{size_of, parts}
use Rattle.record_fields.specs.Meaning.{tree_in, rows_on, table_of, layouts_of}
use Rattle.record_arrays.specs.Sides.{side_of}
use Rattle.record_arrays.specs.Shown.{shown_order}
use Rattle.calls_newick.specs.Answers.{NewickRead}
use Rattle.calls_newick.specs.Answers.{NewickWritten}
use Rattle.calls_newick.specs.Calls.{NewickReads, NewickWrites}

-- A sentence's leaves are 1 to n, each once, and n is at most 512.
pub record Numbered (s : Sentence) : Type 0 where
  pub once_each : Permᴰ (leaf_numbers s) (range 1 (leaf_count s))
  pub most : leaf_count s ≤ 512

-- All bytes are 0: every row stands as given.
abbrev pub AsGiven : List ℕ → Type 0
AsGiven lay = Each (λ x. x ≡ 0) lay

-- ---- reading

-- n and the rows that were read are a sentence's.
pub record ReadAs (s : Sentence) (n : ℕ) (rows : List ℕ) : Type 0 where
  pub counted : n ≡ leaf_count s
  -- "Rows are numbered in the order in which groups close" (`rows_of`).
  pub closing_order : rows ≡ rows_of s
  -- They keep the tree rule.
  pub keep_the_rule : Rule n (upper rows) (lower rows)
  -- With all bytes 0 they give the leaves in the order of the text.
  pub text_order : (lay : List ℕ) → AsGiven lay → order lay (tree_in n rows) ≡ leaf_numbers s

pub record Reading (text out : List ℕ) (answer : NewickRead) (out' : List ℕ) : Type 0 where
  -- 18 exactly if the text spells no sentence.
  pub breaks_grammar : (answer.refusal.number ≡ 18) ↔ ((s : Sentence) → Spells text s → ⊥)
  -- 19 exactly if it spells one whose leaves aren't 1 to n, each once, with n at most 512.
  pub not_numbered : (answer.refusal.number ≡ 19) ↔ ((s : Sentence) × Spells text s × (Numbered s → ⊥))
  -- 14 exactly if it spells one whose leaves are, and the buffer has fewer than 2(n - 1) places.
  pub no_room : (answer.refusal.number ≡ 14) ↔ ((s : Sentence) × Spells text s × Numbered s × (length out < 2 * (leaf_count s - 1)))
  -- Otherwise it is accepted: n and the buffer's first places are the sentence's, and the buffer is as found beyond.
  pub accepted : (answer.refusal.number ≡ 0) ↔ ((s : Sentence) × Spells text s × Numbered s × (2 * (leaf_count s - 1) ≤ length out))
  pub read_as : answer.refusal.number ≡ 0 → (s : Sentence) → Spells text s → ReadAs s answer.n (take (2 * (answer.n - 1)) out')
  pub beyond : answer.refusal.number ≡ 0 → drop (2 * (answer.n - 1)) out' ≡ drop (2 * (answer.n - 1)) out
  -- There is no other number, and none of these comes with a row.
  pub no_other : (answer.refusal.number ≡ 0) ⊎ ((answer.refusal.number ≡ 14) ⊎
      ((answer.refusal.number ≡ 18) ⊎ (answer.refusal.number ≡ 19)))
  pub no_row : answer.refusal.row ≡ 0

-- ---- writing

pub record Writing (s : List ℕ) (side : ℕ) (out : List ℕ) (answer : NewickWritten) (out' : List ℕ) : Type 0 where
  -- "Write a side's present layout as text without lengths, ending at the semicolon."
  pub present_layout : take answer.length out' ≡ text_of (sentence_of (layout (layouts_of s) (side_of side)) ((table_of s).tree (side_of side)))
  -- Its length is the same for every tree over n leaves, and at most 2,962, which 512 leaves reach.
  pub long : answer.length ≡ text_length (size_of s)
  pub most : answer.length ≤ 2962
  pub beyond : drop answer.length out' ≡ drop answer.length out

-- ---- there and back

-- What reading a written text gives, in n and rows; r is the record's bytes, and text what was written of that side.
pub record ReadBack (r : List ℕ) (side : ℕ) (text : List ℕ) (n : ℕ) (rows : List ℕ) : Type 0 where
  pub same_n : n ≡ size_of r
  pub keep_the_rule : Rule n (upper rows) (lower rows)
  -- "the same leaf order and the same sets of leaves under its rows"
  pub same_order : (lay : List ℕ) → AsGiven lay → order lay (tree_in n rows) ≡ shown_order r (side_of side)
  pub same_sets : SameSets ((table_of r).tree (side_of side)) (tree_in n rows)
  -- "writing it again gives the same text": any record with these rows on a side, all bytes 0.
  pub same_text : (r' : List ℕ) (side' : ℕ) (out : List ℕ) (answer : NewickWritten) (out' : List ℕ) →
      NewickWrites r' side' out answer out' → answer.refusal.number ≡ 0 → size_of r' ≡ n → rows_on (parts r') (side_of side') ≡ rows →
      AsGiven (layout (layouts_of r') (side_of side')) →
      take answer.length out' ≡ text

pub record Newick : Type 0 where
  -- A text spells at most one sentence.
  pub one_sentence : (text : List ℕ) (s s' : Sentence) → Spells text s → Spells text s' → s ≡ s'
  pub reading : (text out : List ℕ) (answer : NewickRead) (out' : List ℕ) → NewickReads text out answer out' → Reading text out answer out'
  pub writing : (s : List ℕ) (side : ℕ) (out : List ℕ) (answer : NewickWritten) (out' : List ℕ) → NewickWrites s side out answer out' →
      answer.refusal.number ≡ 0 → Writing s side out answer out'
  -- A side written, and what was written read into a buffer with room.
  pub there_and_back : (s : List ℕ) (side : ℕ) (out : List ℕ) (written : NewickWritten) (out' : List ℕ) →
      NewickWrites s side out written out' → written.refusal.number ≡ 0 → (buffer : List ℕ) → 2 * (size_of s - 1) ≤ length buffer →
      (answer : NewickRead) (after : List ℕ) →
      NewickReads (take written.length out') buffer answer after →
      (answer.refusal.number ≡ 0) ×
      ReadBack s side (take written.length out') answer.n (take (2 * (answer.n - 1)) after)
