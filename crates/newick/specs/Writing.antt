-- The text that is written for a tree: a sentence without lengths, and a semicolon.
use Rattle.std.specs.Prelude.{ℕ, ◌+◌, ◌-◌, ◌*◌, ◌/◌, ◌%◌, cond, List, [], ◌∷◌, ◌++◌, ltb}
use Rattle.tanglegram.specs.Tree.{Tree, leaf, fork}
use Rattle.tanglegram.specs.Order.{byte, turned}
use Rattle.newick.specs.Sentence.{Sentence, number, group, none, spell, semicolon}

-- The digits of a leaf's number, which is below 1,000.
unfoldable pub decimal : ℕ → List ℕ
decimal a =
    cond (ltb a 10) ((48 + a) ∷ [])
    (cond (ltb a 100) ((48 + a / 10) ∷ (48 + a % 10) ∷ [])
    ((48 + a / 100) ∷ (48 + a / 10 % 10) ∷ (48 + a % 10) ∷ []))

-- The sentence of a tree, each row's children in the order that a layout gives them.
unfoldable pub sentence_of : List ℕ → Tree → Sentence
unfolding decimal
sentence_of lay (leaf a) = number (decimal a) none
sentence_of lay (fork i u l) =
    let first = sentence_of lay u in
    let second = sentence_of lay l in
    cond (turned (byte lay i)) (group second first none) (group first second none)

-- The text of a sentence.
unfoldable pub text_of : Sentence → List ℕ
unfolding spell
text_of s = spell s ++ (semicolon ∷ [])

-- How long the text of a tree over n leaves is, below 1,000: the digits of 1 to n, three bytes a group, and the semicolon.
unfoldable pub text_length : ℕ → ℕ
text_length n = cond (ltb n 10) (4 * n - 2) (cond (ltb n 100) (5 * n - 11) (6 * n - 110))
