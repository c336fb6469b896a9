-- How a text is read, from its first byte on: what it spells, if it spells anything. That this is the grammar (`Grammar`) is a theorem
-- (`proofs/Grammar`). Each reader answers what it has read and the text that is left, or that the text breaks the grammar.
use Rattle.std.specs.Prelude.{ℕ, zero, suc, ◌+◌, Bool, true, false, cond, ◌&&◌, ◌||◌, List, [], ◌∷◌, eqb, leb, length, get_or, drop}
use Rattle.newick.specs.Sentence.{Length, none, whole, pointed, Sentence, number, group}
use Rattle.newick.specs.Sentence.{opening, closing, comma, point, colon, semicolon, line_feed}
use Rattle.newick.specs.Grammar.{most_open}

-- The first byte of a text; 256, which is no byte, where there is none. The text behind it.
abbrev pub head : List ℕ → ℕ
head xs = get_or xs 0 256

abbrev pub behind : List ℕ → List ℕ
behind xs = drop 1 xs

unfoldable pub is_digit : ℕ → Bool
is_digit x = leb 48 x && leb x 57

-- The digits that a text begins with, and the text behind them.
unfoldable pub digits : List ℕ → List ℕ
unfolding is_digit
digits [] = []
digits (x ∷ xs) = let more = x ∷ digits xs in cond (is_digit x) more []

unfoldable pub past_digits : List ℕ → List ℕ
unfolding is_digit
past_digits [] = []
past_digits (x ∷ xs) = let more = past_digits xs in cond (is_digit x) more (x ∷ xs)

-- ---- a length

pub data LengthRead : Type 0 where
  no_length : LengthRead
  length_read : Length → List ℕ → LengthRead

-- Behind the colon: digits; or digits, a point and digits. There is at least one digit.
unfoldable pub length_behind : List ℕ → LengthRead
unfolding digits past_digits
length_behind xs =
    let ds = digits xs in
    let rest = past_digits xs in
    let es = digits (behind rest) in
    cond (eqb (head rest) point)
    (cond (eqb (length ds + length es) 0) no_length (length_read (pointed ds es) (past_digits (behind rest))))
    (cond (eqb (length ds) 0) no_length (length_read (whole ds) rest))

-- A length, or none where no colon stands.
unfoldable pub length_in : List ℕ → LengthRead
unfolding length_behind
length_in xs = let there = length_behind (behind xs) in cond (eqb (head xs) colon) there (length_read none xs)

-- ---- a sentence

pub data Read : Type 0 where
  broken : Read
  read : Sentence → List ℕ → Read

-- What follows what was read; what follows a byte that must stand there.
abbrev pub and_then : Read → (Sentence → List ℕ → Read) → Read
and_then broken f = broken
and_then (read s rest) f = f s rest

abbrev pub expect : ℕ → List ℕ → (List ℕ → Read) → Read
expect b xs f = let more = f (behind xs) in cond (eqb (head xs) b) more broken

-- With the length that follows.
abbrev pub with_length : (Length → Sentence) → LengthRead → Read
with_length f no_length = broken
with_length f (length_read l rest) = read (f l) rest

-- A leaf number: one digit or more, the first not 0.
unfoldable pub leaf_in : List ℕ → Read
unfolding digits past_digits length_in
leaf_in xs =
    let ds = digits xs in
    let more = with_length (number ds) (length_in (past_digits xs)) in
    cond (eqb (length ds) 0 || eqb (head xs) 48) broken more

-- A group whose parenthesis was read: two subtrees with a comma, a closing parenthesis, a length. `sub` reads a subtree.
unfoldable pub group_by : (List ℕ → Read) → List ℕ → Read
unfolding length_in
group_by sub xs =
    and_then (sub xs) (λ a rest. expect comma rest (λ rest. and_then (sub rest) (λ b rest.
    expect closing rest (λ rest. with_length (group a b) (length_in rest)))))

-- A subtree, where that many groups more may be opened: a group or a leaf number.
unfoldable pub subtree_in : ℕ → List ℕ → Read
unfolding group_by leaf_in
subtree_in zero xs = cond (eqb (head xs) opening) broken (leaf_in xs)
subtree_in (suc d) xs = let inside = group_by (subtree_in d) (behind xs) in cond (eqb (head xs) opening) inside (leaf_in xs)

-- Nothing, or one line feed.
unfoldable pub is_end : List ℕ → Bool
is_end [] = true
is_end (x ∷ []) = eqb x line_feed
is_end (x ∷ y ∷ xs) = false

-- The whole text: a subtree, a semicolon, and the end.
unfoldable pub text_read : List ℕ → Read
unfolding subtree_in is_end
text_read text =
    and_then (subtree_in most_open text) (λ s rest. expect semicolon rest (λ rest. cond (is_end rest) (read s []) broken))
