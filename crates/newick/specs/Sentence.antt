-- What a Newick text says, and how it is spelled. A sentence is a leaf number with its digits, or a group of two sentences; each may
-- carry a length, which is kept as it is written. A text is a list of bytes.
use Rattle.std.specs.Prelude.{ℕ, suc, ◌+◌, ◌*◌, ◌-◌, max, List, [], ◌∷◌, ◌++◌, length}

-- The bytes that have a meaning beside the digits 0 to 9, which are 48 to 57.
abbrev pub opening : ℕ
opening = 40

abbrev pub closing : ℕ
closing = 41

abbrev pub comma : ℕ
comma = 44

abbrev pub point : ℕ
point = 46

abbrev pub colon : ℕ
colon = 58

abbrev pub semicolon : ℕ
semicolon = 59

abbrev pub line_feed : ℕ
line_feed = 10

-- A length as written: none; a colon and digits; a colon, digits, a point and digits.
pub data Length : Type 0 where
  none : Length
  whole : List ℕ → Length
  pointed : List ℕ → List ℕ → Length

-- A leaf with the digits of its number, or a group; each with its length.
pub data Sentence : Type 0 where
  number : List ℕ → Length → Sentence
  group : Sentence → Sentence → Length → Sentence

-- How they are spelled.
unfoldable pub spell_length : Length → List ℕ
spell_length none = []
spell_length (whole ds) = colon ∷ ds
spell_length (pointed ds es) = colon ∷ (ds ++ (point ∷ es))

unfoldable pub spell : Sentence → List ℕ
unfolding spell_length
spell (number ds l) = ds ++ spell_length l
spell (group a b l) = opening ∷ (spell a ++ (comma ∷ (spell b ++ (closing ∷ spell_length l))))

-- The most groups that are open at once, and how many groups there are.
unfoldable pub opens : Sentence → ℕ
opens (number ds l) = 0
opens (group a b l) = suc (max (opens a) (opens b))

unfoldable pub groups : Sentence → ℕ
groups (number ds l) = 0
groups (group a b l) = suc (groups a + groups b)

-- The number that digits say; the leaf numbers in the order of the text; how many leaves there are.
unfoldable pub value_from : ℕ → List ℕ → ℕ
value_from x [] = x
value_from x (d ∷ ds) = value_from (10 * x + (d - 48)) ds

abbrev pub value : List ℕ → ℕ
value ds = value_from 0 ds

unfoldable pub leaf_numbers : Sentence → List ℕ
unfolding value_from
leaf_numbers (number ds l) = value ds ∷ []
leaf_numbers (group a b l) = leaf_numbers a ++ leaf_numbers b

abbrev pub leaf_count : Sentence → ℕ
leaf_count s = length (leaf_numbers s)
