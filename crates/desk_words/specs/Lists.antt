-- The numbers that a word says with commas between: a list's entries, or hands.
use Rattle.std.specs.Prelude.{ℕ, ◌+◌, ◌*◌, cond, List, [], ◌∷◌, ltb, length, take, Option, None, Some}
use Rattle.desk_words.specs.Words.{up_to_stop, behind, pieces, dash}
use Rattle.desk_words.specs.Numbers.{number_in}
use Rattle.desk_words.specs.Bytes.{joined}

-- What each part says, where each says an entry.
unfoldable pub each_in : {A : Type 0} → (List ℕ → Option A) → List (List ℕ) → Option (List A)
each_in f [] = Some []
each_in f (p ∷ ps) = joined (f p) (each_in f ps)

-- What a word says part by part: nothing for a dash, else what its parts between commas say.
unfoldable pub entries_in : {A : Type 0} → (List ℕ → Option A) → List ℕ → Option (List A)
entries_in f word = cond (dash word) (Some []) (each_in f (pieces 44 word))

-- The list that a word says: 16-bit numbers.
unfoldable pub list_in : List ℕ → Option (List ℕ)
list_in word = entries_in (number_in 65535) word

-- A hand as one number: the side times 65,536 and the row.
abbrev pub hand_number : Option ℕ → Option ℕ → Option ℕ
hand_number None row = None
hand_number (Some side) None = None
hand_number (Some side) (Some row) = Some (65536 * side + row)

-- The hand that a word says: the side before the first colon, the row behind it.
unfoldable pub hand_said : List ℕ → Option ℕ
hand_said word =
    cond (ltb (up_to_stop 58 word) (length word))
    (hand_number (number_in 65535 (take (up_to_stop 58 word) word)) (number_in 65535 (behind 58 word)))
    None

-- The hands that a word says.
unfoldable pub hands_in : List ℕ → Option (List ℕ)
hands_in word = entries_in hand_said word
