-- The calls of the desk: the name of each, how many words its line has, and which of them says the bytes that it is lent.
use Rattle.std.specs.Prelude.{ℕ, List, [], ◌∷◌, slice_get, Option, None, Some}
use Rattle.desk_words.specs.Words.{place_of, word_in}
use Rattle.desk_words.specs.Bytes.{bytes_in}
use Rattle.desk.specs.declared.calls.Call.{Call}
use Rattle.desk.specs.declared.calls.Call.TheVariants.{Check, Order, Count, Pairs, SquaredEntanglement, Thousandths}
use Rattle.desk.specs.declared.calls.Call.TheVariants.{Free, Run, Hands, Better, BetterCheck, Hold, Pack, Unpack}
use Rattle.desk.specs.declared.calls.Call.TheVariants.{NewickRead, NewickWrite, MergeRead, MergeWrite, Pin, TakeIn}

-- The names, as bytes: check, order, count, pairs, squared_entanglement, thousandths, free, run,
-- hands, better, better_check, hold, pack, unpack,
-- newick_read, newick_write, merge_read, merge_write, pin, take_in.
unfoldable pub names : List (List ℕ)
names =
    (99 ∷ 104 ∷ 101 ∷ 99 ∷ 107 ∷ []) ∷
    (111 ∷ 114 ∷ 100 ∷ 101 ∷ 114 ∷ []) ∷
    (99 ∷ 111 ∷ 117 ∷ 110 ∷ 116 ∷ []) ∷
    (112 ∷ 97 ∷ 105 ∷ 114 ∷ 115 ∷ []) ∷
    (115 ∷ 113 ∷ 117 ∷ 97 ∷ 114 ∷ 101 ∷ 100 ∷ 95 ∷ 101 ∷ 110 ∷ 116 ∷ 97 ∷ 110 ∷ 103 ∷ 108 ∷ 101 ∷ 109 ∷ 101 ∷ 110 ∷ 116 ∷ []) ∷
    (116 ∷ 104 ∷ 111 ∷ 117 ∷ 115 ∷ 97 ∷ 110 ∷ 100 ∷ 116 ∷ 104 ∷ 115 ∷ []) ∷
    (102 ∷ 114 ∷ 101 ∷ 101 ∷ []) ∷
    (114 ∷ 117 ∷ 110 ∷ []) ∷
    (104 ∷ 97 ∷ 110 ∷ 100 ∷ 115 ∷ []) ∷
    (98 ∷ 101 ∷ 116 ∷ 116 ∷ 101 ∷ 114 ∷ []) ∷
    (98 ∷ 101 ∷ 116 ∷ 116 ∷ 101 ∷ 114 ∷ 95 ∷ 99 ∷ 104 ∷ 101 ∷ 99 ∷ 107 ∷ []) ∷
    (104 ∷ 111 ∷ 108 ∷ 100 ∷ []) ∷
    (112 ∷ 97 ∷ 99 ∷ 107 ∷ []) ∷
    (117 ∷ 110 ∷ 112 ∷ 97 ∷ 99 ∷ 107 ∷ []) ∷
    (110 ∷ 101 ∷ 119 ∷ 105 ∷ 99 ∷ 107 ∷ 95 ∷ 114 ∷ 101 ∷ 97 ∷ 100 ∷ []) ∷
    (110 ∷ 101 ∷ 119 ∷ 105 ∷ 99 ∷ 107 ∷ 95 ∷ 119 ∷ 114 ∷ 105 ∷ 116 ∷ 101 ∷ []) ∷
    (109 ∷ 101 ∷ 114 ∷ 103 ∷ 101 ∷ 95 ∷ 114 ∷ 101 ∷ 97 ∷ 100 ∷ []) ∷
    (109 ∷ 101 ∷ 114 ∷ 103 ∷ 101 ∷ 95 ∷ 119 ∷ 114 ∷ 105 ∷ 116 ∷ 101 ∷ []) ∷
    (112 ∷ 105 ∷ 110 ∷ []) ∷
    (116 ∷ 97 ∷ 107 ∷ 101 ∷ 95 ∷ 105 ∷ 110 ∷ []) ∷
    []

-- The calls in the order of their names.
unfoldable pub calls : List Call
calls = Check ∷ Order ∷ Count ∷ Pairs ∷ SquaredEntanglement ∷ Thousandths ∷ Free ∷ Run ∷
    Hands ∷ Better ∷ BetterCheck ∷ Hold ∷ Pack ∷ Unpack ∷ NewickRead ∷ NewickWrite ∷ MergeRead ∷ MergeWrite ∷ Pin ∷ TakeIn ∷ []

-- The call of a name; none where it is none of them.
unfoldable pub call_named : List ℕ → Option Call
call_named name = slice_get calls (place_of name names)

-- How many words its line has, its name among them.
unfoldable pub words_of : Call → ℕ
words_of Check = 2
words_of Order = 4
words_of Count = 2
words_of Pairs = 2
words_of SquaredEntanglement = 2
words_of Thousandths = 2
words_of Free = 3
words_of Run = 3
words_of Hands = 3
words_of Better = 5
words_of BetterCheck = 5
words_of Hold = 3
words_of Pack = 9
words_of Unpack = 7
words_of NewickRead = 3
words_of NewickWrite = 4
words_of MergeRead = 4
words_of MergeWrite = 4
words_of Pin = 5
words_of TakeIn = 5

-- Which of them says the bytes that it is lent; none where it is lent none.
unfoldable pub lent_by : Call → Option ℕ
lent_by Check = Some 1
lent_by Order = Some 1
lent_by Count = Some 1
lent_by Pairs = Some 1
lent_by SquaredEntanglement = Some 1
lent_by Thousandths = Some 1
lent_by Free = Some 1
lent_by Run = Some 1
lent_by Hands = Some 1
lent_by Better = Some 1
lent_by BetterCheck = Some 1
lent_by Hold = Some 1
lent_by Pack = Some 8
lent_by Unpack = Some 1
lent_by NewickRead = Some 1
lent_by NewickWrite = Some 1
lent_by MergeRead = None
lent_by MergeWrite = Some 1
lent_by Pin = Some 1
lent_by TakeIn = Some 1

-- The bytes that a word of a line says, and none where no word says any.
abbrev pub said_at : Option ℕ → List ℕ → Option (List ℕ)
said_at None line = Some []
said_at (Some k) line = bytes_in (word_in line k)

-- The bytes that a line says its call is lent.
unfoldable pub lent_in : Call → List ℕ → Option (List ℕ)
lent_in call line = said_at (lent_by call) line
