-- A line of text: some bytes, then numbers, each behind a space, and a line feed.
use Prim.Native.Char.{code}
use Rattle.std.specs.Prelude.{ℕ, List, [], ◌∷◌, ◌++◌}
use Prim.Native.String.{String, [] as nothing, ◌∷◌ as ◌then◌}
use Rattle.work_text.specs.Decimal.{decimal}

-- The bytes of a text of plain characters, as it is written here: `ascii "E"` is 69.
abbrev pub ascii : String → List ℕ
ascii nothing = []
ascii (c then t) = code c ∷ ascii t

-- The byte that stands before a number, and the one that ends a line.
abbrev pub space : ℕ
space = 32

abbrev pub line_feed : ℕ
line_feed = 10

-- A number behind a space; numbers, each behind one.
abbrev pub next : ℕ → List ℕ
next x = space ∷ decimal x

unfoldable pub spaced : List ℕ → List ℕ
spaced [] = []
spaced (x ∷ xs) = next x ++ spaced xs

unfoldable pub line : List ℕ → List ℕ → List ℕ
unfolding spaced
line first xs = first ++ (spaced xs ++ (line_feed ∷ []))
