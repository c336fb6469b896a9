-- The grammar: which sentences are good, and which texts spell one. A leaf number is digits, the first not 0. A length is digits with at
-- most one point among them and at least one digit. At most 511 groups are open at once. A semicolon ends the text, and one line feed may
-- follow it.
use Rattle.std.specs.Prelude.{ℕ, ◌+◌, ◌≤◌, ◌≡◌, ◌≢◌, ◌⊎◌, List, [], ◌∷◌, ◌++◌, length, get_or}
use Rattle.tanglegram.specs.Lists.{Each}
use Rattle.newick.specs.Sentence.{Length, none, whole, pointed, Sentence, number, group, spell, opens, semicolon, line_feed}

abbrev pub most_open : ℕ
most_open = 511

abbrev pub Digit : ℕ → Type 0
Digit x = (48 ≤ x) × (x ≤ 57)

abbrev pub GoodLength : Length → Type 0
GoodLength none = Unit {0}
GoodLength (whole ds) = Each Digit ds × (1 ≤ length ds)
GoodLength (pointed ds es) = Each Digit ds × Each Digit es × (1 ≤ length ds + length es)

abbrev pub Good : Sentence → Type 0
Good (number ds l) = Each Digit ds × (1 ≤ length ds) × (get_or ds 0 0 ≢ 48) × GoodLength l
Good (group a b l) = Good a × Good b × GoodLength l

-- A text spells a sentence.
pub record Spells (text : List ℕ) (s : Sentence) : Type 0 where
  pub good : Good s
  pub few_open : opens s ≤ most_open
  pub spelled : (text ≡ spell s ++ (semicolon ∷ [])) ⊎ (text ≡ spell s ++ (semicolon ∷ line_feed ∷ []))
