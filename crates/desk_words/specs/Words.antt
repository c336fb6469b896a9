-- The words of a line and the entries of a list: what stands between the places of one byte, the space or the comma.
use Rattle.std.specs.Prelude.{ℕ, suc, ◌<◌, ◌≡◌, Bool, true, false, cond, ◌&&◌, eqb, ltb}
use Rattle.std.specs.Prelude.{List, [], ◌∷◌, get_or, take, drop, length, Option, None, Some, MatchOption}
use denote.Ref.{Bor}

-- How many bytes stand before the first `stop`; all of them where there is none.
unfoldable pub up_to_stop : ℕ → List ℕ → ℕ
up_to_stop stop [] = 0
up_to_stop stop (x ∷ s) = cond (eqb x stop) 0 (suc (up_to_stop stop s))

-- Where the first `stop` stands, if there is one.
unfoldable pub stop_in : ℕ → List ℕ → Option ℕ
stop_in stop s = cond (ltb (up_to_stop stop s) (length s)) (Some (up_to_stop stop s)) None

-- What stands behind the first `stop`; nothing where there is none.
unfoldable pub behind : ℕ → List ℕ → List ℕ
behind stop s = drop (suc (up_to_stop stop s)) s

-- The first part of a text, up to the first `stop`, and what stands behind that, where there is one.
pub record Cut (stop : ℕ) (s part : List ℕ) (rest : Option (Bor (List ℕ))) : Type 0 where
  pub before : part ≡ take (up_to_stop stop s) s
  pub after : MatchOption rest (up_to_stop stop s ≡ length s) (λ r. (up_to_stop stop s < length s) × (r.now ≡ behind stop s))

-- A byte more at the front of the first part.
abbrev pub grown : ℕ → List (List ℕ) → List (List ℕ)
grown x [] = []
grown x (p ∷ ps) = (x ∷ p) ∷ ps

-- The parts of a text between its `stop`s: one more than there are `stop`s.
unfoldable pub pieces : ℕ → List ℕ → List (List ℕ)
pieces stop [] = [] ∷ []
pieces stop (x ∷ s) = let ps = pieces stop s in cond (eqb x stop) ([] ∷ ps) (grown x ps)

-- Word k of a line, counted from 0; empty where the line has fewer.
unfoldable pub word_in : List ℕ → ℕ → List ℕ
word_in line k = get_or (pieces 32 line) k []

-- A word that is one dash: it stands for nothing.
abbrev pub dash : List ℕ → Bool
dash [] = false
dash (x ∷ []) = eqb x 45
dash (x ∷ y ∷ s) = false

-- Two texts are the same.
unfoldable pub same_text : List ℕ → List ℕ → Bool
same_text [] [] = true
same_text [] (y ∷ t) = false
same_text (x ∷ s) [] = false
same_text (x ∷ s) (y ∷ t) = eqb x y && same_text s t

-- Which of some words a name is, counted from 0; their number where it is none of them.
unfoldable pub place_of : List ℕ → List (List ℕ) → ℕ
place_of name [] = 0
place_of name (w ∷ ws) = cond (same_text w name) 0 (suc (place_of name ws))

-- The same; none where it is none of them.
unfoldable pub placed : List ℕ → List (List ℕ) → Option ℕ
placed name ws = cond (ltb (place_of name ws) (length ws)) (Some (place_of name ws)) None
