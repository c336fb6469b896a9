-- What a function does that puts what a word says into a buffer.
use Rattle.std.specs.Prelude.{ℕ, ◌≤◌, ◌≡◌, cond, List, ◌++◌, leb, length, drop, Option, None, Some}

-- How many places of a buffer are filled; none where the word says no such thing or there is no room.
unfoldable pub places_filled : {A : Type 0} → Option (List A) → ℕ → Option ℕ
places_filled None room = None
places_filled (Some xs) room = cond (leb (length xs) room) (Some (length xs)) None

-- The answer says how many places are filled; what is said stands in these places, and the others are as found.
pub record Puts {A : Type 0} (said : Option (List A)) (found : List A) (r : Option ℕ) (after : List A) : Type 0 where
  pub answers : r ≡ places_filled said (length found)
  pub puts : (xs : List A) → said ≡ Some xs → length xs ≤ length found → after ≡ xs ++ drop (length xs) found
