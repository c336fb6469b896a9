-- How the test of the links keeps what it has seen, in eight words (`work_seen_places/specs/Seen`): place q stands for the number q + 1.
-- No statement of a call cites this.
use Rattle.std.specs.Prelude.{ℕ, pred, cond, ◌||◌, List, [], ◌∷◌, eqb, ltb}
use Rattle.work_seen_places.specs.Seen.{mark_at}

-- The words with x marked too, if it is from 1 to n.
abbrev pub marking : ℕ → List ℕ → ℕ → List ℕ
marking n w x = cond (eqb x 0 || ltb n x) w (mark_at w (pred x))

-- The words with each of the numbers xs marked too that is from 1 to n.
unfoldable pub marking_all : ℕ → List ℕ → List ℕ → List ℕ
marking_all n w [] = w
marking_all n w (x ∷ xs) = marking_all n (marking n w x) xs
