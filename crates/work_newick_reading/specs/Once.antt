-- Leaves tested one after the other: each from 1 to n, and none twice.
use Rattle.std.specs.Prelude.{ℕ, pred, ◌≤◌, ◌<◌, ◌≡◌, Bool, true, false, cond, ◌||◌, List, [], ◌∷◌, eqb, leb, ltb, length}
use Rattle.work_tree_rule.specs.Rule.{among}
use Rattle.work_seen_places.specs.Seen.{is_marked, mark_at}

-- x can't be one more leaf, of 1 to n, where those in `seen` were before it.
unfoldable pub refused_leaf : ℕ → List ℕ → ℕ → Bool
unfolding among
refused_leaf n seen x = eqb x 0 || (ltb n x || among x seen)

-- Each leaf among the entries can be one more; entries from 1,024 on are no leaves.
unfoldable pub fresh : ℕ → List ℕ → List ℕ → Bool
unfolding refused_leaf
fresh n seen [] = true
fresh n seen (x ∷ xs) =
    let next = fresh n seen xs in
    let more = fresh n (x ∷ seen) xs in
    let leaf = cond (refused_leaf n seen x) false more in
    cond (leb 1024 x) next leaf

-- The words in which each leaf is marked that was seen (`work_seen_places/specs/Seen`): place q stands for leaf q + 1.
pub record Marked (seen w : List ℕ) : Type 0 where
  pub long : length w ≡ 8
  pub at_leaf : (v : ℕ) → 1 ≤ v → v ≤ 512 → is_marked w (pred v) ≡ among v seen

-- By the marks, x can't be one more leaf.
abbrev pub refused_by : List ℕ → ℕ → ℕ → Bool
refused_by w n x = eqb x 0 || (ltb n x || is_marked w (pred x))

-- An entry was tested: it is no leaf, and nothing was marked; or it can't be one more leaf; or it can, and is marked.
pub record MarkedMore (w : List ℕ) (x n : ℕ) (r : Bool) (w' : List ℕ) : Type 0 where
  pub no_leaf : 1024 ≤ x → (r ≡ true) × (w' ≡ w)
  pub leaf_refused : x < 1024 → refused_by w n x ≡ true → r ≡ false
  pub leaf_marked : x < 1024 → refused_by w n x ≡ false → (r ≡ true) × (w' ≡ mark_at w (pred x))
