-- An order proposed for a tree over n leaves: which lists are one, as a test that can be carried out, and the layout that one shows.
use Rattle.std.specs.Prelude.{ℕ, ◌-◌, ◌≡◌, Bool, cond, ◌&&◌, List, [], ◌∷◌, eqb, leb, length, take, replicate}
use Rattle.tanglegram.specs.Order.{order, reading}
use Rattle.tanglegram.specs.declared.side.Side.{Side}
use Rattle.tanglegram.specs.Tree.{Tree}
use Rattle.record_fields.specs.Meaning.{table_of}

-- Two lists have the same entries in the same places.
unfoldable pub same : List ℕ → List ℕ → Bool
same [] [] = Bool.true
same [] (y ∷ ys) = Bool.false
same (x ∷ xs) [] = Bool.false
same (x ∷ xs) (y ∷ ys) = eqb x y && same xs ys

-- The layout that the first n entries show, no row pinned.
abbrev pub shown_layout : ℕ → Tree → List ℕ → List ℕ
shown_layout n t xs = reading (take n xs) t (replicate (n - 1) 0)

-- The first n entries are an order that a layout gives; by a theorem, exactly the compatible orders.
unfoldable pub is_order : ℕ → Tree → List ℕ → Bool
unfolding same order reading
is_order n t xs = leb n (length xs) && same (order (shown_layout n t xs) t) (take n xs)

-- Whether xs is an order of a side was told; where it has n entries the layout that they show was written over lay.
pub record OrderRead (s : List ℕ) (n : ℕ) (side : Side) (xs lay : List ℕ) (answer : Bool) (after : List ℕ) : Type 0 where
  pub tells : answer ≡ is_order n ((table_of s).tree side) xs
  pub writes : after ≡ cond (leb n (length xs)) (reading (take n xs) ((table_of s).tree side) lay) lay
