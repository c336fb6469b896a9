-- The refusals 1 to 10, in their order (docs/CALLS.md). 0 is no refusal.
use Rattle.std.specs.Prelude.{ℕ, ◌≡◌, zero, suc, Bool, true, cond, not, ◌&&◌, ◌||◌, List, [], ◌∷◌, eqb, leb, ltb, length, get_or}
use Rattle.tanglegram.specs.Lists.{range}
use Rattle.work_trees.specs.Rows.{upper, lower}
use Rattle.work_tree_rule.specs.Rule.{among, bad_row}
use Rattle.record_fields.specs.Letters.{letter_t, letter_g, letter_p, letter_n, letter_l, letter_r, letter_b}
use Rattle.record_fields.specs.Fields.{two, most_leaves, version_at, hold_of, size_of, length_of, Parts, parts, Sized}

-- The number k if the test is met, else what comes after it; the first of two refusals.
infixr 10 ◌when◌else◌
abbrev pub ◌when◌else◌ : ℕ → Bool → ℕ → ℕ
k when b else r = cond b k r

abbrev pub or_else : ℕ → ℕ → ℕ
or_else zero r = r
or_else (suc k) r = suc k

-- Each entry passes a test.
unfoldable pub all : (ℕ → Bool) → List ℕ → Bool
all p [] = true
all p (x ∷ xs) = p x && all p xs

-- Bytes 0 to 2 are `TGP`.
unfoldable pub is_mark : List ℕ → Bool
is_mark s = eqb (get_or s 0 0) letter_t && (eqb (get_or s 1 0) letter_g && eqb (get_or s 2 0) letter_p)

-- One of the four letters `N`, `L`, `R`, `B`.
unfoldable pub is_hold : ℕ → Bool
is_hold x = eqb x letter_n || (eqb x letter_l || (eqb x letter_r || eqb x letter_b))

-- n is 0 or above 512.
unfoldable pub no_size : ℕ → Bool
no_size n = eqb n 0 || ltb most_leaves n

-- A row breaks the tree rule.
unfoldable pub breaks_rule : ℕ → List ℕ → Bool
unfolding bad_row
breaks_rule n rows = not (eqb (bad_row n (upper rows) (lower rows)) 0)

-- n links take each value from 1 to n.
unfoldable pub one_to_one : ℕ → List ℕ → Bool
unfolding all among
one_to_one n links = all (λ c. among c links) (range 1 n)

-- No byte is above 3.
unfoldable pub is_layout : List ℕ → Bool
unfolding all
is_layout bytes = all (λ x. leb x 3) bytes

-- The content of the parts.
unfoldable pub contents_refusal : Parts → ℕ
unfolding breaks_rule one_to_one is_layout
contents_refusal P =
    7 when breaks_rule P.size P.left_rows
    else 8 when breaks_rule P.size P.right_rows
    else 9 when not (one_to_one P.size P.links)
    else 10 when not (is_layout P.left_layout)
    else 10 when not (is_layout P.right_layout)
    else 0

-- The first eight bytes and the length.
unfoldable pub heading_refusal : List ℕ → ℕ
unfolding is_mark is_hold no_size
heading_refusal s =
    1 when ltb (length s) 8
    else 2 when not (is_mark s)
    else 3 when not (eqb (two s version_at) 1)
    else 4 when not (is_hold (hold_of s))
    else 5 when no_size (size_of s)
    else 6 when not (eqb (length s) (length_of (size_of s)))
    else 0

-- A record's refusal.
unfoldable pub refusal : List ℕ → ℕ
unfolding heading_refusal contents_refusal
refusal s = or_else (heading_refusal s) (contents_refusal (parts s))

-- Setting the hold's: the letter is tested before the record.
unfoldable pub set_hold_refusal : List ℕ → ℕ → ℕ
unfolding refusal is_hold
set_hold_refusal s letter = 4 when not (is_hold letter) else refusal s

-- An accepted record over n leaves.
pub record RecordOver (s : List ℕ) (n : ℕ) : Type 0 where
  pub accepted : refusal s ≡ 0
  pub sized : Sized s n
