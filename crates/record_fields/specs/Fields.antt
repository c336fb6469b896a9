-- The record (docs/RECORD.md): what its bytes say, where its parts stand, and the bytes that parts make.
use Rattle.std.specs.Prelude.{ℕ, ◌+◌, ◌-◌, ◌*◌, ◌/◌, ◌%◌, ◌≤◌, ◌≡◌, List, [], ◌∷◌, ◌++◌, map, length, get_or, take, drop}
use Rattle.tanglegram.specs.Lists.{range}
use Rattle.record_fields.specs.Letters.{letter_t, letter_g, letter_p}

-- The number of two bytes at a place, the high byte first.
abbrev pub two : List ℕ → ℕ → ℕ
two s k = get_or s k 0 * 256 + get_or s (k + 1) 0

-- The m numbers of two bytes from place k on, and the m bytes from place k on.
unfoldable pub numbers : List ℕ → ℕ → ℕ → List ℕ
numbers s k m = map (λ i. two s (k + 2 * i)) (range 0 m)

abbrev pub bytes : List ℕ → ℕ → ℕ → List ℕ
bytes s k m = take m (drop k s)

-- The bytes of a list of numbers.
unfoldable pub split : List ℕ → List ℕ
split [] = []
split (x ∷ xs) = x / 256 ∷ x % 256 ∷ split xs

-- The most leaves of a record, entries of a hand list, and turns of a run.
abbrev pub most_leaves : ℕ
most_leaves = 512

abbrev pub most_hands : ℕ
most_hands = 1024

abbrev pub most_turns : ℕ
most_turns = 130818

-- Where the version, the hold and n stand, and where the left rows begin.
abbrev pub version_at : ℕ
version_at = 3

abbrev pub hold_at : ℕ
hold_at = 5

abbrev pub size_at : ℕ
size_at = 6

abbrev pub left_at : ℕ
left_at = 8

abbrev pub hold_of : List ℕ → ℕ
hold_of s = get_or s hold_at 0

abbrev pub size_of : List ℕ → ℕ
size_of s = two s size_at

-- Where the other parts of a record over n leaves begin; the record's length.
abbrev pub right_at : ℕ → ℕ
right_at n = left_at + 4 * (n - 1)

abbrev pub links_at : ℕ → ℕ
links_at n = left_at + 8 * (n - 1)

abbrev pub left_layout_at : ℕ → ℕ
left_layout_at n = links_at n + 2 * n

abbrev pub right_layout_at : ℕ → ℕ
right_layout_at n = left_layout_at n + (n - 1)

abbrev pub length_of : ℕ → ℕ
length_of n = 12 * n - 2

-- What is in a record. Rows are flat, upper then lower.
pub record Parts : Type 0 where
  pub hold : ℕ
  pub size : ℕ
  pub left_rows : List ℕ
  pub right_rows : List ℕ
  pub links : List ℕ
  pub left_layout : List ℕ
  pub right_layout : List ℕ

abbrev pub given : ℕ → ℕ → List ℕ → List ℕ → List ℕ → List ℕ → List ℕ → Parts
given h n left right links left_layout right_layout = record {
  hold = h;
  size = n;
  left_rows = left;
  right_rows = right;
  links = links;
  left_layout = left_layout;
  right_layout = right_layout;
}

-- The parts read from bytes as a record over n leaves, and as a record over as many leaves as it says.
unfoldable pub parts_of : List ℕ → ℕ → Parts
parts_of s n = record {
  hold = hold_of s;
  size = n;
  left_rows = numbers s left_at (2 * (n - 1));
  right_rows = numbers s (right_at n) (2 * (n - 1));
  links = numbers s (links_at n) n;
  left_layout = bytes s (left_layout_at n) (n - 1);
  right_layout = bytes s (right_layout_at n) (n - 1);
}

abbrev pub parts : List ℕ → Parts
parts s = parts_of s (size_of s)

-- The bytes of a record with these parts: `TGP`, version 1, hold, n, then part after part.
abbrev pub opening : ℕ → ℕ → List ℕ
opening h n = letter_t ∷ letter_g ∷ letter_p ∷ 0 ∷ 1 ∷ h ∷ n / 256 ∷ n % 256 ∷ []

unfoldable pub packed : Parts → List ℕ
unfolding split
packed P =
    opening P.hold P.size
    ++ (split P.left_rows ++ (split P.right_rows ++ (split P.links ++ (P.left_layout ++ P.right_layout))))

-- A record over n leaves has the length that it should.
pub record Sized (s : List ℕ) (n : ℕ) : Type 0 where
  pub says : size_of s ≡ n
  pub some : 1 ≤ n
  pub most : n ≤ most_leaves
  pub whole : length s ≡ length_of n
