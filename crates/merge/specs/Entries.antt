-- What an entry of a merge table says. A merge table is how R's `hclust` keeps a tree: a pair of signed numbers for each row, where minus
-- a is leaf a and plus j is the object that row j makes. In a tree over n leaves that object is n + j. As an integer of the library,
-- `negsuc a` is minus (a + 1), and `pos j` is plus j.
use Rattle.std.specs.Prelude.{ℕ, suc, ◌+◌, ◌-◌, ◌≤◌, ◌<◌, Bool, cond, ◌||◌, eqb, leb, ltb, ℤ, pos, negsuc, neg_ℤ}

-- An entry names object k of a tree over n leaves: minus a names leaf a, from 1 to n, and plus j, from 1 on, names object n + j.
pub data Names (n : ℕ) : ℤ → ℕ → Type 0 where
  leaf : {a : ℕ} → a < n → Names n (negsuc a) (suc a)
  row : {j : ℕ} → 1 ≤ j → Names n (pos j) (n + j)

-- The object that an entry names; 0, which is no object, where it names none.
unfoldable pub named_by : ℕ → ℤ → ℕ
named_by n (pos j) = cond (eqb j 0) 0 (n + j)
named_by n (negsuc a) = cond (ltb a n) (suc a) 0

-- The entry that names object k: minus k for a leaf, plus (k - n) for a row's object.
unfoldable pub entry_for : ℕ → ℕ → ℤ
entry_for n k = cond (leb k n) (neg_ℤ (pos k)) (pos (k - n))

-- An entry of row i is zero, or names no leaf, or no earlier row; and the same as a test.
pub data NamesNone (n i : ℕ) : ℤ → Type 0 where
  zero_entry : NamesNone n i (pos 0)
  no_leaf : {a : ℕ} → n < suc a → NamesNone n i (negsuc a)
  no_earlier_row : {j : ℕ} → i ≤ j → NamesNone n i (pos j)

unfoldable pub names_none : ℕ → ℕ → ℤ → Bool
names_none n i (pos j) = eqb j 0 || leb i j
names_none n i (negsuc a) = leb n a
