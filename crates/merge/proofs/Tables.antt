-- Tables and rows, there and back. Each place of a table is the upper or the lower place of one of its rows.
use Prim.Native.Nat.{ℕ, zero, suc, pred, ◌+◌, ◌-◌, ◌*◌, ◌≤◌, ◌<◌}
use mathlib.Core.Path.{◌≡◌, refl, sym, ap, ◌∙◌}
use mathlib.Core.Logic.{◌⊎◌, inl, inr}
use mathlib.Core.Bool.{Bool, true, false, ◌||◌, true≢false}
use mathlib.Core.List.{List}
use native.Mathlib.Decide.{ℕ_discrete}
use native.Mathlib.Omega.{arith}
use lib.IntN.{ℤ, pos}
use lib.ListN.{length, get_or, length-map, get_or-map}
use lib.Seq.{ext_get_or}
use Rattle.tanglegram.specs.Lists.{range}
use Rattle.tanglegram.specs.Tree.{Rule}
use Rattle.tanglegram.proofs.Bools.{or_neither}
use Rattle.work_trees.specs.Rows.{upper, lower}
use Rattle.merge.specs.Entries.{Names, NamesNone, named_by, entry_for, names_none}
use Rattle.merge.specs.Tables.{rows_in, table_for, upper_entry, lower_entry, any, row_none, some_none, EntryNone}
use Rattle.merge.proofs.Entries.{names-some, none_tested, tested_none, none-later, entry_zero, entry_back, named_back}

-- ---- places

-- place k is the upper or the lower place of row i
record PlaceOf (k i : ℕ) : Type 0 where
  from : 1 ≤ i
  at : (k ≡ 2 * pred i) ⊎ (k ≡ 2 * pred i + 1)

row_of : (k : ℕ) → (i : ℕ) × PlaceOf k i
row_of zero = (1, record { from = omega arith; at = inl refl })
row_of (suc zero) = (1, record { from = omega arith; at = inr refl })
row_of (suc (suc k)) = next (row_of k)
  where
    later : (i : ℕ) → 1 ≤ i → (k ≡ 2 * pred i) ⊎ (k ≡ 2 * pred i + 1) → (suc (suc k) ≡ 2 * i) ⊎ (suc (suc k) ≡ 2 * i + 1)
    later i h (inl e) = inl (omega arith)
    later i h (inr e) = inr (omega arith)

    next : (i : ℕ) × PlaceOf k i → (i : ℕ) × PlaceOf (suc (suc k)) i
    next (i, r) = (suc i, record { from = omega arith; at = later i r.from r.at })

-- what is true of both places of each row is true of each place
pub by_rows : (n : ℕ) (P : ℕ → Type 0) → ((i : ℕ) → 1 ≤ i → i < n → P (2 * pred i) × P (2 * pred i + 1)) → (k : ℕ) → k < 2 * (n - 1) → P k
by_rows n P h k l = go (row_of k)
  where
    split : (i : ℕ) → 1 ≤ i → (k ≡ 2 * pred i) ⊎ (k ≡ 2 * pred i + 1) → P k
    split i p (inl e) = rw e (h i p (omega arith)).0
    split i p (inr e) = rw e (h i p (omega arith)).1

    go : (i : ℕ) × PlaceOf k i → P k
    go (i, r) = split i r.from r.at

-- ---- one of some numbers

pub any_none : (p : ℕ → Bool) (k m : ℕ) → any p (range k m) ≡ false → (i : ℕ) → k ≤ i → i < k + m → p i ≡ false
unfolding any range
any_none p k zero h i a b = absurd (omega arith)
any_none p k (suc m) h i a b = go (any_none p (suc k) m r.1 i) (ℕ_discrete k i)
  where
    r : (p k ≡ false) × (any p (range (suc k) m) ≡ false)
    r = or_neither (p k) (any p (range (suc k) m)) h

    go : (suc k ≤ i → i < suc k + m → p i ≡ false) → Dec (k ≡ i) → p i ≡ false
    go later (yes e) = rw (← e) r.0
    go later (no e) = later (omega arith) (omega arith)

pub none_any : (p : ℕ → Bool) (k m : ℕ) → ((i : ℕ) → k ≤ i → i < k + m → p i ≡ false) → any p (range k m) ≡ false
unfolding any range
none_any p k zero h = refl
none_any p k (suc m) h =
    rw (h k (omega arith) (omega arith)) (none_any p (suc k) m (λ i a b. h i (omega arith) (omega arith)))

pub any_some : (p : ℕ → Bool) (k m : ℕ) → any p (range k m) ≡ true → (i : ℕ) × (k ≤ i) × (i < k + m) × (p i ≡ true)
unfolding any range
any_some p k zero h = absurd (true≢false (sym h))
any_some p k (suc m) h = go (p k) refl (any_some p (suc k) m)
  where
    go : (b : Bool) → p k ≡ b → (any p (range (suc k) m) ≡ true → (i : ℕ) × (suc k ≤ i) × (i < suc k + m) × (p i ≡ true)) →
        (i : ℕ) × (k ≤ i) × (i < k + suc m) × (p i ≡ true)
    go true e later = (k, omega arith, omega arith, e)
    go false e later = let r = later (rw e at h) in (r.0, omega (arith, r.1), omega (arith, r.2), r.3)

-- ---- the entries of rows

module _ (n : ℕ) (table : List ℤ) where
  -- the rows have the objects that the entries name
  pub row_entry : (k : ℕ) → get_or (rows_in n table) k 0 ≡ named_by n (get_or table k (pos 0))
  unfolding rows_in named_by
  row_entry k = get_or-map (named_by n) table k (pos 0)

  pub length-rows : length (rows_in n table) ≡ length table
  unfolding rows_in
  length-rows = length-map table (named_by n)

  -- where no entry names none, each row's two entries name objects that the row can have
  module _ (named : some_none n table ≡ false) where
    pub row_named : (i : ℕ) → 1 ≤ i → i < n → (names_none n i (upper_entry table i) ≡ false) × (names_none n i (lower_entry table i) ≡ false)
    unfolding some_none
    row_named i p q =
        or_neither (names_none n i (upper_entry table i)) (names_none n i (lower_entry table i))
        (any_none (row_none n table) 1 (pred n) named i p (omega arith))

    -- and may stand in any row from n on, too
    pub place-later : (m : ℕ) → n ≤ m → (k : ℕ) → k < 2 * (n - 1) → names_none n m (get_or table k (pos 0)) ≡ false
    place-later m l =
        by_rows n (λ k. names_none n m (get_or table k (pos 0)) ≡ false)
        (λ i p q. let r = row_named i p q in
        (none-later n i m (upper_entry table i) (omega arith) r.0, none-later n i m (lower_entry table i) (omega arith) r.1))

    pub place-named : (k : ℕ) → k < 2 * (n - 1) → Names n (get_or table k (pos 0)) (named_by n (get_or table k (pos 0)))
    place-named =
        by_rows n (λ k. Names n (get_or table k (pos 0)) (named_by n (get_or table k (pos 0))))
        (λ i p q. let r = row_named i p q in
        ((names-some n i p (upper_entry table i) r.0).0, (names-some n i p (lower_entry table i) r.1).0))

-- an entry that names none is found
module _ (n : ℕ) (table : List ℤ) where
  pub none_where : some_none n table ≡ true → EntryNone n table
  unfolding some_none
  none_where h = go (any_some (row_none n table) 1 (pred n) h)
    where
      side : (i : ℕ) (b : Bool) → names_none n i (upper_entry table i) ≡ b → (b || names_none n i (lower_entry table i)) ≡ true →
          NamesNone n i (upper_entry table i) ⊎ NamesNone n i (lower_entry table i)
      side i true e t = inl (tested_none n i (upper_entry table i) e)
      side i false e t = inr (tested_none n i (lower_entry table i) t)

      go : (i : ℕ) × (1 ≤ i) × (i < 1 + pred n) × (row_none n table i ≡ true) → EntryNone n table
      go (i, p, q, t) = record { row = i; is_row = (p, omega arith); none = side i (names_none n i (upper_entry table i)) refl t }

  pub named-nowhere : some_none n table ≡ false → EntryNone n table → ⊥
  named-nowhere h e = no e.none
    where
      r : (names_none n e.row (upper_entry table e.row) ≡ false) × (names_none n e.row (lower_entry table e.row) ≡ false)
      r = row_named n table h e.row e.is_row.0 e.is_row.1

      no : NamesNone n e.row (upper_entry table e.row) ⊎ NamesNone n e.row (lower_entry table e.row) → ⊥
      no (inl x) = true≢false (sym (none_tested n e.row x) ∙ r.0)
      no (inr x) = true≢false (sym (none_tested n e.row x) ∙ r.1)

-- the table has the entries for the objects
pub table_entry : (n : ℕ) (rows : List ℕ) (k : ℕ) → get_or (table_for n rows) k (pos 0) ≡ entry_for n (get_or rows k 0)
unfolding table_for
table_entry n rows k = ap (get_or (table_for n rows) k) (sym (entry_zero n)) ∙ get_or-map (entry_for n) rows k 0

-- ---- there and back

-- the table of the rows that a table says is the table
pub table_back : (n : ℕ) (table : List ℤ) → length table ≡ 2 * (n - 1) → some_none n table ≡ false → table_for n (rows_in n table) ≡ table
unfolding table_for
table_back n table long named =
    ext_get_or (pos 0) (table_for n (rows_in n table)) table size
    (λ k l. at k (omega (arith, size)))
  where
    size : length (table_for n (rows_in n table)) ≡ length table
    size = length-map (rows_in n table) (entry_for n) ∙ length-rows n table

    at : (k : ℕ) → k < 2 * (n - 1) → get_or (table_for n (rows_in n table)) k (pos 0) ≡ get_or table k (pos 0)
    at k l =
        table_entry n (rows_in n table) k ∙ ap (entry_for n) (row_entry n table k)
        ∙ named_back n (place-named n table named k l)

-- the rows that the table of rows says are the rows
pub rows_back : (n : ℕ) (rows : List ℕ) → length rows ≡ 2 * (n - 1) → Rule n (upper rows) (lower rows) → rows_in n (table_for n rows) ≡ rows
unfolding table_for
rows_back n rows long rule =
    ext_get_or 0 (rows_in n (table_for n rows)) rows size (λ k l. at k (omega (arith, size)))
  where
    size : length (rows_in n (table_for n rows)) ≡ length rows
    size = length-rows n (table_for n rows) ∙ length-map rows (entry_for n)

    least : (k : ℕ) → k < 2 * (n - 1) → 1 ≤ get_or rows k 0
    least = by_rows n (λ k. 1 ≤ get_or rows k 0) (λ i p q. ((rule i p q).upper_least, (rule i p q).lower_least))

    at : (k : ℕ) → k < 2 * (n - 1) → get_or (rows_in n (table_for n rows)) k 0 ≡ get_or rows k 0
    at k l =
        row_entry n (table_for n rows) k ∙ ap (named_by n) (table_entry n rows k) ∙ entry_back n (get_or rows k 0) (least k l)
