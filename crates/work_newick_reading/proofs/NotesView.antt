-- The notes as one list: where the three counts stand in it, and what writing them or an entry of a row makes of it. What their count of
-- leaves tells.
use Rattle.std.specs.Prelude.{Some, None}
use Prim.Native.Nat.{ℕ, ◌+◌, ◌-◌, ◌*◌, ◌≤◌, ◌<◌}
use mathlib.Core.Path.{◌≡◌, refl}
use mathlib.Core.Logic.{◌≢◌}
use mathlib.Core.Bool.{cond}
use mathlib.Core.List.{List, [], ◌∷◌, ◌++◌}
use native.Mathlib.Decide.{ℕ_discrete}
use native.Mathlib.Omega.{arith}
use borrow.Author.Tests.{lt-ltb, le-ltb, eq-eqb, ne_eqb}
use lib.Dec.{eqb}
use lib.ListN.{length, set, length-set}
use Rattle.std.proofs.lemmas.List.{get_or-append_right, set-append_left, set-append_right}
use Rattle.work_newick_reading.specs.Notes.{closed_in, last_in, open_in, closed}

-- the rows, how many groups have closed, what was read last, how many groups are open
abbrev pub all : List ℕ → ℕ → ℕ → ℕ → List ℕ
all rows c l o = rows ++ (c ∷ l ∷ o ∷ [])

module _ (rows : List ℕ) (long : length rows ≡ 1022) (c l o : ℕ) where
  closed-is : closed_in (all rows c l o) ≡ c
  closed-is = get_or-append_right rows (c ∷ l ∷ o ∷ []) 1022 1022 0 long (omega arith)

  last_is : last_in (all rows c l o) ≡ l
  last_is = get_or-append_right rows (c ∷ l ∷ o ∷ []) 1022 1023 0 long (omega arith)

  open_is : open_in (all rows c l o) ≡ o
  open_is = get_or-append_right rows (c ∷ l ∷ o ∷ []) 1022 1024 0 long (omega arith)

  set-closed : (v : ℕ) → set (all rows c l o) 1022 v ≡ all rows v l o
  set-closed v = set-append_right rows (c ∷ l ∷ o ∷ []) 1022 1022 v long (omega arith)

  set-last : (v : ℕ) → set (all rows c l o) 1023 v ≡ all rows c v o
  set-last v = set-append_right rows (c ∷ l ∷ o ∷ []) 1022 1023 v long (omega arith)

  set_open : (v : ℕ) → set (all rows c l o) 1024 v ≡ all rows c l v
  set_open v = set-append_right rows (c ∷ l ∷ o ∷ []) 1022 1024 v long (omega arith)

  set_entry : (k v : ℕ) → k < 1022 → set (all rows c l o) k v ≡ all (set rows k v) c l o
  set_entry k v h = set-append_left rows (c ∷ l ∷ o ∷ []) k v (omega arith)

-- a group closes, whose row is noted
pub closed-noted : (rows : List ℕ) (c l o first : ℕ) → length rows ≡ 1022 → c < 511 →
    all (set (set rows (2 * c) first) (2 * c + 1) l) (c + 1) (1024 + c) (o - 1) ≡ closed first (all rows c l o)
unfolding closed
closed-noted rows c l o first long few =
    let one = set rows (2 * c) first in
    let both = set one (2 * c + 1) l in
    let long₁ : length one ≡ 1022 = simp length-set long in
    let long₂ : length both ≡ 1022 = simp (length-set, length-set) long in
    rw (
      open_is rows long c l o,
      set_open rows long c l o (o - 1),
      closed-is rows long c l (o - 1),
      lt-ltb c 511 few,
      set_entry rows long c l (o - 1) (2 * c) first (omega arith),
      last_is one long₁ c l (o - 1),
      set_entry one long₁ c l (o - 1) (2 * c + 1) l (omega arith),
      set-closed both long₂ c l (o - 1) (c + 1),
      set-last both long₂ (c + 1) l (o - 1) (1024 + c),
    ) refl

-- one closes for whose row there is no room
pub closed-many : (rows : List ℕ) (c l o first : ℕ) → length rows ≡ 1022 → 511 ≤ c →
    all rows 512 l (o - 1) ≡ closed first (all rows c l o)
unfolding closed
closed-many rows c l o first long many =
    rw (
      open_is rows long c l o,
      set_open rows long c l o (o - 1),
      closed-is rows long c l (o - 1),
      le-ltb c 511 many,
      set-closed rows long c l (o - 1) 512,
    ) refl

-- ---- how many leaves there are: the number that an answer is, or 0 where there is none

pub counted : (n c : ℕ) → Some n ≡ cond (eqb c 512) None (Some (c + 1)) → (n ≡ cond (eqb c 512) 0 (c + 1)) × (n ≢ 0)
counted n c h = go (ℕ_discrete c 512)
  where
    go : Dec (c ≡ 512) → (n ≡ cond (eqb c 512) 0 (c + 1)) × (n ≢ 0)
    go (yes e) = let none = rw (eq-eqb c 512 e) at h in cc
    go (no e) =
        let some = rw (ne_eqb c 512 e) at h in
        let same : n ≡ c + 1 = cc in
        (rw (ne_eqb c 512 e) same, λ z. absurd (omega arith))

pub uncounted : (c : ℕ) → None ≡ cond (eqb c 512) None (Some (c + 1)) → 0 ≡ cond (eqb c 512) 0 (c + 1)
uncounted c h = go (ℕ_discrete c 512)
  where
    go : Dec (c ≡ 512) → 0 ≡ cond (eqb c 512) 0 (c + 1)
    go (yes e) = rw (eq-eqb c 512 e) refl
    go (no e) = let some = rw (ne_eqb c 512 e) at h in cc
