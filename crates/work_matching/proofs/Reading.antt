-- The layout read off an order, row by row: at each object the place of its uppermost leaf is known from its row's upper entry.
use Prim.Native.Nat.{ℕ, suc, pred, ◌+◌, ◌*◌, ◌≤◌, ◌<◌}
use mathlib.Core.Path.{◌≡◌, refl, sym, ap, ap₂, ◌∙◌}
use mathlib.Core.List.Permᴰ
use mathlib.Core.List.{List}
use native.Mathlib.Decide.{ℕ_discrete}
use native.Mathlib.Omega.{arith}
use lib.Dec.{ltb}
use lib.ListN.{length, get_or, set, length-set}
use lib.Seq.{get_or-set_same, get_or-set_other, ext_get_or}
use Rattle.tanglegram.specs.Lists.{Each, Distinct, place, bit}
use Rattle.tanglegram.specs.Tree.{Tree, leaves, rows, Row}
use Rattle.tanglegram.specs.Order.{byte, uppermost, write, reading}
use Rattle.tanglegram.proofs.Lists.{each-mem, each-perm, distinct_perm, mem-perm, mem-range, range-each, range_distinct}
use Rattle.tanglegram.proofs.Tree.{object-leaf, object-fork, rows-each, leaves_once, rows_once}
use Rattle.tanglegram.proofs.Write.{length-write, write-written, written-rows}
use Rattle.work_trees.specs.Rows.{upper, lower, size, object_of, tree_of, GoodRows}

-- the place of an object's uppermost leaf
abbrev pub top_place : List ℕ → List ℕ → ℕ → ℕ
top_place T ys k = place ys (uppermost (object_of T k))

-- rows 1 to i - 1 have their bytes, and the objects so far the places of their uppermost leaves
pub record Read (T ys lay₀ at lay : List ℕ) (i : ℕ) : Type 0 where
  pub from : 1 ≤ i
  pub to : i ≤ size T
  pub at_long : length at ≡ 1024
  pub lay_long : length lay ≡ length lay₀
  pub tops : (k : ℕ) → k < size T + i → get_or at k 0 ≡ top_place T ys k
  pub bytes : (j : ℕ) → 1 ≤ j → j < i → byte lay j ≡ bit (ltb (top_place T ys (lower T j)) (top_place T ys (upper T j)))

module _ (T : List ℕ) (good : GoodRows T) where
  -- the tree has each leaf once and each row once
  pub leaves_distinct : Distinct (leaves (tree_of T))
  leaves_distinct =
      distinct_perm (Permᴰ.symm (leaves_once (size T) (upper T) (lower T) good.rule good.some)) (range_distinct 1 (size T))

  pub rows_distinct : Distinct (rows (tree_of T))
  rows_distinct =
      distinct_perm (Permᴰ.symm (rows_once (size T) (upper T) (lower T) good.rule good.some)) (range_distinct 1 (pred (size T)))

  pub rows-within : (lay : List ℕ) → length lay + 1 ≡ size T → Each (λ i. (1 ≤ i) × (i ≤ length lay)) (rows (tree_of T))
  rows-within lay h =
      each-perm (λ i. (1 ≤ i) × (i ≤ length lay)) (Permᴰ.symm (rows_once (size T) (upper T) (lower T) good.rule good.some))
      (range-each (λ i. (1 ≤ i) × (i ≤ length lay)) 1 (pred (size T)) (λ i p q. (p, omega arith)))

  module _ (ys lay₀ : List ℕ) where
    pub read_none : (at : List ℕ) → length at ≡ 1024 → ((v : ℕ) → v ≤ size T → get_or at v 0 ≡ place ys v) → Read T ys lay₀ at lay₀ 1
    unfolding uppermost
    read_none at h p = record {
      from = omega arith;
      to = good.some;
      at_long = h;
      lay_long = refl;
      tops = λ k q.
          let e = object-leaf (size T) (upper T) (lower T) good.rule k (omega arith) in
          p k (omega arith) ∙ ap (λ t. place ys (uppermost t)) (sym e);
      bytes = λ j p q. absurd (omega arith);
    }

    -- row i + 1, the one after the first i
    module _ (at lay : List ℕ) (i : ℕ) (read : Read T ys lay₀ at lay (suc i)) (here : suc i < size T) where
      kept : Row (size T) (upper T) (lower T) (suc i)
      kept = good.rule (suc i) read.from here

      -- its entries have their places noted
      pub upper-noted : get_or T (2 * i) 0 < 1024
      upper-noted = let c = kept in let most = good.most in omega arith

      pub lower-noted : get_or T (2 * i + 1) 0 < 1024
      lower-noted = let c = kept in let most = good.most in omega arith

      -- a branching's uppermost leaf is that of its upper child
      fork_top : top_place T ys (size T + suc i) ≡ top_place T ys (upper T (suc i))
      unfolding uppermost
      fork_top = ap (λ t. place ys (uppermost t)) (object-fork (size T) (upper T) (lower T) good.rule (suc i) read.from here)

      -- one row more
      abbrev u : ℕ
      u = get_or at (upper T (suc i)) 0

      abbrev l : ℕ
      l = get_or at (lower T (suc i)) 0

      more_tops : (k : ℕ) → k < size T + suc (i + 1) → Dec (k ≡ size T + i + 1) → get_or (set at (size T + i + 1) u) k 0 ≡ top_place T ys k
      more_tops k q (yes e) =
          let most = good.most in
          let long = read.at_long in
          let row : size T + i + 1 ≡ size T + suc i = omega arith in
          rw (e, get_or-set_same at (size T + i + 1) u 0 (omega arith), row) (read.tops _ kept.upper-below ∙ sym fork_top)
      more_tops k q (no e) = get_or-set_other at (size T + i + 1) k u 0 e ∙ read.tops k (omega arith)

      more_bytes : length lay₀ + 1 ≡ size T → (j : ℕ) → 1 ≤ j → j < suc (i + 1) → Dec (j ≡ suc i) →
          byte (set lay i (bit (ltb l u))) j ≡ bit (ltb (top_place T ys (lower T j)) (top_place T ys (upper T j)))
      more_bytes h j p q (yes e) =
          let n = read.lay_long in
          rw (e, get_or-set_same lay i (bit (ltb l u)) 0 (omega arith))
          (ap₂ (λ x y. bit (ltb x y)) (read.tops _ kept.lower-below) (read.tops _ kept.upper-below))
      more_bytes h j p q (no e) = get_or-set_other lay i (pred j) (bit (ltb l u)) 0 (omega arith) ∙ read.bytes j p (omega arith)

      pub read_more : length lay₀ + 1 ≡ size T → Read T ys lay₀ (set at (size T + i + 1) u) (set lay i (bit (ltb l u))) (suc (i + 1))
      read_more h = record {
        from = omega arith;
        to = omega arith;
        at_long = simp length-set read.at_long;
        lay_long = simp length-set read.lay_long;
        tops = λ k q. more_tops k q (ℕ_discrete k (size T + i + 1));
        bytes = λ j p q. more_bytes h j p q (ℕ_discrete j (suc i));
      }

    pub read_all : (at lay : List ℕ) → length lay₀ + 1 ≡ size T → Read T ys lay₀ at lay (size T) → lay ≡ reading ys (tree_of T) lay₀
    unfolding reading
    read_all at lay h r =
        let t = tree_of T in
        let g : ℕ → Tree → Tree → ℕ = λ i u l. bit (ltb (place ys (uppermost l)) (place ys (uppermost u))) in
        let new = write g t lay₀ in
        let n = r.lay_long in
        let written = write-written g t lay₀ rows_distinct (rows-within lay₀ h) in
        let read = rows-each (size T) (upper T) (lower T) good.rule (λ i u l. byte lay i ≡ g i u l) r.bytes
        (size T + pred (size T)) (size T + pred (size T)) (omega arith) (omega arith) in
        let same = written-rows g t lay new read written in
        let each_row = Permᴰ.symm (rows_once (size T) (upper T) (lower T) good.rule good.some) in
        ext_get_or 0 lay new (n ∙ sym (length-write g t lay₀))
        (λ p q.
        let m = mem-range (suc p) 1 (pred (size T)) (omega arith) (omega arith) in
        each-mem (λ i. byte lay i ≡ byte new i) same (mem-perm each_row m))
