-- A proposed order: the test accepts exactly the compatible orders, and a copy of the order in an array is told by the array's test.
use Prim.Native.Nat.{ℕ, ◌-◌, ◌≤◌, ◌<◌}
use mathlib.Core.Path.{◌≡◌, refl, sym, ap, ap₂, ◌∙◌, subst}
use mathlib.Core.Logic.{◌↔◌}
use mathlib.Core.Bool.{Bool, true, false, false≢true}
use mathlib.Core.List.Permᴰ
use mathlib.Core.List.{List, [], ◌∷◌, Permᴰ}
use native.Mathlib.Omega.{arith}
use borrow.Author.Tests.{leb-true, le-leb, lt-leb, eqb-true, eq-eqb}
use lib.Dec.{eqb, leb}
use lib.ListN.{length, take, replicate, length-replicate}
use lib.Seq.{sets, length-take-le}
use Rattle.tanglegram.specs.Lists.{Each, range}
use Rattle.tanglegram.specs.Tree.{Tree, rows, leaves}
use Rattle.tanglegram.specs.Order.{order, reading, Compatible}
use Rattle.tanglegram.specs.declared.side.Side.{Side}
use Rattle.tanglegram.proofs.Bools.{and_both}
use Rattle.tanglegram.proofs.Lists.{all_distinct, each-perm, range-each}
use Rattle.tanglegram.proofs.Write.{length-write}
use Rattle.tanglegram.proofs.Order.{order-compatible}
use Rattle.tanglegram.proofs.Compatible.{compatible-order}
use Rattle.work_trees.specs.Rows.{size, tree_of}
use Rattle.work_matching.specs.Match.{Tells, Matches}
use Rattle.work_places.specs.Arrays.{OneToN}
use Rattle.record_fields.specs.Fields.{size_of}
use Rattle.record_fields.specs.Refusals.{refusal}
use Rattle.record_fields.specs.Meaning.{table_of}
use Rattle.record_fields.proofs.Meaning.{accepted_fair, accepted_fits}
use Rattle.record_fields.proofs.RowArrays.{take-sets}
use Rattle.record_arrays.specs.Sides.{RecordOver}
use Rattle.record_arrays.proofs.AsItStands.{over_its_leaves, side-leaves, length_part}
use Rattle.record_orders.specs.Proposed.{same, shown_layout, is_order, OrderRead}

-- ---- tests

same_lists : (xs ys : List ℕ) → same xs ys ≡ true → xs ≡ ys
unfolding same
same_lists [] [] e = refl
same_lists [] (y ∷ ys) e = absurd (false≢true e)
same_lists (x ∷ xs) [] e = absurd (false≢true e)
same_lists (x ∷ xs) (y ∷ ys) e =
    let h = and_both (eqb x y) (same xs ys) e in ap₂ ◌∷◌ (eqb-true x y h.0) (same_lists xs ys h.1)

same_self : (xs : List ℕ) → same xs xs ≡ true
unfolding same
same_self [] = refl
same_self (x ∷ xs) = rw (eq-eqb x x refl) (same_self xs)

-- the layout that an order shows has a byte for each row
pub length-shown : (n : ℕ) (t : Tree) (xs : List ℕ) → length (shown_layout n t xs) ≡ n - 1
unfolding reading
length-shown n t xs = length-write _ t (replicate (n - 1) 0) ∙ length-replicate {A = ℕ} (n - 1) 0

module _ (s : List ℕ) (n : ℕ) (g : RecordOver s n) (side : Side) (xs : List ℕ) where
  -- n - 1 bytes have one for each row of a side
  rows_inside : Each (λ i. (1 ≤ i) × (i ≤ length (replicate {A = ℕ} (n - 1) 0))) (rows ((table_of s).tree side))
  rows_inside =
      let fair = accepted_fair s g.accepted in
      let many = sym (accepted_fits s g.accepted side) ∙ length_part s n g side in
      let Inside : ℕ → Type 0 = λ i. (1 ≤ i) × (i ≤ length (replicate {A = ℕ} (n - 1) 0)) in
      each-perm Inside (Permᴰ.symm (fair.numbered side))
      (range-each Inside 1 (fair.row_count side) (λ i p q. (p, omega (arith, length-replicate {A = ℕ} (n - 1) 0))))

  -- a compatible order is given by the layout read off it
  pub read_off : Compatible ((table_of s).tree side) (take n xs) →
      order (shown_layout n ((table_of s).tree side) xs) ((table_of s).tree side) ≡ take n xs
  read_off =
      let t = (table_of s).tree side in
      let fair = accepted_fair s g.accepted in
      compatible-order t (take n xs) (replicate (n - 1) 0) (all_distinct n (leaves t) (side-leaves s n g side))
      (all_distinct (fair.row_count side) (rows t) (fair.numbered side)) rows_inside

  -- the test accepts exactly the compatible orders
  pub is-order-given : (is_order n ((table_of s).tree side) xs ≡ true) ↔ ((n ≤ length xs) × Compatible ((table_of s).tree side) (take n xs))
  unfolding is_order
  is-order-given = (
    λ e. let h = and_both (leb n (length xs)) _ e in
        (leb-true n (length xs) h.0, subst (Compatible ((table_of s).tree side)) (same_lists _ (take n xs) h.1) (order-compatible _ _)),
    λ c. rw (le-leb n (length xs) c.0, read_off c.1) (same_self (take n xs)),
  )

  -- too short a list is no order
  is-order_short : length xs < n → false ≡ is_order n ((table_of s).tree side) xs
  unfolding is_order
  is-order_short h = rw (lt-leb n (length xs) h) refl

  -- ---- a copy in an array

  module _ (found A : List ℕ) (full : length found ≡ 512) (long : n ≤ length xs) (e : A ≡ sets found 0 (take n xs)) where
    pub copy_taken : take n A ≡ take n xs
    copy_taken =
        let z = g.sized in ap (take n) e ∙ take-sets found (take n xs) n (length-take-le n xs long) (omega arith)

    -- the array's test, against a row array with the side's tree, is the order's test
    told : (T : List ℕ) (answer : Bool) → size T ≡ n → tree_of T ≡ (table_of s).tree side → Tells T A answer →
        answer ≡ is_order n ((table_of s).tree side) xs
    told T answer k t h = go answer (is_order n ((table_of s).tree side) xs) refl refl
      where
        go : (a b : Bool) → answer ≡ a → is_order n ((table_of s).tree side) xs ≡ b → a ≡ b
        go true true p q = refl
        go false false p q = refl
        go true false p q = sym (is-order-given.1 (long, rw (t, k, copy_taken) at (h.accepts p))) ∙ q
        go false true p q = absurd (h.refuses p (rw (t, k, copy_taken) (is-order-given.0 q).1))

    -- and so is what it writes
    pub matched : (T lay after : List ℕ) (answer : Bool) → size T ≡ n → tree_of T ≡ (table_of s).tree side → Matches T A lay answer after →
        OrderRead s n side xs lay answer after
    matched T lay after answer k t h = record {
      tells = told T answer k t h.tells;
      writes = h.writes ∙ rw (t, k, copy_taken, le-leb n (length xs) long) refl;
    }

  -- too short a list shows nothing
  pub read_short : (lay : List ℕ) → length xs < n → OrderRead s n side xs lay false lay
  read_short lay h = record { tells = is-order_short h; writes = rw (lt-leb n (length xs) h) refl }

  -- ---- an order of the side

  module _ (good : is_order n ((table_of s).tree side) xs ≡ true) where
    pub order-within : n ≤ length xs
    order-within = (is-order-given.0 good).0

    proposed-perm : Permᴰ (take n xs) (range 1 n)
    proposed-perm = Permᴰ.trans (is-order-given.0 good).1.of_leaves (side-leaves s n g side)

    module _ (found A : List ℕ) (full : length found ≡ 512) (e : A ≡ sets found 0 (take n xs)) where
      pub copy_one : OneToN n A
      copy_one = rw (copy_taken found A full order-within e) proposed-perm

-- ---- for any accepted record

pub is-order-compatible : (s : List ℕ) → refusal s ≡ 0 → (side : Side) (xs : List ℕ) →
    (is_order (size_of s) ((table_of s).tree side) xs ≡ true)
    ↔ ((size_of s ≤ length xs) × Compatible ((table_of s).tree side) (take (size_of s) xs))
is-order-compatible s a = is-order-given s (size_of s) (over_its_leaves s a)
