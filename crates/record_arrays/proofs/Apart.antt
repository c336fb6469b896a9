-- A record taken apart: arrays with an order, with the links, and with a side in memory, and the layouts written back.
use Prim.Native.Nat.{ℕ, ◌+◌, ◌-◌, ◌≤◌}
use mathlib.Core.Path.{◌≡◌, sym, ap, ap₂, ◌∙◌}
use mathlib.Core.List.{List, [], ◌++◌, append_assoc}
use native.Mathlib.Omega.{arith}
use lib.ListN.{length, take, drop, replicate, length-append, length-take, length-drop, drop_of_length-le}
use lib.Seq.{sets, sets-eq, take_at, length-take-le}
use Rattle.tanglegram.specs.Tree.{leaves}
use Rattle.tanglegram.specs.declared.side.Side.{Side}
use Rattle.tanglegram.specs.Table.{layout, order_of}
use Rattle.tanglegram.proofs.Lists.{all-length, append-nil}
use Rattle.work_trees.specs.Rows.{size, tree_of}
use Rattle.work_trees.specs.Exchange.{LaidOut}
use Rattle.work_trees.proofs.Laid.{laid_out_order}
use Rattle.work_places.specs.Arrays.{OneToN}
use Rattle.record_fields.specs.Fields.{numbers, links_at, left_layout_at, right_layout_at, length_of, parts}
use Rattle.record_fields.specs.Meaning.{table_of, layouts_of, relaid}
use Rattle.record_fields.proofs.Stores.{length-numbers}
use Rattle.record_fields.proofs.RowArrays.{take-sets}
use Rattle.work_linked_trees.specs.Memory.{layouts_from}
use Rattle.record_arrays.specs.Sides.{RecordOver}
use Rattle.record_arrays.proofs.AsItStands.{side-perm, side-links, linked_once}

-- an array of 512 has a byte for each row
pub layout-room : (n : ℕ) → n ≤ 512 → length (take (n - 1) (replicate {A = ℕ} 512 0)) ≡ n - 1
layout-room n h = length-take-le (n - 1) (replicate {A = ℕ} 512 0) (omega arith)

-- as many stores as a list has places
pub sets-whole : (l vs : List ℕ) → length vs ≡ length l → sets l 0 vs ≡ vs
sets-whole l vs e =
    let end : length l ≤ 0 + length vs = omega arith in
    sets-eq vs l 0 (omega arith) ∙ ap (λ r. vs ++ r) (drop_of_length-le l end) ∙ append-nil vs

module _ (s : List ℕ) (n : ℕ) (g : RecordOver s n) where
  -- ---- an array with a side's order in its first places

  -- as the walk writes it
  pub order-shown : (side : Side) (W found : List ℕ) → LaidOut ((table_of s).tree side) n (layout (layouts_of s) side) W →
      leaves (tree_of W) ++ drop (size W) found ≡ order_of (table_of s) (layouts_of s) side ++ drop n found
  order-shown side W found laid = ap₂ (λ o m. o ++ drop m found) (laid_out_order laid) laid.sized

  module _ (side : Side) (A found : List ℕ) (e : A ≡ order_of (table_of s) (layouts_of s) side ++ drop n found) where
    pub order-taken : take n A ≡ order_of (table_of s) (layouts_of s) side
    order-taken =
        ap (take n) e
        ∙ take_at (order_of (table_of s) (layouts_of s) side) (drop n found) n (all-length n _ (side-perm s n g side))

    pub order_one : OneToN n A
    order_one = rw order-taken (side-perm s n g side)

    pub order-long : n ≤ length A
    order-long =
        let shown = order_of (table_of s) (layouts_of s) side in
        omega (arith, ap length e, length-append shown (drop n found), all-length n shown (side-perm s n g side))

  -- ---- an array with the links in its first places

  module _ (A found : List ℕ) (long : n ≤ length found) (at : ℕ) (here : at ≡ links_at n) (e : A ≡ sets found 0 (numbers s at n)) where
    pub links-taken : take n A ≡ (parts s).links
    links-taken =
        ap (take n) (e ∙ ap (λ k. sets found 0 (numbers s k n)) here)
        ∙ take-sets found (numbers s (links_at n) n) n (length-numbers s (links_at n) n) long
        ∙ side-links s n g

    pub links_one : OneToN n A
    links_one = rw links-taken (linked_once s n g)

  -- ---- both layouts written back

  pub relaid-both : (l r : List ℕ) → length l + 1 ≡ n → length r + 1 ≡ n →
      sets (sets s (left_layout_at n) l) (right_layout_at n) r ≡ relaid s (layouts_from l r)
  unfolding relaid
  relaid-both l r p q =
      let z = g.sized in
      let a = left_layout_at n in
      let b = right_layout_at n in
      let whole : length s ≡ length_of n = z.whole in
      let mid : sets s a l ≡ (take a s ++ l) ++ drop (a + length l) s = sets-eq l s a (omega arith) in
      let front : length (take a s ++ l) ≡ b = omega (arith, length-append (take a s) l, length-take a s) in
      let rest : length (drop (a + length l) s) ≡ length r = omega (arith, length-drop (a + length l) s) in
      let long : length (sets s a l) ≡ b + length r =
      ap length mid ∙ omega (arith, length-append (take a s ++ l) (drop (a + length l) s)) in
      let end : length (sets s a l) ≤ b + length r = omega arith in
      let none : drop (b + length r) (sets s a l) ≡ [] = drop_of_length-le (sets s a l) end in
      sets-eq r (sets s a l) b (omega arith)
      ∙ ap₂ (λ x y. (x ++ r) ++ y) (ap (take b) mid ∙ take_at (take a s ++ l) (drop (a + length l) s) b front) none
      ∙ append-nil ((take a s ++ l) ++ r)
      ∙ append_assoc (take a s) l r
      ∙ ap (λ m. take (left_layout_at m) s ++ (l ++ r)) (sym z.says)
