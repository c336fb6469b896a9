-- An accepted record as it stands: the rows, the layout and the order of each side, and its links.
use Prim.Native.Nat.{ℕ, ◌+◌, ◌-◌, ◌*◌, ◌≤◌}
use mathlib.Core.Path.{◌≡◌, sym, ap, ◌∙◌, subst}
use mathlib.Core.List.{List, Permᴰ}
use native.Mathlib.Nat.{add-sub_cancel_left}
use native.Mathlib.Omega.{arith}
use lib.ListN.{length, take, drop, set}
use lib.Seq.{sets}
use Rattle.tanglegram.specs.Lists.{range}
use Rattle.tanglegram.specs.Tree.{leaves, tree, Rule}
use Rattle.tanglegram.specs.declared.side.Side.{Side}
use Rattle.tanglegram.specs.declared.side.Side.TheVariants.{Left as left, Right as right}
use Rattle.tanglegram.specs.Table.{layout, order_of}
use Rattle.tanglegram.proofs.Tree.{leaves_once}
use Rattle.tanglegram.proofs.Order.{order-perm}
use Rattle.work_trees.specs.Rows.{upper, lower, size, tree_of, GoodRows}
use Rattle.work_trees.specs.Exchange.{exchanged, LaidOut}
use Rattle.work_trees.proofs.Laid.{laid_out}
use Rattle.record_fields.specs.Fields.{numbers, bytes, size_of, parts, parts_of, links_at}
use Rattle.record_fields.specs.Meaning.{table_of, layouts_of}
use Rattle.record_fields.specs.Refusals.{refusal}
use Rattle.record_fields.proofs.Acceptance.{accepted-sized}
use Rattle.record_fields.proofs.Stores.{length-numbers, length-bytes}
use Rattle.record_fields.proofs.RowArrays.{good-filled, size-filled, tree-filled}
use Rattle.record_fields.proofs.Meaning.{left-rule, right-rule, links-perm}
use Rattle.record_arrays.specs.Sides.{RecordOver, rows_at, layout_at}

-- an accepted record is given over as many leaves as it says
pub over_its_leaves : (s : List ℕ) → refusal s ≡ 0 → RecordOver s (size_of s)
over_its_leaves s a = record { accepted = a; sized = accepted-sized s a }

-- an accepted record is long enough for its heading, and given over as many leaves as it says
pub long-enough : (s : List ℕ) → refusal s ≡ 0 → 8 ≤ length s
long-enough s a = let z = accepted-sized s a in omega arith

pub over_n : (s : List ℕ) {n : ℕ} → refusal s ≡ 0 → n ≡ size_of s → RecordOver s n
over_n s a e = subst (RecordOver s) (sym e) (record { accepted = a; sized = accepted-sized s a })

module _ (s : List ℕ) (n : ℕ) (g : RecordOver s n) where
  says : size_of s ≡ n
  says = g.sized.says

  abbrev pub side_rows : Side → List ℕ
  side_rows side = numbers s (rows_at n side) (2 * (n - 1))

  pub side-rule : (side : Side) → Rule n (upper (side_rows side)) (lower (side_rows side))
  unfolding parts_of
  side-rule left = subst (λ m. let r = numbers s 8 (2 * (m - 1)) in Rule m (upper r) (lower r)) says (left-rule s g.accepted)
  side-rule right =
      subst (λ m. let r = numbers s (rows_at m right) (2 * (m - 1)) in Rule m (upper r) (lower r)) says (right-rule s g.accepted)

  pub side-tree : (side : Side) → tree (upper (side_rows side)) (lower (side_rows side)) n ≡ (table_of s).tree side
  unfolding parts_of
  side-tree left = ap (λ m. let r = numbers s 8 (2 * (m - 1)) in tree (upper r) (lower r) m) (sym says)
  side-tree right = ap (λ m. let r = numbers s (rows_at m right) (2 * (m - 1)) in tree (upper r) (lower r) m) (sym says)

  pub side-layout : (side : Side) → bytes s (layout_at n side) (n - 1) ≡ layout (layouts_of s) side
  unfolding parts_of
  side-layout left = ap (λ m. bytes s (layout_at m left) (m - 1)) (sym says)
  side-layout right = ap (λ m. bytes s (layout_at m right) (m - 1)) (sym says)

  pub side-links : numbers s (links_at n) n ≡ (parts s).links
  unfolding parts_of
  side-links = ap (λ m. numbers s (links_at m) m) (sym says)

  pub linked_once : Permᴰ (parts s).links (range 1 n)
  linked_once = subst (λ m. Permᴰ (parts s).links (range 1 m)) says (links-perm s g.accepted)

  -- a side's tree has the leaves 1 to n, each once, and so has its order
  pub side-leaves : (side : Side) → Permᴰ (leaves ((table_of s).tree side)) (range 1 n)
  side-leaves side =
      subst (λ t. Permᴰ (leaves t) (range 1 n)) (side-tree side)
      (leaves_once n (upper (side_rows side)) (lower (side_rows side)) (side-rule side) g.sized.some)

  pub side-perm : (side : Side) → Permᴰ (order_of (table_of s) (layouts_of s) side) (range 1 n)
  side-perm side = Permᴰ.trans (order-perm (layout (layouts_of s) side) ((table_of s).tree side)) (side-leaves side)

  -- a side's parts stand within the record
  pub rows-within : (side : Side) → rows_at n side + 4 * (n - 1) ≤ length s
  rows-within left = let z = g.sized in omega arith
  rows-within right = let z = g.sized in omega arith

  pub layout-within : (side : Side) → layout_at n side + (n - 1) ≤ length s
  layout-within left = let z = g.sized in omega arith
  layout-within right = let z = g.sized in omega arith

  -- a side's layout, as the part of the record from its place on
  pub part_layout : (side : Side) {from : ℕ} → from ≡ layout_at n side →
      take (from + (n - 1) - from) (drop from s) ≡ layout (layouts_of s) side
  part_layout side {from} e =
      ap (λ m. take m (drop from s)) (add-sub_cancel_left from (n - 1)) ∙ ap (λ k. bytes s k (n - 1)) e ∙ side-layout side

  pub length_part : (side : Side) → length (layout (layouts_of s) side) ≡ n - 1
  length_part side = ap length (sym (side-layout side)) ∙ length-bytes s (layout_at n side) (n - 1) (layout-within side)

  -- ---- a row array filled with a side's rows

  module _ (side : Side) (found T : List ℕ) (full : length found ≡ 1023) (at : ℕ) (here : at ≡ rows_at n side)
      (made : T ≡ set (sets found 0 (numbers s at (2 * (n - 1)))) 1022 n) where
    made_here : T ≡ set (sets found 0 (numbers s (rows_at n side) (2 * (n - 1)))) 1022 n
    made_here = made ∙ ap (λ k. set (sets found 0 (numbers s k (2 * (n - 1)))) 1022 n) here

    rows_long : length (side_rows side) ≡ 2 * (n - 1)
    rows_long = length-numbers s (rows_at n side) (2 * (n - 1))

    pub filled-good : GoodRows T
    filled-good = rw made_here (good-filled found (side_rows side) n full rows_long g.sized.most g.sized.some (side-rule side))

    pub filled-size : size T ≡ n
    filled-size = rw made_here (size-filled found (side_rows side) n full rows_long g.sized.most)

    pub filled-tree : tree_of T ≡ (table_of s).tree side
    filled-tree =
        ap tree_of made_here
        ∙ tree-filled found (side_rows side) n full rows_long g.sized.most g.sized.some (side-rule side)
        ∙ side-tree side

    pub filled-laid : (lay W : List ℕ) → length lay + 1 ≡ n → W ≡ exchanged T lay → LaidOut ((table_of s).tree side) n lay W
    filled-laid lay W long e =
        let k = filled-size in
        rw (filled-tree, filled-size) at (laid_out T lay W filled-good (omega arith) e)
