-- A record whose layout on one side is written over is the record with that layout put.
use Prim.Native.Nat.{ℕ, ◌+◌, ◌-◌, ◌≤◌}
use mathlib.Core.Path.{◌≡◌, sym, ap, ap₂, ◌∙◌}
use mathlib.Core.List.{List, [], ◌++◌, append_assoc}
use native.Mathlib.Nat.{add-sub_cancel_left}
use native.Mathlib.Omega.{arith}
use lib.ListN.{length, take, drop, length-drop, drop_of_length-le}
use lib.Seq.{take_all, take-add, drop-drop}
use Rattle.tanglegram.specs.declared.side.Side.{Side}
use Rattle.tanglegram.specs.declared.side.Side.TheVariants.{Left as left, Right as right}
use Rattle.tanglegram.specs.Table.{put}
use Rattle.tanglegram.proofs.Lists.{append-nil}
use Rattle.record_fields.specs.Fields.{bytes, size_of, left_layout_at, right_layout_at, parts_of}
use Rattle.record_fields.specs.Meaning.{layouts_of, relaid}
use Rattle.record_arrays.specs.Sides.{RecordOver, layout_at}

module _ (s : List ℕ) (n : ℕ) (g : RecordOver s n) where
  says : n ≡ size_of s
  says = sym g.sized.says

  -- a layout written over a side's part
  pub relaid_part : (side : Side) (lay : List ℕ) →
      take (layout_at n side) s ++ (lay ++ drop (layout_at n side + (n - 1)) s) ≡ relaid s (put side lay (layouts_of s))
  unfolding relaid parts_of
  relaid_part left lay =
      let z = g.sized in
      let m = n - 1 in
      ap (λ r. take (left_layout_at n) s ++ (lay ++ r))
      (sym (take_all m (drop (left_layout_at n + m) s) (omega (arith, length-drop (left_layout_at n + m) s))))
      ∙ ap (λ k. take (left_layout_at k) s ++ (lay ++ bytes s (right_layout_at k) (k - 1))) says
  relaid_part right lay =
      let z = g.sized in
      let m = n - 1 in
      let end : length s ≤ right_layout_at n + m = omega arith in
      let none : drop (right_layout_at n + m) s ≡ [] = drop_of_length-le s end in
      ap₂ ◌++◌ (take-add (left_layout_at n) m s) (ap (λ r. lay ++ r) none ∙ append-nil lay)
      ∙ append_assoc (take (left_layout_at n) s) (bytes s (left_layout_at n) m) lay
      ∙ ap (λ k. take (left_layout_at k) s ++ (bytes s (left_layout_at k) (k - 1) ++ lay)) says

  -- the same, as the part lent from a place on comes back
  pub relaid_mid : (side : Side) {from : ℕ} (lay : List ℕ) → from ≡ layout_at n side →
      take from s ++ (lay ++ drop (from + (n - 1) - from) (drop from s)) ≡ relaid s (put side lay (layouts_of s))
  relaid_mid side {from} lay e =
      ap (λ r. take from s ++ (lay ++ r))
      (ap (λ k. drop k (drop from s)) (add-sub_cancel_left from (n - 1)) ∙ drop-drop (n - 1) from s)
      ∙ ap (λ k. take k s ++ (lay ++ drop (k + (n - 1)) s)) e
      ∙ relaid_part side lay
