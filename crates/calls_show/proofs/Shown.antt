-- What two orders and the links of a record count is what the record shows; its displacement is at most the worst one.
use Prim.Native.Nat.{ℕ, ◌≤◌}
use mathlib.Core.Path.{◌≡◌, refl, sym, ap}
use mathlib.Core.List.{List}
use lib.ListN.{take}
use Rattle.tanglegram.specs.Crossings.{count}
use Rattle.tanglegram.specs.Entanglement.{displacement, worst}
use Rattle.tanglegram.specs.declared.side.Side.TheVariants.{Left as left, Right as right}
use Rattle.tanglegram.proofs.Entanglement.{displacement-worst}
use Rattle.record_fields.specs.Fields.{size_of, parts, parts_of}
use Rattle.record_fields.specs.Refusals.{refusal}
use Rattle.record_fields.proofs.Meaning.{links-perm}
use Rattle.record_arrays.specs.Sides.{RecordOver}
use Rattle.record_arrays.specs.Apart.{OrdersTaken}
use Rattle.record_arrays.specs.Shown.{shown_order, shown_count, shown_displacement}
use Rattle.record_arrays.proofs.AsItStands.{over_its_leaves, side-perm}

module _ (s : List ℕ) (n : ℕ) (g : RecordOver s n) (σ τ links : List ℕ) (o : OrdersTaken s n σ τ links) where
  pub count-shown : count n (take n links) (take n σ) (take n τ) ≡ shown_count s
  unfolding parts_of
  count-shown =
      rw (o.its_links, o.left_order, o.right_order)
      (ap (λ m. count m (parts s).links (shown_order s left) (shown_order s right)) (sym g.sized.says))

  pub displacement-shown : displacement n (take n links) (take n σ) (take n τ)
      ≡ displacement n (parts s).links (shown_order s left) (shown_order s right)
  displacement-shown = rw (o.its_links, o.left_order, o.right_order) refl

pub displacement-at-most : (s : List ℕ) → refusal s ≡ 0 → shown_displacement s ≤ worst (size_of s)
unfolding parts_of
displacement-at-most s a =
    let over = over_its_leaves s a in
    displacement-worst (size_of s) (parts s).links (shown_order s left) (shown_order s right) (links-perm s a)
    (side-perm s (size_of s) over left) (side-perm s (size_of s) over right)
