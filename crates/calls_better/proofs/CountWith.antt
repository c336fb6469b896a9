-- A proposed order in an array counts what the record counts with it in a side's place.
use Prim.Native.Nat.{ℕ}
use mathlib.Core.Path.{◌≡◌, sym, ap, ◌∙◌}
use mathlib.Core.List.{List}
use lib.ListN.{take}
use Rattle.tanglegram.specs.Crossings.{count}
use Rattle.tanglegram.specs.declared.side.Side.{Side}
use Rattle.tanglegram.specs.declared.side.Side.TheVariants.{Left as left, Right as right}
use Rattle.tanglegram.specs.Run.{other}
use Rattle.record_fields.specs.Fields.{parts}
use Rattle.record_arrays.specs.Shown.{shown_order}
use Rattle.record_arrays.specs.Sides.{RecordOver}
use Rattle.calls_better.specs.Calls.{count_with}

module _ (s : List ℕ) (n : ℕ) (g : RecordOver s n) (xs links A O : List ℕ) (its_links : take n links ≡ (parts s).links)
    (copy : take n A ≡ take n xs) where
  module _ (side : Side) {across : Side} (far : across ≡ other side) (there : take n O ≡ shown_order s across) where
    pub counted-left : side ≡ left → count n (take n links) (take n A) (take n O) ≡ count_with s side xs
    counted-left here =
        let o : take n O ≡ shown_order s right = there ∙ ap (shown_order s) (far ∙ ap other here) in
        rw (its_links, copy, o, here) (ap (λ m. count m (parts s).links (take m xs) (shown_order s right)) (sym g.sized.says))

    pub counted-right : side ≡ right → count n (take n links) (take n O) (take n A) ≡ count_with s side xs
    counted-right here =
        let o : take n O ≡ shown_order s left = there ∙ ap (shown_order s) (far ∙ ap other here) in
        rw (its_links, copy, o, here) (ap (λ m. count m (parts s).links (shown_order s left) (take m xs)) (sym g.sized.says))
