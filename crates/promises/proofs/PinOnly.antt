-- Pinning a row or unpinning it: one layout byte is put, which turns as the one before it.
use Prim.Native.Nat.{ℕ, zero, suc, pred, ◌+◌, ◌-◌, ◌≤◌, ◌<◌}
use mathlib.Core.Path.{◌≡◌, refl, sym, ap, ap₂, ◌∙◌}
use mathlib.Core.Logic.{◌≢◌}
use mathlib.Core.Bool.{Bool, true, false, cond, not}
use mathlib.Core.List.{List}
use native.Mathlib.Numerals.{sub-one}
use native.Mathlib.Omega.{arith}
use borrow.Author.Tests.{eq-eqb}
use lib.Dec.{eqb, ltb}
use lib.ListN.{length, get_or, set, length-set}
use lib.Seq.{get_or-set_same, get_or-set_other, set-get_or}
use Rattle.tanglegram.specs.Order.{order, byte, turned, may_change, with_pin}
use Rattle.tanglegram.specs.declared.side.Side.{Side}
use Rattle.tanglegram.specs.declared.side.Side.TheVariants.{Left as left, Right as right}
use Rattle.tanglegram.specs.Table.{layout}
use Rattle.tanglegram.proofs.Bytes.{turned-with_pin, may_change-with_pin, with_pin-small, with_pin-same}
use Rattle.tanglegram.proofs.Order.{order_same}
use Rattle.record_fields.specs.Fields.{two, version_at, hold_of, size_of, length_of, Parts, parts}
use Rattle.record_fields.specs.Refusals.{or_else, is_mark, is_hold, no_size, breaks_rule, one_to_one, is_layout}
use Rattle.record_fields.specs.Refusals.{heading_refusal, contents_refusal, refusal}
use Rattle.record_fields.specs.Refused.{accepted}
use Rattle.record_fields.specs.Meaning.{table_in, table_of, layouts_of, relaid_in, relaid}
use Rattle.record_arrays.specs.Sides.{is_side, side_of, RecordOver, layout_at}
use Rattle.record_arrays.specs.Rows.{no_row, row_byte, with_byte}
use Rattle.record_arrays.specs.Shown.{shown_order, shown_count, shown_displacement}
use Rattle.newick.specs.Writing.{sentence_of, text_of}
use Rattle.newick.proofs.Written.{sentence_same}
use Rattle.calls_better.specs.Refusals.{better_refusal}
use Rattle.calls_better.specs.Calls.{count_with, better_part}
use Rattle.calls_newick.specs.Refusals.{written_text}
use Rattle.record_arrays.proofs.AsItStands.{over_its_leaves, length_part}
use Rattle.record_arrays.proofs.OneRow.{row_read, row_stored, row_small}
use Rattle.record_arrays.proofs.OneRow.{put-given, put-layouts, put-parts, put-size, put-hold, set_keeps}
use Rattle.calls_pins.specs.Refusals.{pin_refusal}
use Rattle.calls_pins.specs.Calls.{pinned_layouts}
use Rattle.calls_pins.proofs.Pinned.{pinning_13, pinning_record, pinning_15, pinning_0, pinning_good}
use Rattle.promises.specs.HeldStays.{SameTrees}
use Rattle.promises.specs.PinOnly.{PinPromise}
use Rattle.promises.proofs.Afterwards.{afterwards}
use Rattle.promises.proofs.HeldStays.{trees_same}

module _ (s : List ℕ) (side row : ℕ) (pinned : Bool) where
  abbrev here : ℕ
  here = layout_at (size_of s) (side_of side) + pred row

  -- what is kept of s in s', whatever is answered
  record Kept (s' : List ℕ) : Type 0 where
    turnings : (x : Side) (i : ℕ) → turned (row_byte s' x i) ≡ turned (row_byte s x i)
    as_it_was : may_change (row_byte s (side_of side) row) ≡ not pinned → s' ≡ s
    others : (i : ℕ) → i ≢ here → get_or s' i 0 ≡ get_or s i 0
    long : length s' ≡ length s
    hold : hold_of s' ≡ hold_of s
    trees : SameTrees s s'
    same_refusal : refusal s' ≡ refusal s
    count-between : (table_of s').count ≡ (table_of s).count

  kept_same : Kept s
  kept_same = record {
    turnings = λ x i. refl;
    as_it_was = λ h. refl;
    others = λ i h. refl;
    long = refl;
    hold = refl;
    trees = trees_same s;
    same_refusal = refl;
    count-between = refl;
  }

  -- the call is accepted
  module _ (a : refusal s ≡ 0) (some : 1 ≤ row) (below : row < size_of s) where
    abbrev x : ℕ
    x = with_pin pinned (row_byte s (side_of side) row)

    g : RecordOver s (size_of s)
    g = over_its_leaves s a

    small : x ≤ 3
    small = with_pin-small pinned (row_byte s (side_of side) row)

    place : here ≡ layout_at (size_of s) (side_of side) + (row - 1)
    place = ap (λ k. layout_at (size_of s) (side_of side) + k) (sym (sub-one row))

    stored : relaid s (pinned_layouts s side row pinned) ≡ set s here x
    stored = sym (row_stored s (size_of s) g (side_of side) row some below refl place x)

    laid : layouts_of (relaid s (pinned_layouts s side row pinned)) ≡ pinned_layouts s side row pinned
    laid = put-layouts s (size_of s) g (side_of side) row x small

    same_parts : parts (relaid s (pinned_layouts s side row pinned)) ≡ relaid_in (parts s) (pinned_layouts s side row pinned)
    same_parts = put-parts s (size_of s) g (side_of side) row x small

    kept-accepted : Kept (relaid s (pinned_layouts s side row pinned))
    kept-accepted = record {
      turnings = λ y i. ap (λ L. turned (byte (layout L y) i)) laid ∙ same_turning (side_of side) y i;
      as_it_was = λ h.
          let same : x ≡ get_or s here 0 =
          with_pin-same pinned (row_byte s (side_of side) row) (row_small s a (side_of side) row) h
          ∙ sym (row_read s (size_of s) g (side_of side) row some below refl place) in
          stored ∙ ap (set s here) same ∙ set-get_or s here 0;
      others = λ i h. ap (λ r. get_or r i 0) stored ∙ get_or-set_other s here i x 0 h;
      long = ap length stored ∙ length-set s here x;
      hold = put-hold s (size_of s) g (side_of side) row x small;
      trees = record {
        same_size = put-size s (size_of s) g (side_of side) row x small;
        same_trees = λ y. ap (λ P. (table_in P).tree y) same_parts;
        same_links = ap (λ P. P.links) same_parts;
        accepted_again = λ _. (put-given s (size_of s) g (side_of side) row x small).accepted;
      };
      same_refusal = (put-given s (size_of s) g (side_of side) row x small).accepted ∙ sym a;
      count-between = ap (λ P. (table_in P).count) same_parts;
    }
      where
        same_turning : (y z : Side) (i : ℕ) →
            turned (byte (layout (with_byte y row (with_pin pinned (row_byte s y row)) (layouts_of s)) z) i) ≡ turned (row_byte s z i)
        same_turning left left i = set_keeps turned (with_pin pinned) (turned-with_pin pinned) (layouts_of s).left_bytes (pred row) (pred i)
        same_turning left right i = refl
        same_turning right left i = refl
        same_turning right right i =
            set_keeps turned (with_pin pinned) (turned-with_pin pinned) (layouts_of s).right_bytes (pred row) (pred i)

    pins : may_change (row_byte (relaid s (pinned_layouts s side row pinned)) (side_of side) row) ≡ not pinned
    pins = ap (λ L. may_change (byte (layout L (side_of side)) row)) laid ∙ by (side_of side)
      where
        by : (y : Side) → may_change (byte (layout (with_byte y row (with_pin pinned (row_byte s y row)) (layouts_of s)) y) row) ≡ not pinned
        by left =
            ap may_change (get_or-set_same (layouts_of s).left_bytes (pred row) _ 0 (omega (arith, length_part s (size_of s) g left)))
            ∙ may_change-with_pin pinned (row_byte s left row)
        by right =
            ap may_change (get_or-set_same (layouts_of s).right_bytes (pred row) _ 0 (omega (arith, length_part s (size_of s) g right)))
            ∙ may_change-with_pin pinned (row_byte s right row)

  -- in either case
  kept : (s' : List ℕ) → s' ≡ cond (accepted (pin_refusal s side row)) (relaid s (pinned_layouts s side row pinned)) s → Kept s'
  kept s' q =
      afterwards Kept (pin_refusal s side row) q
      (λ e. let h = pinning_good s side row e in kept-accepted h.1 h.2.0 h.2.1) kept_same

  pins_it : (s' : List ℕ) → pin_refusal s side row ≡ 0 →
      s' ≡ cond (accepted (pin_refusal s side row)) (relaid s (pinned_layouts s side row pinned)) s →
      may_change (row_byte s' (side_of side) row) ≡ not pinned
  pins_it s' e q =
      let h = pinning_good s side row e in
      let made : s' ≡ relaid s (pinned_layouts s side row pinned) = q ∙ rw (eq-eqb (pin_refusal s side row) 0 e) refl in
      ap (λ r. may_change (row_byte r (side_of side) row)) made ∙ pins h.1 h.2.0 h.2.1

  -- the same turnings give the same orders, and these the same count
  orders : {s' : List ℕ} → Kept s' → (y : Side) → shown_order s' y ≡ shown_order s y
  orders {s'} k y =
      order_same (layout (layouts_of s') y) (layout (layouts_of s) y) (k.turnings y) ((table_of s').tree y)
      ∙ ap (order (layout (layouts_of s) y)) (k.trees.same_trees y)

  count_same : {s' : List ℕ} → Kept s' → shown_count s' ≡ shown_count s
  count_same {s'} k =
      ap₂ (table_of s').count (orders k left) (orders k right) ∙ ap (λ f. f (shown_order s left) (shown_order s right)) k.count-between

  displacement-same : {s' : List ℕ} → Kept s' → shown_displacement s' ≡ shown_displacement s
  displacement-same k = rw (orders k left, orders k right, k.trees.same_links, k.trees.same_size) refl

  texts_same : {s' : List ℕ} → Kept s' → (x : ℕ) → written_text s' x ≡ written_text s x
  unfolding written_text
  texts_same {s'} k x =
      let y = side_of x in
      ap text_of
      (sentence_same (layout (layouts_of s') y) (layout (layouts_of s) y) (k.turnings y) ((table_of s').tree y)
      ∙ ap (sentence_of (layout (layouts_of s) y)) (k.trees.same_trees y))

  count_with_same : {s' : List ℕ} → Kept s' → (y : Side) (xs : List ℕ) → count_with s' y xs ≡ count_with s y xs
  count_with_same k left xs = rw (orders k right, k.trees.same_links, k.trees.same_size) refl
  count_with_same k right xs = rw (orders k left, k.trees.same_links, k.trees.same_size) refl

  better-same : {s' : List ℕ} → Kept s' → (y : ℕ) (first second : List ℕ) →
      (better_refusal s' y first second ≡ better_refusal s y first second) × (better_part s' y first second ≡ better_part s y first second)
  unfolding better_part
  better-same {s'} k y first second =
      let none = refusal-same y first second in
      (none, rw (none, count_with_same k (side_of y) first, count_with_same k (side_of y) second, k.trees.same_size) refl)
    where
      refusal-same : (y : ℕ) (first second : List ℕ) → better_refusal s' y first second ≡ better_refusal s y first second
      refusal-same y first second = rw (k.same_refusal, k.trees.same_trees (side_of y), k.trees.same_size) refl

-- the record's own refusals are at most 10, so the call tells neither 11 nor 22
when_most : (b : Bool) (k r m : ℕ) → k ≤ m → r ≤ m → cond b k r ≤ m
when_most true k r m h g = h
when_most false k r m h g = g

else_most : (k r m : ℕ) → k ≤ m → r ≤ m → or_else k r ≤ m
else_most zero r m h g = g
else_most (suc k) r m h g = h

heading_most : (s : List ℕ) → heading_refusal s ≤ 10
unfolding heading_refusal
heading_most s =
    let a = when_most (not (eqb (length s) (length_of (size_of s)))) 6 0 10 (omega arith) (omega arith) in
    let b = when_most (no_size (size_of s)) 5 _ 10 (omega arith) a in
    let c = when_most (not (is_hold (hold_of s))) 4 _ 10 (omega arith) b in
    let d = when_most (not (eqb (two s version_at) 1)) 3 _ 10 (omega arith) c in
    let e = when_most (not (is_mark s)) 2 _ 10 (omega arith) d in
    when_most (ltb (length s) 8) 1 _ 10 (omega arith) e

contents_most : (P : Parts) → contents_refusal P ≤ 10
unfolding contents_refusal
contents_most P =
    let a = when_most (not (is_layout P.right_layout)) 10 0 10 (omega arith) (omega arith) in
    let b = when_most (not (is_layout P.left_layout)) 10 _ 10 (omega arith) a in
    let c = when_most (not (one_to_one P.size P.links)) 9 _ 10 (omega arith) b in
    let d = when_most (breaks_rule P.size P.right_rows) 8 _ 10 (omega arith) c in
    when_most (breaks_rule P.size P.left_rows) 7 _ 10 (omega arith) d

pub refusal-most : (s : List ℕ) → refusal s ≤ 10
unfolding refusal
refusal-most s = else_most (heading_refusal s) (contents_refusal (parts s)) 10 (heading_most s) (contents_most (parts s))

told_never : (s : List ℕ) (side row k : ℕ) → 10 < k → k ≢ 13 → k ≢ 15 → pin_refusal s side row ≢ k
told_never s side row k far not-13 not-15 e = go (is_side side) refl (refusal s) refl (no_row (size_of s) row) refl
  where
    go : (b : Bool) → is_side side ≡ b → (r : ℕ) → refusal s ≡ r → (c : Bool) → no_row (size_of s) row ≡ c → ⊥
    go false b r f c g = not-13 (sym (pinning_13 s side row b ∙ e))
    go true b (suc r) f c g =
        let same = pinning_record s side row b (λ z. omega (arith, f, z)) in omega (arith, same, e, far, refusal-most s)
    go true b zero f true g = not-15 (sym (pinning_15 s side row b f g ∙ e))
    go true b zero f false g = let same = pinning_0 s side row b f g in omega (arith, same, e, far)

pub pin_only : PinPromise
pin_only s side row pinned answer s' o =
    let number = ap (λ a. a.number) o.answers in
    let k = kept s side row pinned s' o.afterwards in
    record {
      pins_the_row = λ z. pins_it s side row pinned s' (sym number ∙ z) o.afterwards;
      keeps_the_turnings = k.turnings;
      as_it_was = k.as_it_was;
      keeps_the_others = k.others;
      keeps_the_length = k.long;
      keeps_the_hold = k.hold;
      keeps_the_trees = k.trees;
      keeps_the_orders = orders s side row pinned k;
      keeps_the_count = count_same s side row pinned k;
      keeps_the_displacement = displacement-same s side row pinned k;
      keeps_the_texts = texts_same s side row pinned k;
      keeps_better = better-same s side row pinned k;
      bad_side_first = λ h. number ∙ sym (pinning_13 s side row h);
      then_the_record = λ h z. number ∙ sym (pinning_record s side row h z);
      then_the_row = λ h a r. number ∙ sym (pinning_15 s side row h a r);
      or_none = λ h a r. number ∙ sym (pinning_0 s side row h a r);
      never_11 = λ z. told_never s side row 11 (omega arith) (λ e. omega (arith, e)) (λ e. omega (arith, e)) (sym number ∙ z);
      never_22 = λ z. told_never s side row 22 (omega arith) (λ e. omega (arith, e)) (λ e. omega (arith, e)) (sym number ∙ z);
    }
