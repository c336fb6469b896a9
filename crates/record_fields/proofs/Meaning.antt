-- An accepted record makes a fair table with layouts that fit it. A record with other layouts of the same lengths has the same
-- hold, trees and links, and is accepted again if the layouts' bytes are good.
use Prim.Native.Nat.{ℕ, ◌+◌, ◌-◌, ◌*◌, ◌≤◌, ◌<◌}
use mathlib.Core.Path.{◌≡◌, refl, sym, ap, ◌∙◌}
use mathlib.Core.Bool.{true, false}
use mathlib.Core.List.{List, ◌++◌, Permᴰ}
use native.Mathlib.Omega.{arith}
use borrow.Author.Tests.{eqb-true, not-false}
use lib.ListN.{length, get_or, take, drop, length-append, length-drop, take-append-drop, get_or-append}
use lib.Seq.{length-take-le, take_all, get_or-take, drop-drop, take_at, drop_at}
use Rattle.tanglegram.specs.Lists.{range}
use Rattle.tanglegram.specs.Tree.{Rule}
use Rattle.tanglegram.specs.declared.side.Side.{Side}
use Rattle.tanglegram.specs.Table.{Layouts, layout}
use Rattle.tanglegram.specs.Table.{Fair, Fits}
use Rattle.tanglegram.proofs.Table.{rule_fair, rule_fits, rule-rows}
use Rattle.work_trees.specs.Rows.{upper, lower}
use Rattle.work_tree_rule.proofs.Rule.{bad_row-none}
use Rattle.record_fields.specs.Fields.{two, numbers, bytes, hold_of, size_of, right_at, links_at}
use Rattle.record_fields.specs.Fields.{left_layout_at, right_layout_at, length_of, parts}
use Rattle.record_fields.specs.Fields.{parts_of, Sized}
use Rattle.record_fields.specs.Refusals.{is_mark, is_hold, no_size, breaks_rule, is_layout, heading_refusal, contents_refusal, refusal}
use Rattle.record_fields.specs.Meaning.{table_in, layouts_in, table_of, layouts_of, relaid_in, relaid}
use Rattle.record_fields.proofs.Heading.{heading_0, unsized}
use Rattle.record_fields.proofs.Contents.{contents_0}
use Rattle.record_fields.proofs.Acceptance.{else_second, accepted_heading, accepted-sized, accepted-parts}
use Rattle.record_fields.proofs.Stores.{numbers_ext, length-numbers, length-bytes}
use Rattle.record_fields.proofs.Tests.{one_to_one_perm}

-- ---- a fair table

-- rows that do not break the rule keep it
pub rule_kept : (n : ℕ) (rows : List ℕ) → breaks_rule n rows ≡ false → Rule n (upper rows) (lower rows)
unfolding breaks_rule
rule_kept n rows e = (bad_row-none n (upper rows) (lower rows)).0 (eqb-true _ 0 (not-false _ e))

module _ (s : List ℕ) (a : refusal s ≡ 0) where
  pub left-rule : Rule (size_of s) (upper (parts s).left_rows) (lower (parts s).left_rows)
  unfolding parts_of
  left-rule = rule_kept (size_of s) (parts s).left_rows (accepted-parts s a).left

  pub right-rule : Rule (size_of s) (upper (parts s).right_rows) (lower (parts s).right_rows)
  unfolding parts_of
  right-rule = rule_kept (size_of s) (parts s).right_rows (accepted-parts s a).right

  pub links-perm : Permᴰ (parts s).links (range 1 (size_of s))
  unfolding parts_of
  links-perm =
      (one_to_one_perm (size_of s) (parts s).links (length-numbers s (links_at (size_of s)) (size_of s))).0 (accepted-parts s a).linked

  pub accepted_fair : Fair (table_of s)
  unfolding parts_of
  accepted_fair =
      let l = (parts s).left_rows in
      let r = (parts s).right_rows in
      rule_fair (size_of s) (upper l) (lower l) (upper r) (lower r) (parts s).links (accepted-sized s a).some left-rule right-rule
      links-perm

  pub length-left : length (parts s).left_layout ≡ size_of s - 1
  unfolding parts_of
  length-left = let z = accepted-sized s a in length-bytes s (left_layout_at (size_of s)) (size_of s - 1) (omega arith)

  pub length-right : length (parts s).right_layout ≡ size_of s - 1
  unfolding parts_of
  length-right = let z = accepted-sized s a in length-bytes s (right_layout_at (size_of s)) (size_of s - 1) (omega arith)

  -- layouts of n - 1 bytes fit it, and so do the record's own
  pub layouts_fit : (new : Layouts) → length new.left_bytes ≡ size_of s - 1 → length new.right_bytes ≡ size_of s - 1 →
      Fits accepted_fair new
  unfolding parts_of accepted_fair
  layouts_fit new p q =
      let l = (parts s).left_rows in
      let r = (parts s).right_rows in
      rule_fits (size_of s) (upper l) (lower l) (upper r) (lower r) (parts s).links (accepted-sized s a).some left-rule right-rule
      links-perm
      new (omega arith) (omega arith)

  pub fits_long : (new : Layouts) → Fits accepted_fair new → (side : Side) → length (layout new side) ≡ size_of s - 1
  unfolding parts_of accepted_fair
  fits_long new f side =
      let l = (parts s).left_rows in
      let r = (parts s).right_rows in
      let z = (accepted-sized s a).some in
      f side
      ∙ rule-rows (size_of s) (upper l) (lower l) (upper r) (lower r) (parts s).links z left-rule right-rule links-perm side
      ∙ omega arith

  pub accepted_fits : Fits accepted_fair (layouts_of s)
  accepted_fits = layouts_fit (layouts_of s) length-left length-right

-- ---- a record with other layouts

module _ (s : List ℕ) (z : Sized s (size_of s)) (new : Layouts)
    (l : length new.left_bytes ≡ size_of s - 1) (r : length new.right_bytes ≡ size_of s - 1) where
  front : List ℕ
  front = take (left_layout_at (size_of s)) s

  length_front : length front ≡ left_layout_at (size_of s)
  unfolding front
  length_front = length-take-le (left_layout_at (size_of s)) s (omega arith)

  pub length-relaid : length (relaid s new) ≡ length s
  unfolding relaid front
  length-relaid =
      length-append front (new.left_bytes ++ new.right_bytes)
      ∙ omega (arith, length_front, length-append new.left_bytes new.right_bytes)

  -- bytes before the layouts stay
  front_same : (k : ℕ) → k < left_layout_at (size_of s) → get_or (relaid s new) k 0 ≡ get_or s k 0
  unfolding relaid front
  front_same k h =
      get_or-append front (new.left_bytes ++ new.right_bytes) 0 k (omega (arith, length_front))
      ∙ get_or-take (left_layout_at (size_of s)) s k 0 h

  two-relaid : (k : ℕ) → k + 1 < left_layout_at (size_of s) → two (relaid s new) k ≡ two s k
  two-relaid k h = rw (front_same k (omega arith), front_same (k + 1) h) refl

  numbers-relaid : (k m : ℕ) → k + 2 * m ≤ left_layout_at (size_of s) → numbers (relaid s new) k m ≡ numbers s k m
  numbers-relaid k m h = numbers_ext s (relaid s new) k m (λ i q. two-relaid (k + 2 * i) (omega arith))

  pub size-relaid : size_of (relaid s new) ≡ size_of s
  size-relaid = two-relaid 6 (omega arith)

  layouts-relaid : drop (left_layout_at (size_of s)) (relaid s new) ≡ new.left_bytes ++ new.right_bytes
  unfolding relaid front
  layouts-relaid = drop_at front (new.left_bytes ++ new.right_bytes) (left_layout_at (size_of s)) length_front

  left-relaid : bytes (relaid s new) (left_layout_at (size_of s)) (size_of s - 1) ≡ new.left_bytes
  left-relaid = ap (take (size_of s - 1)) layouts-relaid ∙ take_at new.left_bytes new.right_bytes (size_of s - 1) l

  right-relaid : bytes (relaid s new) (right_layout_at (size_of s)) (size_of s - 1) ≡ new.right_bytes
  right-relaid =
      ap (take (size_of s - 1))
      (sym (drop-drop (size_of s - 1) (left_layout_at (size_of s)) (relaid s new))
      ∙ ap (drop (size_of s - 1)) layouts-relaid
      ∙ drop_at new.left_bytes new.right_bytes (size_of s - 1) l)
      ∙ take_all (size_of s - 1) new.right_bytes (omega arith)

  -- all parts but the layouts are the same
  pub parts-relaid : parts (relaid s new) ≡ relaid_in (parts s) new
  unfolding parts_of
  parts-relaid =
      ap (parts_of (relaid s new)) size-relaid
      ∙ rw (
        front_same 5 (omega arith),
        numbers-relaid 8 (2 * (size_of s - 1)) (omega arith),
        numbers-relaid (right_at (size_of s)) (2 * (size_of s - 1)) (omega arith),
        numbers-relaid (links_at (size_of s)) (size_of s) (omega arith),
        left-relaid,
        right-relaid,
      ) refl

  pub table-relaid : table_of (relaid s new) ≡ table_of s
  table-relaid = ap table_in parts-relaid

  pub layouts-of-relaid : layouts_of (relaid s new) ≡ new
  layouts-of-relaid = ap layouts_in parts-relaid

  pub hold-relaid : hold_of (relaid s new) ≡ hold_of s
  hold-relaid = front_same 5 (omega arith)

  -- laid twice is laid once
  pub relaid-again : (newer : Layouts) → relaid (relaid s new) newer ≡ relaid s newer
  unfolding relaid front
  relaid-again newer =
      ap (λ t. t ++ (newer.left_bytes ++ newer.right_bytes))
      (ap (λ n. take (left_layout_at n) (relaid s new)) size-relaid
      ∙ take_at front (new.left_bytes ++ new.right_bytes) (left_layout_at (size_of s)) length_front)

  -- good bytes in the layouts keep it accepted
  pub relaid-accepted : refusal s ≡ 0 → is_layout new.left_bytes ≡ true → is_layout new.right_bytes ≡ true → refusal (relaid s new) ≡ 0
  unfolding refusal
  relaid-accepted a p q =
      let g = accepted_heading s a in
      let c = accepted-parts s a in
      let size = size-relaid in
      let mark : is_mark (relaid s new) ≡ true =
      unfold is_mark in rw (front_same 0 (omega arith), front_same 1 (omega arith), front_same 2 (omega arith)) g.mark in
      let head = heading_0 (relaid s new) (omega (arith, length-relaid)) mark (two-relaid 3 (omega arith) ∙ g.version)
      (ap is_hold hold-relaid ∙ g.hold) (ap no_size size ∙ unsized (size_of s) z.some z.most)
      (length-relaid ∙ z.whole ∙ ap length_of (sym size)) in
      let body : 0 ≡ contents_refusal (parts (relaid s new)) =
      rw parts-relaid (contents_0 (relaid_in (parts s) new) c.left c.right c.linked p q) in
      else_second (heading_refusal (relaid s new)) (contents_refusal (parts (relaid s new))) (sym head) ∙ sym body

-- laid as it is, a record is itself
pub relaid-same : (s : List ℕ) → Sized s (size_of s) → relaid s (layouts_of s) ≡ s
unfolding relaid parts_of
relaid-same s z =
    let m = left_layout_at (size_of s) in
    let k = size_of s - 1 in
    let rest : take k (drop (m + k) s) ≡ drop k (drop m s) =
    take_all k (drop (m + k) s) (omega (arith, length-drop (m + k) s)) ∙ sym (drop-drop k m s) in
    ap (λ t. take m s ++ (take k (drop m s) ++ t)) rest
    ∙ ap (λ t. take m s ++ t) (take-append-drop k (drop m s))
    ∙ take-append-drop m s
