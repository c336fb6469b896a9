-- A row array filled with a list of rows: its rows are the list's, so that it is good if they are.
use Prim.Native.Nat.{ℕ, pred, ◌+◌, ◌-◌, ◌*◌, ◌≤◌, ◌<◌}
use mathlib.Core.Path.{◌≡◌, sym, ap, ◌∙◌, subst}
use mathlib.Core.List.{List}
use native.Mathlib.Omega.{arith}
use lib.ListN.{length, get_or, set, take, drop, get_or-append}
use lib.Seq.{sets, sets-eq, length-sets, get_or-set_same, get_or-set_other, take-append_seam}
use Rattle.tanglegram.specs.Tree.{tree, Rule}
use Rattle.work_trees.specs.Rows.{upper, lower, size, tree_of, GoodRows}
use Rattle.work_trees.proofs.Objects.{object_cong}
use Rattle.work_tree_rule.proofs.Rule.{rule_cong}

-- ---- a list stored from the first place on

pub get_d_sets : (l vs : List ℕ) (i : ℕ) → i < length vs → length vs ≤ length l → get_or (sets l 0 vs) i 0 ≡ get_or vs i 0
get_d_sets l vs i p q =
    ap (λ r. get_or r i 0) (sets-eq vs l 0 (omega arith)) ∙ get_or-append vs (drop (0 + length vs) l) 0 i p

pub take-sets : (l vs : List ℕ) (n : ℕ) → length vs ≡ n → n ≤ length l → take n (sets l 0 vs) ≡ vs
take-sets l vs n e q =
    ap (take n) (sets-eq vs l 0 (omega arith)) ∙ rw (← e) (take-append_seam vs (drop (0 + length vs) l))

module _ (l rs : List ℕ) (n : ℕ) (full : length l ≡ 1023) (e : length rs ≡ 2 * (n - 1)) (most : n ≤ 512) where
  rows_filled : List ℕ
  rows_filled = set (sets l 0 rs) 1022 n

  pub size-filled : size (set (sets l 0 rs) 1022 n) ≡ n
  size-filled = get_or-set_same (sets l 0 rs) 1022 n 0 (omega (arith, length-sets l 0 rs))

  entry_filled : (k : ℕ) → k < length rs → get_or (set (sets l 0 rs) 1022 n) k 0 ≡ get_or rs k 0
  entry_filled k h = get_or-set_other (sets l 0 rs) 1022 k n 0 (omega arith) ∙ get_d_sets l rs k h (omega arith)

  pub rows-filled : (i : ℕ) → 1 ≤ i → i < n →
      (upper (set (sets l 0 rs) 1022 n) i ≡ upper rs i) × (lower (set (sets l 0 rs) 1022 n) i ≡ lower rs i)
  rows-filled i p q = (entry_filled (2 * pred i) (omega arith), entry_filled (2 * pred i + 1) (omega arith))

  module _ (p : 1 ≤ n) (rule : Rule n (upper rs) (lower rs)) where
    back : (i : ℕ) → 1 ≤ i → i < n → (upper rs i ≡ upper (set (sets l 0 rs) 1022 n) i) × (lower rs i ≡ lower (set (sets l 0 rs) 1022 n) i)
    back i a b = let e = rows-filled i a b in (sym e.0, sym e.1)

    filled-rule : Rule n (upper (set (sets l 0 rs) 1022 n)) (lower (set (sets l 0 rs) 1022 n))
    filled-rule = let T = set (sets l 0 rs) 1022 n in rule_cong n (upper rs) (lower rs) (upper T) (lower T) back rule

    -- rows that keep the rule make a good row array
    pub good-filled : GoodRows (set (sets l 0 rs) 1022 n)
    good-filled =
        let T = set (sets l 0 rs) 1022 n in
        let e = size-filled in
        record { some = omega arith; most = omega arith; rule = subst (λ k. Rule k (upper T) (lower T)) (sym e) filled-rule }

    -- and the array's tree is theirs
    pub tree-filled : tree_of (set (sets l 0 rs) 1022 n) ≡ tree (upper rs) (lower rs) n
    tree-filled =
        let T = set (sets l 0 rs) 1022 n in
        ap (λ k. tree (upper T) (lower T) k) size-filled
        ∙ object_cong n (upper T) (lower T) (upper rs) (lower rs) rows-filled filled-rule (n + pred n) (omega arith)
