-- Better of two: its refusals test by test, and from what the calls found to their statements.
use Prim.Native.Nat.{ℕ, ◌≤◌, ◌<◌}
use mathlib.Core.Path.{◌≡◌, refl, sym, ap, ◌∙◌}
use mathlib.Core.Logic.{◌≢◌}
use mathlib.Core.Bool.{Bool, true, false, cond, not}
use mathlib.Core.List.{List}
use native.Mathlib.Omega.{arith}
use borrow.Author.Tests.{le-leb, lt-leb, eqb-true, eq-eqb, ne_eqb}
use lib.Dec.{eqb, lit≤}
use lib.ListN.{length, take}
use Rattle.record_fields.specs.Fields.{size_of, parts}
use Rattle.record_fields.specs.Refusals.{refusal}
use Rattle.tanglegram.specs.declared.side.Side.{Side}
use Rattle.record_fields.specs.declared.refusal.Refusal.{Refusal}
use Rattle.record_fields.specs.Refused.{NumberAndRow, refused, refused_row, number_of, row_of, accepted, or_zero}
use Rattle.record_fields.specs.Told.{told_of, OwnRow}
use Rattle.record_fields.specs.Meaning.{table_of}
use Rattle.record_fields.proofs.Acceptance.{else_first, none_both}
use Rattle.record_fields.proofs.Heading.{none_first, not_no}
use Rattle.record_fields.proofs.Refused.{refuses}
use Rattle.record_fields.proofs.Told.{told_none, told-alone, alone_when, alone_0, own_when, own_then}
use Rattle.record.specs.Calls.{Refused, Reads}
use Rattle.record.proofs.Outcomes.{read-told, read-refuses}
use Rattle.record_arrays.specs.Sides.{RecordOver, is_side, side_of}
use Rattle.calls_better.specs.Answers.{Compared}
use Rattle.record_orders.specs.Proposed.{is_order}
use Rattle.calls_better.specs.Refusals.{better_refusal}
use Rattle.calls_better.specs.Calls.{count_with, first_better, better_part, better_which, Address, Betters}
use Rattle.calls_better.specs.Calls.{Compares}
use Rattle.record_arrays.proofs.AsItStands.{over_n}
use Rattle.record_orders.proofs.Proposals.{order-within}

-- The first n entries of xs are an order of a side of s.
abbrev pub Proposes : List ℕ → ℕ → Side → List ℕ → Type 0
Proposes s n side xs = is_order n ((table_of s).tree side) xs ≡ true

-- What comparing two orders starts from, where nothing is refused.
pub record Ready (s : List ℕ) (n : ℕ) (side : Side) (first second : List ℕ) : Type 0 where
  pub given : RecordOver s n
  pub good-first : Proposes s n side first
  pub good_second : Proposes s n side second
  pub long-first : n ≤ length first
  pub long_second : n ≤ length second

-- ---- the refusal, test by test

module _ (s : List ℕ) (side : ℕ) (first second : List ℕ) where
  abbrev Tells : NumberAndRow → Type 0
  Tells r = r ≡ told_of s (better_refusal s side first second)

  pub comparing_13 : is_side side ≡ false → 13 ≡ better_refusal s side first second
  unfolding better_refusal
  comparing_13 h = rw h refl

  pub comparing_side : is_side side ≡ false → Tells (refused 13)
  comparing_side h = told-alone (parts s) (record { alone = refl }) ∙ ap (told_of s) (comparing_13 h)

  module _ {side' : Side} (good : (is_side side ≡ true) × (side_of side ≡ side')) where
    pub comparing_record : (r : Refusal) → Reads s (Refused (refused_row (number_of r) (row_of r))) →
        Tells (refused_row (number_of r) (row_of r))
    unfolding better_refusal
    comparing_record r found =
        read-told s r found ∙ ap (told_of s) (rw good.0 (sym (else_first (refusal s) _ (read-refuses s r found))))

    module _ {n : ℕ} (g : RecordOver s n) where
      pub comparing_first : is_order n ((table_of s).tree side') first ≡ false → Tells (refused 16)
      unfolding better_refusal
      comparing_first p =
          rw (good.0, g.accepted, rw (← good.1, ← g.sized.says) at p) (told-alone (parts s) (record { alone = refl }))

      module _ (p : Proposes s n side' first) where
        pub comparing_second : is_order n ((table_of s).tree side') second ≡ false → Tells (refused 16)
        unfolding better_refusal
        comparing_second q =
            rw (good.0, g.accepted, rw (← good.1, ← g.sized.says) at p, rw (← good.1, ← g.sized.says) at q)
            (told-alone (parts s) (record { alone = refl }))

        pub comparing_0 : Proposes s n side' second → better_refusal s side first second ≡ 0
        unfolding better_refusal
        comparing_0 q = rw (good.0, g.accepted, rw (← good.1, ← g.sized.says) at p, rw (← good.1, ← g.sized.says) at q) refl

  -- where nothing is refused
  pub ready : {n : ℕ} {side' : Side} → better_refusal s side first second ≡ 0 → side_of side ≡ side' → n ≡ size_of s →
      Ready s n side' first second
  unfolding better_refusal
  ready {n} h same e =
      let t = none_first _ 13 _ (lit≤ tt) h in
      let u = none_both (refusal s) _ t.1 in
      let v = none_first _ 16 _ (lit≤ tt) u.1 in
      let w = none_first _ 16 0 (lit≤ tt) v.1 in
      let g = over_n s u.0 e in
      let p : Proposes s n (side_of side) first = rw e (not_no _ v.0) in
      let q : Proposes s n (side_of side) second = rw e (not_no _ w.0) in
      rw (← same) (record {
        given = g;
        good-first = p;
        good_second = q;
        long-first = order-within s n g (side_of side) first p;
        long_second = order-within s n g (side_of side) second q;
      })

  -- ---- the statements

  -- a row that is told is the record's
  pub compare-own : {k : ℕ} → k ≡ better_refusal s side first second → OwnRow s k
  unfolding better_refusal
  compare-own e =
      let t = (table_of s).tree (side_of side) in
      rw e (own_when s (not (is_side side)) 13 refl (own_then s
      (alone_when (not (is_order (size_of s) t first)) 16 refl (alone_when (not (is_order (size_of s) t second)) 16 refl alone_0))))

  pub compare-refused : (r : Refusal) → Tells (refused_row (number_of r) (row_of r)) →
      Compares s side first second (record { refusal = refused_row (number_of r) (row_of r); which = 0; length = 0 })
  unfolding better_which
  compare-refused r e = record { answers = rw (← e, ne_eqb _ 0 (refuses r e)) refl }

  module _ {n a b : ℕ} {side' : Side} (none : better_refusal s side first second ≡ 0) (same : side_of side ≡ side')
      (e : n ≡ size_of s) (p : a ≡ count_with s side' first) (q : b ≡ count_with s side' second) where
    pub compare-first : a ≤ b → Compares s side first second (record { refusal = refused 0; which = 1; length = n })
    unfolding better_which
    compare-first h = record { answers = rw (told_none (parts s) none, none, same, ← p, ← q, le-leb a b h, e) refl }

    pub compare_second : b < a → Compares s side first second (record { refusal = refused 0; which = 2; length = n })
    unfolding better_which
    compare_second h = record { answers = rw (told_none (parts s) none, none, same, ← p, ← q, lt-leb a b h, e) refl }

  -- from the answer in numbers to the part: so many entries of that order, none of the first where anything is refused
  module _ {c : Compared} (h : Compares s side first second c) where
    compared_length : c.length ≡ or_zero (better_refusal s side first second) (size_of s)
    compared_length = ap (λ r. r.length) h.answers

    compared_which : c.which ≡ better_which s side first second
    compared_which = ap (λ r. r.which) h.answers

    abbrev Part : List ℕ → Type 0
    Part xs = (c.length ≤ length xs) × (take c.length xs ≡ better_part s side first second)

    compared_part : Part (cond (eqb c.which 2) second first)
    unfolding better_which better_part
    compared_part = go (accepted (better_refusal s side first second)) refl (first_better s side first second) refl
      where
        go : (b : Bool) → accepted (better_refusal s side first second) ≡ b → (d : Bool) → first_better s side first second ≡ d →
            Part (cond (eqb c.which 2) second first)
        go false e d f =
            let n : c.length ≡ 0 = compared_length ∙ rw e refl in
            (omega arith, rw (n, e) refl)
        go true e true f =
            let n : c.length ≡ size_of s = compared_length ∙ rw e refl in
            let w : c.which ≡ 1 = compared_which ∙ rw (e, f) refl in
            rw (w, n) ((ready (eqb-true _ _ e) refl refl).long-first, rw (e, f) refl)
        go true e false f =
            let n : c.length ≡ size_of s = compared_length ∙ rw e refl in
            let w : c.which ≡ 2 = compared_which ∙ rw (e, f) refl in
            rw (w, n) ((ready (eqb-true _ _ e) refl refl).long_second, rw (e, f) refl)

    pub part_second : c.which ≡ 2 → Part second
    part_second e = rw (eq-eqb c.which 2 e) at compared_part

    pub part_first : c.which ≢ 2 → Part first
    part_first e = rw (ne_eqb c.which 2 e) at compared_part

    module _ {first-at second_at : Address} where
      pub better_second : c.which ≡ 2 → Betters s side first second first-at second_at (take c.length second) second_at
      better_second e = record { answers = (part_second e).1; begins = rw (← compared_which, eq-eqb c.which 2 e) refl }

      pub better-first : c.which ≢ 2 → Betters s side first second first-at second_at (take c.length first) first-at
      better-first e = record { answers = (part_first e).1; begins = rw (← compared_which, ne_eqb c.which 2 e) refl }
