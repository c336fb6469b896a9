-- Which orders are taken in: some layout gives the order and agrees with the pins exactly if both tests of it pass, and the number tells
-- so.
use Prim.Native.Nat.{ℕ, suc, pred, ◌-◌, ◌≤◌, ◌<◌}
use mathlib.Core.Path.{◌≡◌, refl, sym, ◌∙◌}
use mathlib.Core.Logic.{◌↔◌, ◌⊎◌, inl, inr}
use mathlib.Core.Bool.{Bool, true, false, not, true≢false}
use mathlib.Core.List.Permᴰ
use mathlib.Core.List.{List}
use native.Mathlib.Omega.{arith}
use borrow.Author.Tests.{ltb-true, ltb-false}
use lib.Dec.{ltb}
use lib.ListN.{length, get_or, take}
use Rattle.tanglegram.specs.Tree.{leaves}
use Rattle.tanglegram.specs.Order.{turned, byte, order, Choice, against_pins}
use Rattle.tanglegram.specs.declared.side.Side.{Side}
use Rattle.tanglegram.specs.Table.{layout}
use Rattle.tanglegram.proofs.Bools.{must_fail}
use Rattle.tanglegram.proofs.Lists.{all_distinct, each-mem, mem-perm, mem-range}
use Rattle.tanglegram.proofs.Order.{order-compatible, layout_unique}
use Rattle.tanglegram.proofs.PinnedAs.{order-pinned_as, against_choice, pinned-within}
use Rattle.record_fields.specs.Fields.{size_of}
use Rattle.record_fields.specs.Refusals.{◌when◌else◌, refusal}
use Rattle.record_fields.specs.Meaning.{table_of, layouts_of}
use Rattle.record_fields.proofs.Meaning.{accepted_fair, accepted_fits}
use Rattle.record_arrays.specs.Sides.{RecordOver}
use Rattle.record_arrays.proofs.AsItStands.{over_its_leaves, side-leaves, length_part}
use Rattle.record_orders.specs.Proposed.{is_order}
use Rattle.record_orders.proofs.Proposals.{is-order-compatible, read_off, length-shown}
use Rattle.calls_take_in.specs.Refusals.{shown_on}
use Rattle.calls_take_in.specs.Calls.{taken_bytes}
use Rattle.promises.specs.TakeIn.{CompatibleOn, NonePermitted, SomePermitted, NumberTold}

module _ (s : List ℕ) (a : refusal s ≡ 0) (side : Side) (xs : List ℕ) where
  abbrev n : ℕ
  n = size_of s

  abbrev lay : List ℕ
  lay = layout (layouts_of s) side

  abbrev shown : List ℕ
  shown = shown_on s side xs

  abbrev bytes : List ℕ
  bytes = taken_bytes s side xs

  abbrev one : Bool
  one = is_order n ((table_of s).tree side) xs

  g : RecordOver s n
  g = over_its_leaves s a

  pub lay_long : length lay ≡ n - 1
  lay_long = length_part s n g side

  pub same-long : length lay ≡ length shown
  same-long = lay_long ∙ sym (length-shown n ((table_of s).tree side) xs)

  -- the same rows are turned by any layout that gives the order
  module _ (o : one ≡ true) where
    pub shown-gives : order shown ((table_of s).tree side) ≡ take n xs
    shown-gives = read_off s n g side xs ((is-order-compatible s a side xs).0 o).1

    pub bytes_give : order bytes ((table_of s).tree side) ≡ take n xs
    bytes_give = order-pinned_as lay shown ((table_of s).tree side) ∙ shown-gives

    pub turns-alike : (any : List ℕ) → order any ((table_of s).tree side) ≡ take n xs → (i : ℕ) → i < length lay →
        turned (get_or any i 0) ≡ turned (get_or shown i 0)
    turns-alike any e i h =
        let t = (table_of s).tree side in
        let fair = accepted_fair s a in
        let many = accepted_fits s a side in
        let alike = layout_unique t any shown (all_distinct n (leaves t) (side-leaves s n g side)) (e ∙ sym shown-gives) in
        each-mem (λ j. turned (byte any j) ≡ turned (byte shown j)) alike
        (mem-perm (Permᴰ.symm (fair.numbered side)) (mem-range (suc i) 1 (fair.row_count side) (omega arith) (omega arith)))

  -- some layout gives the order and agrees with the pins exactly if both tests pass
  pub some-exactly : SomePermitted s side xs ↔ ((one ≡ true) × (against_pins lay shown ≡ false))
  some-exactly = (there, λ p. back p.0 p.1)
    where
      there : SomePermitted s side xs → (one ≡ true) × (against_pins lay shown ≡ false)
      there p =
          let t = (table_of s).tree side in
          let any = p.0 in
          let h = p.1 in
          let o = (is-order-compatible s a side xs).1 (h.enough, rw h.gives at (order-compatible any t)) in
          let alike = turns-alike o any h.gives in
          let agrees : Choice lay shown = λ i m. sym (alike (pred i) (pinned-within lay (pred i) m)) ∙ h.agrees i m in
          (o, (against_choice lay shown same-long).1 agrees)

      back : one ≡ true → against_pins lay shown ≡ false → SomePermitted s side xs
      back o k = (
        shown,
        record {
          enough = ((is-order-compatible s a side xs).0 o).0;
          gives = shown-gives o;
          agrees = (against_choice lay shown same-long).0 k;
        },
      )

  compatible-exactly : CompatibleOn s side xs ↔ (one ≡ true)
  compatible-exactly = ((is-order-compatible s a side xs).1, (is-order-compatible s a side xs).0)

  -- ---- the number

  -- what each number means in tests
  data Case (out : List ℕ) (k : ℕ) : Type 0 where
    is_16 : k ≡ 16 → one ≡ false → Case out k
    is_23 : k ≡ 23 → one ≡ true → against_pins lay shown ≡ true → Case out k
    is_14 : k ≡ 14 → one ≡ true → against_pins lay shown ≡ false → length out < n - 1 → Case out k
    is_0 : k ≡ 0 → one ≡ true → against_pins lay shown ≡ false → n - 1 ≤ length out → Case out k

  case : (out : List ℕ) {k : ℕ} →
      k ≡ (16 when not one else 23 when against_pins lay shown else 14 when ltb (length out) (n - 1) else 0) → Case out k
  case out {k} e = go one (against_pins lay shown) (ltb (length out) (n - 1)) refl refl refl e
    where
      go : (b c d : Bool) → one ≡ b → against_pins lay shown ≡ c → ltb (length out) (n - 1) ≡ d →
          k ≡ (16 when not b else 23 when c else 14 when d else 0) → Case out k
      go false c d p q r e = is_16 e p
      go true true d p q r e = is_23 e p q
      go true false true p q r e = is_14 e p q (ltb-true _ _ r)
      go true false false p q r e = is_0 e p q (ltb-false _ _ r)

  module _ (out : List ℕ) {k : ℕ} where
    fails_16 : Case out k → one ≡ false → k ≡ 16
    fails_16 (is_16 e p) h = e
    fails_16 (is_23 e p q) h = absurd (true≢false (sym p ∙ h))
    fails_16 (is_14 e p q r) h = absurd (true≢false (sym p ∙ h))
    fails_16 (is_0 e p q r) h = absurd (true≢false (sym p ∙ h))

    fails_23 : Case out k → one ≡ true → against_pins lay shown ≡ true → k ≡ 23
    fails_23 (is_16 e p) h z = absurd (true≢false (sym h ∙ p))
    fails_23 (is_23 e p q) h z = e
    fails_23 (is_14 e p q r) h z = absurd (true≢false (sym z ∙ q))
    fails_23 (is_0 e p q r) h z = absurd (true≢false (sym z ∙ q))

    -- neither test fails
    passes : Case out k → SomePermitted s side xs → ((k ≡ 14) × (length out < n - 1)) ⊎ ((k ≡ 0) × (n - 1 ≤ length out))
    passes (is_16 e p) h = absurd (true≢false (sym (some-exactly.0 h).0 ∙ p))
    passes (is_23 e p q) h = absurd (true≢false (sym q ∙ (some-exactly.0 h).1))
    passes (is_14 e p q r) h = inl (e, r)
    passes (is_0 e p q r) h = inr (e, r)

    tells_16 : Case out k → k ≡ 16 → CompatibleOn s side xs → ⊥
    tells_16 (is_16 e p) h c = true≢false (sym (compatible-exactly.0 c) ∙ p)
    tells_16 (is_23 e p q) h c = omega (arith, e, h)
    tells_16 (is_14 e p q r) h c = omega (arith, e, h)
    tells_16 (is_0 e p q r) h c = omega (arith, e, h)

    tells_23 : Case out k → k ≡ 23 → CompatibleOn s side xs × NonePermitted s side xs
    tells_23 (is_16 e p) h = absurd (omega (arith, e, h))
    tells_23 (is_23 e p q) h = (compatible-exactly.1 p, λ any m. true≢false (sym q ∙ (some-exactly.0 (any, m)).1))
    tells_23 (is_14 e p q r) h = absurd (omega (arith, e, h))
    tells_23 (is_0 e p q r) h = absurd (omega (arith, e, h))

    tells_14 : Case out k → k ≡ 14 → SomePermitted s side xs × (length out < n - 1)
    tells_14 (is_16 e p) h = absurd (omega (arith, e, h))
    tells_14 (is_23 e p q) h = absurd (omega (arith, e, h))
    tells_14 (is_14 e p q r) h = (some-exactly.1 (p, q), r)
    tells_14 (is_0 e p q r) h = absurd (omega (arith, e, h))

    tells_0 : Case out k → k ≡ 0 → SomePermitted s side xs × (n - 1 ≤ length out)
    tells_0 (is_16 e p) h = absurd (omega (arith, e, h))
    tells_0 (is_23 e p q) h = absurd (omega (arith, e, h))
    tells_0 (is_14 e p q r) h = absurd (omega (arith, e, h))
    tells_0 (is_0 e p q r) h = (some-exactly.1 (p, q), r)

    refuses : Case out k → NonePermitted s side xs → (k ≡ 16) ⊎ (k ≡ 23)
    refuses (is_16 e p) h = inl e
    refuses (is_23 e p q) h = inr e
    refuses (is_14 e p q r) h = let m = some-exactly.1 (p, q) in absurd (h m.0 m.1)
    refuses (is_0 e p q r) h = let m = some-exactly.1 (p, q) in absurd (h m.0 m.1)

    four : Case out k → (k ≡ 16) ⊎ (k ≡ 23) ⊎ (k ≡ 14) ⊎ (k ≡ 0)
    four (is_16 e p) = inl e
    four (is_23 e p q) = inr (inl e)
    four (is_14 e p q r) = inr (inr (inl e))
    four (is_0 e p q r) = inr (inr (inr e))

    told-by : Case out k → NumberTold s side xs out k
    told-by c = record {
      not_compatible = (tells_16 c, λ h. fails_16 c (must_fail one (λ e. h (compatible-exactly.1 e))));
      order_refused = (none, refuses c);
      against_a_pin = (tells_23 c, λ h. only_23 (refuses c h.1) h);
      no_room = (tells_14 c, λ h. short (passes c h.0) h.1);
      taken = (tells_0 c, λ h. long (passes c h.0) h.1);
      no_other = four c;
    }
      where
        none : (k ≡ 16) ⊎ (k ≡ 23) → NonePermitted s side xs
        none (inl e) any m = tells_16 c e (compatible-exactly.1 (some-exactly.0 (any, m)).0)
        none (inr e) any m = (tells_23 c e).1 any m

        only_23 : (k ≡ 16) ⊎ (k ≡ 23) → CompatibleOn s side xs × NonePermitted s side xs → k ≡ 23
        only_23 (inl e) h = absurd (tells_16 c e h.0)
        only_23 (inr e) h = e

        short : ((k ≡ 14) × (length out < n - 1)) ⊎ ((k ≡ 0) × (n - 1 ≤ length out)) → length out < n - 1 → k ≡ 14
        short (inl e) h = e.0
        short (inr e) h = absurd (omega (arith, e.1, h))

        long : ((k ≡ 14) × (length out < n - 1)) ⊎ ((k ≡ 0) × (n - 1 ≤ length out)) → n - 1 ≤ length out → k ≡ 0
        long (inl e) h = absurd (omega (arith, e.1, h))
        long (inr e) h = e.0

  pub number-told : (out : List ℕ) {k : ℕ} →
      k ≡ (16 when not one else 23 when against_pins lay shown else 14 when ltb (length out) (n - 1) else 0) → NumberTold s side xs out k
  number-told out e = told-by out (case out e)
