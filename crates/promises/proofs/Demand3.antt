-- A run of an accepted record that is not held keeps demand 3.
use Prim.Native.Nat.{ℕ, zero, suc, pred, ◌≤◌, ◌<◌}
use mathlib.Core.Path.{◌≡◌, refl, sym, ap, ◌∙◌, subst}
use mathlib.Core.Bool.{Bool, true, false}
use native.Mathlib.Omega.{arith}
use borrow.Author.Tests.{eq-eqb}
use Rattle.tanglegram.specs.Lists.{bit}
use Rattle.tanglegram.specs.declared.side.Side.{Side}
use Rattle.tanglegram.specs.declared.side.Side.TheVariants.{Left as left, Right as right}
use Rattle.tanglegram.specs.Run.{other, after}
use Rattle.tanglegram.specs.Table.{Table, Layouts, crossings, free, Least, Fits}
use Rattle.tanglegram.proofs.Lists.{bit-most}
use Rattle.tanglegram.proofs.Run.{stays_good, no_rise}
use Rattle.tanglegram.proofs.Table.{frees, table-run}
use Rattle.record_fields.specs.Fields.{hold_of}
use Rattle.record_fields.specs.Refusals.{refusal}
use Rattle.record_fields.specs.Meaning.{table_of, layouts_of, relaid}
use Rattle.record_fields.proofs.Acceptance.{accepted-sized}
use Rattle.record_fields.proofs.Meaning.{accepted_fair, accepted_fits, fits_long, layouts-of-relaid, table-relaid}
use Rattle.record_arrays.specs.Sides.{holds}
use Rattle.calls_turns.specs.Refusals.{run_refusal}
use Rattle.record_arrays.specs.Shown.{shown_count}
use Rattle.calls_turns.specs.Calls.{ran_to}
use Rattle.calls_turns.proofs.Turns.{allowance-good, running_0}
use Rattle.promises.specs.Demand3.{next_after, count_after, Demand3}

-- `N` holds no side
not_held : (hold : ℕ) (side : Side) → hold ≡ 78 → holds hold side ≡ false
unfolding holds
not_held hold left e = rw e refl
not_held hold right e = rw e refl

bit-true : (b : Bool) → bit b ≡ 1 → b ≡ true
bit-true true e = refl
bit-true false e = absurd (omega arith)

bit-false : (b : Bool) → bit b ≡ 0 → b ≡ false
bit-false true e = absurd (omega arith)
bit-false false e = refl

-- a run that settles at the second turn or later does not settle where one turn is taken
not_one : (b : Bool) (turns : ℕ) → (b ≡ true → 2 ≤ turns) → turns ≤ 1 → bit b ≡ 0
not_one true turns two one = let p = two refl in absurd (omega arith)
not_one false turns two one = refl

-- the last turn, by its number and by the one before
last_equal : (turns j : ℕ) (f : ℕ → ℕ) → turns ≡ suc j → f (suc j) ≡ f j → f turns ≡ f (pred turns)
last_equal turns j f e h = rw e h

last_less : (turns : ℕ) (f : ℕ → ℕ) → 2 ≤ turns → ((j : ℕ) → 1 ≤ j → j < turns → f (suc j) < f j) → f turns < f (pred turns)
last_less zero f two h = absurd (omega arith)
last_less (suc j) f two h = h j (omega arith) (omega arith)

-- one turn more is the freeing of the side that is next
one_turn_more : {S : Type 0} (free : Side → S → S) (j : ℕ) (side : Side) (s : S) →
    after free (suc j) side s ≡ free (next_after j side) (after free j side s)
unfolding after next_after
one_turn_more free zero side s = refl
one_turn_more free (suc j) side s = one_turn_more free j (other side) (free side s)

pub demand3 : Demand3
demand3 = record {
  run = λ s allowance answer s' o a h one most.
      let T = table_of s in
      let F = accepted_fair s a in
      let fits = accepted_fits s a in
      let E = ran_to s allowance in
      let ends = table-run T F allowance (layouts_of s) fits in
      let n-free = not_held (hold_of s) left h in
      let z = sym (running_0 s allowance (allowance-good allowance (omega arith) most) a n-free (not_held (hold_of s) right h)) in
      let q = eq-eqb (run_refusal s allowance) 0 z in
      let new-fits = subst (Fits F) (sym ends.is_after)
      (stays_good (Fits F) (crossings T) (Least T) (free T) (frees T F) E.turns left (layouts_of s) fits) in
      let l = fits_long s a E.last new-fits left in
      let r = fits_long s a E.last new-fits right in
      let turns : answer.turns ≡ E.turns = ap (λ x. x.turns) o.answers ∙ rw q refl in
      let first : answer.first ≡ shown_count s = ap (λ x. x.first) o.answers ∙ rw q refl in
      let last : answer.last ≡ crossings T E.last = ap (λ x. x.last) o.answers ∙ rw q refl in
      let settled : answer.settled ≡ bit E.settled = ap (λ x. x.settled) o.answers ∙ rw q refl in
      let second : (E.settled ≡ true → 2 ≤ E.turns) = λ e. let stop = ends.stops e in omega (arith, stop.1, stop.2) in
      let left_behind : s' ≡ relaid s E.last = o.afterwards ∙ rw q refl in
      let table_same : table_of s' ≡ T = ap table_of left_behind ∙ table-relaid s (accepted-sized s a) E.last l r in
      let laid : layouts_of s' ≡ E.last = ap layouts_of left_behind ∙ layouts-of-relaid s (accepted-sized s a) E.last l r in
      record {
        accepted = ap (λ x. x.refusal.number) o.answers ∙ z;
        first_count = first;
        last_count = last ∙ sym (ap (λ X. crossings X (layouts_of s')) table_same ∙ ap (crossings T) laid);
        alternate = left_behind ∙ ap (relaid s) (rw turns ends.is_after);
        within = rw turns ends.allowed;
        no_rise = λ j. no_rise (Fits F) (crossings T) (Least T) (free T) (frees T F) j left (layouts_of s) fits;
        few_turns = rw (turns, last, first) ends.few;
        goes_on = λ j p lt. ends.goes_on j p (rw turns at lt);
        two_turns = λ p. rw turns (ends.enough p);
        each_frees = λ j. one_turn_more (free T) j left (layouts_of s);
        settled_or_not = rw settled (bit-most E.settled);
        last_gained_nothing = λ e.
            let stop = ends.stops (bit-true E.settled (sym settled ∙ e)) in
            rw turns (last_equal E.turns stop.0 (count_after s) stop.1 stop.3);
        not_turn_1 = λ e. rw turns (second (bit-true E.settled (sym settled ∙ e)));
        last_gained = λ e two.
            rw turns (last_less E.turns (count_after s) (rw turns at two) (ends.gained (bit-false E.settled (sym settled ∙ e))));
        not_by_one = λ e. settled ∙ not_one E.settled E.turns second (omega (arith, ends.allowed));
        in_time = λ p. settled ∙ ap bit (ends.in_time (rw first at p));
        used_up = λ e. turns ∙ ends.used_up (bit-false E.settled (sym settled ∙ e));
        least = λ e side.
            let both = ends.both (bit-true E.settled (sym settled ∙ e)) in
            subst (λ X. Least X side (layouts_of s')) (sym table_same)
            (subst (Least T side) (sym laid) (of_either T E.last both side));
      };
}
  where
    of_either : (T : Table) (x : Layouts) → Least T left x × Least T right x → (side : Side) → Least T side x
    of_either T x both left = both.0
    of_either T x both right = both.1
