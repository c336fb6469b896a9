-- What the calls' statements say where the number is not 0.
use mathlib.Core.Path.{◌≡◌, refl, sym, ap, ◌∙◌}
use mathlib.Core.Logic.{◌≢◌}
use mathlib.Core.List.{List}
use mathlib.Core.Option.{none}
use Prim.Native.Nat.{ℕ}
use borrow.Author.Tests.{ne_eqb}
use lib.ListN.{length}
use Rattle.record_fields.specs.Fields.{hold_of, size_of, parts, packed}
use Rattle.record_fields.specs.Refusals.{refusal, set_hold_refusal}
use Rattle.record_fields.proofs.Refused.{lent-refused, zero-refused}
use Rattle.record.specs.Calls.{Reading}
use Rattle.record.specs.Calls as reading
use Rattle.record.specs.Calls.{reading_refusal, hold_in, size_in}
use Rattle.record_unpacking.specs.Refusals.{unpack_refusal}
use Rattle.record_packing.specs.Refusals.{pack_refusal}
use Rattle.calls_show.specs.Answers.{SquaredEntanglement}
use Rattle.calls_show.specs.Answers.{Ratio, NoRatio, Refused}
use Rattle.calls_show.specs.Refusals.{order_refusal}
use Rattle.calls_show.specs.InThousandths.{InThousandths}
use Rattle.calls_show.specs.InThousandths as in_thousandths
use Rattle.calls_show.specs.Calls.{squared_entanglement, squared_refusal, displaced_in, worst_in, ratio_in}
use Rattle.calls_show.specs.Calls.{thousandths_refusal, thousandths_in}
use Rattle.calls_turns.specs.Refusals.{free_refusal, run_refusal}
use Rattle.calls_hands.specs.Refusals.{hands_refusal}
use Rattle.calls_pins.specs.Refusals.{pin_refusal}
use Rattle.calls_better.specs.Refusals.{better_refusal}
use Rattle.calls_better.specs.Calls.{better_part, better_which}
use Rattle.calls_take_in.specs.Refusals.{take_in_refusal}
use Rattle.newick.specs.Sentence.{leaf_count}
use Rattle.newick.specs.Rows.{rows_of}
use Rattle.calls_newick.specs.Refusals.{said, newick_read_refusal, written_text, newick_write_refusal}
use Rattle.calls_merge.specs.Refusals.{merge_read_refusal, merge_write_refusal}
use Rattle.promises.specs.Outcomes.{UnpackOutcome, UnpacksTo}
use Rattle.promises.specs.RefusedCalls as RefusedCalls
use Rattle.promises.specs.RefusedCalls.{NothingUnpacked}

no_header : (a : Reading) → (reading_refusal a).number ≢ 0 → (hold_in a ≡ 0) × (size_in a ≡ 0)
no_header (reading.Accepted h) z = absurd (z refl)
no_header (reading.Refused r) z = (refl, refl)

nothing_unpacked : (s left right links left_layout right_layout : List ℕ) (o : UnpackOutcome) →
    UnpacksTo s left right links left_layout right_layout o → o.answer.refusal.number ≢ 0 →
    NothingUnpacked left right links left_layout right_layout o
nothing_unpacked s left right links left_layout right_layout o p z =
    let k = unpack_refusal s left right links left_layout right_layout in
    let h : k ≢ 0 = λ e. z (ap (λ a. a.refusal.number) p.answers ∙ e) in
    record {
      no_hold = ap (λ a. a.hold) p.answers ∙ sym (zero-refused k (hold_of s) h);
      no_size = ap (λ a. a.n) p.answers ∙ sym (zero-refused k (size_of s) h);
      left_as_found = p.afterwards_left ∙ sym (lent-refused k (parts s).left_rows left h);
      right_as_found = p.afterwards_right ∙ sym (lent-refused k (parts s).right_rows right h);
      links_as_found = p.afterwards_links ∙ sym (lent-refused k (parts s).links links h);
      left_layout_as_found = p.afterwards-left-layout ∙ sym (lent-refused k (parts s).left_layout left_layout h);
      right_layout_as_found = p.afterwards-right-layout ∙ sym (lent-refused k (parts s).right_layout right_layout h);
    }

pub refused-calls : RefusedCalls.RefusedCalls
unfolding squared_entanglement better_part better_which
refused-calls = record {
  read = λ s answer p z. no_header answer z;
  unpack = nothing_unpacked;
  pack =
      λ P out answer after p z.
      p.afterwards ∙ sym (lent-refused (pack_refusal P out) (packed P) out (λ e. z (ap (λ a. a.number) p.answers ∙ e)));
  set_hold =
      λ s letter answer after p z.
      p.afterwards ∙ rw (ne_eqb (set_hold_refusal s letter) 0 (λ e. z (ap (λ a. a.number) p.answers ∙ e))) refl;
  order = λ s side out answer out' o h.
      o.afterwards ∙ rw (ne_eqb (order_refusal s side out) 0 (λ z. h (ap (λ a. a.number) o.answers ∙ z))) refl;
  count = λ s answer o h.
      ap (λ a. a.count) o.answers ∙ rw (ne_eqb (refusal s) 0 (λ z. h (ap (λ a. a.refusal.number) o.answers ∙ z))) refl;
  squared_entanglement = λ s answer o h. no_squared answer h;
  thousandths = λ s answer o h. no_thousandths answer h;
  free = λ s side answer s' o h.
      let e = ne_eqb (free_refusal s side) 0 (λ z. h (ap (λ a. a.refusal.number) o.answers ∙ z)) in
      (o.afterwards ∙ rw e refl, ap (λ a. a.before) o.answers ∙ rw e refl, ap (λ a. a.after) o.answers ∙ rw e refl);
  run = λ s allowance answer s' o h.
      let e = ne_eqb (run_refusal s allowance) 0 (λ z. h (ap (λ a. a.refusal.number) o.answers ∙ z)) in (
        o.afterwards ∙ rw e refl,
        ap (λ a. a.first) o.answers ∙ rw e refl,
        ap (λ a. a.last) o.answers ∙ rw e refl,
        ap (λ a. a.turns) o.answers ∙ rw e refl,
        ap (λ a. a.settled) o.answers ∙ rw e refl,
      );
  hands = λ s hands answer s' o h.
      o.afterwards ∙ rw (ne_eqb (hands_refusal s hands) 0 (λ z. h (ap (λ a. a.number) o.answers ∙ z))) refl;
  pin = λ s side row pinned answer s' o h.
      o.afterwards ∙ rw (ne_eqb (pin_refusal s side row) 0 (λ z. h (ap (λ a. a.number) o.answers ∙ z))) refl;
  better = λ s side first second first-at second_at part part_at o h.
      let e = ne_eqb (better_refusal s side first second) 0 h in
      (o.answers ∙ rw e refl, o.begins ∙ rw e refl);
  compare = λ s side first second answer o h.
      let e = ne_eqb (better_refusal s side first second) 0 (λ z. h (ap (λ a. a.refusal.number) o.answers ∙ z)) in
      (ap (λ a. a.which) o.answers ∙ rw e refl, ap (λ a. a.length) o.answers ∙ rw e refl);
  take_in = λ s side xs out answer out' o h.
      let e = ne_eqb (take_in_refusal s side xs out) 0 (λ z. h (ap (λ a. a.refusal.number) o.answers ∙ z)) in
      (o.afterwards ∙ rw e refl, ap (λ a. a.count) o.answers ∙ rw e refl, ap (λ a. a.least) o.answers ∙ rw e refl);
  newick_read = λ text out answer out' o h.
      let k = newick_read_refusal text out in
      let z : k ≢ 0 = λ e. h (ap (λ a. a.refusal.number) o.answers ∙ e) in (
        o.afterwards ∙ sym (lent-refused k (rows_of (said text)) out z),
        ap (λ a. a.n) o.answers ∙ sym (zero-refused k (leaf_count (said text)) z),
      );
  newick_write = λ s side out answer out' o h.
      let k = newick_write_refusal s side out in
      let z : k ≢ 0 = λ e. h (ap (λ a. a.refusal.number) o.answers ∙ e) in (
        o.afterwards ∙ sym (lent-refused k (written_text s side) out z),
        ap (λ a. a.length) o.answers ∙ sym (zero-refused k (length (written_text s side)) z),
      );
  merge_read = λ n table out answer out' o h.
      o.afterwards ∙ rw (ne_eqb (merge_read_refusal n table out) 0 (λ z. h (ap (λ a. a.number) o.answers ∙ z))) refl;
  merge_write = λ s side out answer out' o h.
      o.afterwards ∙ rw (ne_eqb (merge_write_refusal s side out) 0 (λ z. h (ap (λ a. a.number) o.answers ∙ z))) refl;
}
  where
    no_squared : (answer : SquaredEntanglement) → (squared_refusal answer).number ≢ 0 →
        (displaced_in answer ≡ 0) × (worst_in answer ≡ 0) × (ratio_in answer ≡ none)
    no_squared (Ratio d w x) h = absurd (h refl)
    no_squared NoRatio h = absurd (h refl)
    no_squared (Refused r) h = (refl, refl, refl)

    no_thousandths : (answer : InThousandths) → (thousandths_refusal answer).number ≢ 0 → thousandths_in answer ≡ none
    no_thousandths (in_thousandths.Ratio k) h = absurd (h refl)
    no_thousandths in_thousandths.NoRatio h = absurd (h refl)
    no_thousandths (in_thousandths.Refused r) h = refl
