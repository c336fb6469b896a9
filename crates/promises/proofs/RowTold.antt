-- What each call tells is the refusal of its number, and that number's row is its record's own.
use Prim.Native.Nat.{ℕ}
use mathlib.Core.Path.{◌≡◌, refl, ap, ◌∙◌}
use mathlib.Core.Bool.{Bool, true, false}
use mathlib.Core.List.{List}
use borrow.Author.Tests.{eqb-true}
use Rattle.record_fields.specs.Fields.{parts}
use Rattle.record_fields.specs.Refusals.{refusal}
use Rattle.record_fields.specs.Refused.{accepted}
use Rattle.record_fields.specs.Told.{told_of}
use Rattle.record_fields.proofs.Told.{told_none, refusal-own, set-hold-own}
use Rattle.record_fields.proofs.SaysRow.{told_row, tells-row_in}
use Rattle.record.specs.Calls.{reading_of, reading_refusal}
use Rattle.record_unpacking.proofs.Unpacked.{unpack-own}
use Rattle.record_packing.proofs.Packed.{pack-own}
use Rattle.calls_show.specs.Calls.{squared_refusal}
use Rattle.calls_show.proofs.Outcomes.{order-own, squared-told, thousandths-told}
use Rattle.calls_turns.proofs.Turns.{free_own, run-own}
use Rattle.calls_hands.proofs.HandLists.{hands-own}
use Rattle.calls_pins.proofs.Pinned.{pin-own}
use Rattle.calls_better.proofs.Compared.{compare-own}
use Rattle.calls_take_in.proofs.Taken.{take_in_own}
use Rattle.calls_newick.proofs.Outcomes.{write-own}
use Rattle.calls_merge.proofs.SideWritten.{merge-own}
use Rattle.promises.specs.RowTold as RowTold

-- a reading's refusal, case by case
module _ (s : List ℕ) where
  read_told : reading_refusal (reading_of s) ≡ told_of s (refusal s)
  unfolding reading_of
  read_told = go (accepted (refusal s)) refl
    where
      go : (b : Bool) → accepted (refusal s) ≡ b → reading_refusal (reading_of s) ≡ told_of s (refusal s)
      go true e = rw e (told_none (parts s) (eqb-true (refusal s) 0 e))
      go false e = rw e refl

pub row_told : RowTold.RowTold
row_told = record {
  check = λ s answer p. told_row s (refusal-own s refl) p.answers;
  read = λ s answer p. told_row s (refusal-own s refl) (ap reading_refusal p.answers ∙ read_told s);
  set_hold = λ s letter answer s' p. told_row s (set-hold-own s letter refl) p.answers;
  unpack = λ s left right links left_layout right_layout o p.
      told_row s (unpack-own s left right links left_layout right_layout refl) (ap (λ a. a.refusal) p.answers);
  pack = λ P out answer out' p. tells-row_in P (pack-own P out) p.answers;
  order = λ s side out answer out' p. told_row s (order-own s side out refl) p.answers;
  count = λ s answer p. told_row s (refusal-own s refl) (ap (λ a. a.refusal) p.answers);
  squared_entanglement = λ s answer p. told_row s (refusal-own s refl) (ap squared_refusal p.answers ∙ squared-told s);
  thousandths = λ s answer p. told_row s (refusal-own s refl) (thousandths-told s answer p.answers);
  free = λ s side answer s' p. told_row s (free_own s side refl) (ap (λ a. a.refusal) p.answers);
  run = λ s allowance answer s' p. told_row s (run-own s allowance refl) (ap (λ a. a.refusal) p.answers);
  hands = λ s hands answer s' p. told_row s (hands-own s hands refl) p.answers;
  pin = λ s side row pinned answer s' p. told_row s (pin-own s side row refl) p.answers;
  compare = λ s side first second answer p. told_row s (compare-own s side first second refl) (ap (λ a. a.refusal) p.answers);
  better_check = λ s side first second answer p. told_row s (compare-own s side first second refl) p.answers;
  take_in = λ s side xs out answer out' p. told_row s (take_in_own s side xs out refl) (ap (λ a. a.refusal) p.answers);
  newick_write = λ s side out answer out' p. told_row s (write-own s side out refl) (ap (λ a. a.refusal) p.answers);
  merge_write = λ s side out answer out' p. told_row s (merge-own s side out refl) p.answers;
}
