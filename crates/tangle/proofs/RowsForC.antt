-- The answers for C tell their rows, since they carry the refusals that the calls themselves tell.
use Prim.Native.Nat.{ℕ}
use mathlib.Core.Path.{refl, sym, ap, ◌∙◌, subst}
use Rattle.record_fields.specs.Refused.{NumberAndRow}
use Rattle.record_fields.specs.Fields.{Parts, parts}
use Rattle.record_fields.specs.Told.{SaysRow}
use Rattle.record_fields.proofs.Told.{refusal-own, set-hold-own}
use Rattle.record_fields.proofs.SaysRow.{told_row, tells-row_in}
use Rattle.record_unpacking.proofs.Unpacked.{unpack-own}
use Rattle.record_packing.proofs.Packed.{pack-own}
use Rattle.calls_show.specs.Answers.{SquaredEntanglement}
use Rattle.calls_show.specs.Answers.{Ratio, NoRatio, Refused}
use Rattle.calls_show.specs.InThousandths.{InThousandths}
use Rattle.calls_show.specs.InThousandths as in_thousandths
use Rattle.calls_show.specs.Calls.{squared_refusal, thousandths_refusal}
use Rattle.calls_show.proofs.Outcomes.{order-own, squared-told, thousandths-told}
use Rattle.calls_turns.proofs.Turns.{free_own, run-own}
use Rattle.calls_hands.proofs.HandLists.{hands-own}
use Rattle.calls_pins.proofs.Pinned.{pin-own}
use Rattle.calls_better.proofs.Compared.{compare-own}
use Rattle.calls_take_in.proofs.Taken.{take_in_own}
use Rattle.calls_newick.proofs.Outcomes.{write-own}
use Rattle.calls_merge.proofs.SideWritten.{merge-own}
use Rattle.tangle.specs.declared.answers.TangleRefusal.{TangleRefusal}
use Rattle.tangle.specs.ForC.{Gives, refusal_for_c, squared_for_c, thousandths_for_c}
use Rattle.tangle.specs.RowsForC.{RowsForC}

-- an answer in a form says what the form of each answer that the call may give says
in_form : {P : Parts} {A B : Type 0} {call : A → Type 0} {form : A → B} {answer : B} (number row : B → ℕ) →
    ((a : A) → call a → SaysRow P (number (form a)) (row (form a))) → Gives call form answer → SaysRow P (number answer) (row answer)
in_form {P} number row says g = subst (λ x. SaysRow P (number x) (row x)) (sym g.answers) (says g.given g.called)

-- one that is the refusal alone
alone : {P : Parts} {call : NumberAndRow → Type 0} {answer : TangleRefusal} → ((a : NumberAndRow) → call a → SaysRow P a.number a.row) →
    Gives call refusal_for_c answer → SaysRow P answer.refusal answer.row
alone says g = in_form (λ x. x.refusal) (λ x. x.row) says g

-- squared entanglement and thousandths, case by case
squared_form : (P : Parts) (a : SquaredEntanglement) → SaysRow P (squared_refusal a).number (squared_refusal a).row →
    SaysRow P (squared_for_c a).refusal (squared_for_c a).row
squared_form P (Ratio d w x) says = says
squared_form P NoRatio says = says
squared_form P (Refused r) says = says

thousandths_form : (P : Parts) (a : InThousandths) → SaysRow P (thousandths_refusal a).number (thousandths_refusal a).row →
    SaysRow P (thousandths_for_c a).refusal (thousandths_for_c a).row
thousandths_form P (in_thousandths.Ratio k) says = says
thousandths_form P in_thousandths.NoRatio says = says
thousandths_form P (in_thousandths.Refused r) says = says

pub rows_for_c : RowsForC
rows_for_c = record {
  check = λ s answer g. alone (λ a p. told_row s (refusal-own s refl) p.answers) g;
  order = λ s side out answer out' g. alone (λ a p. told_row s (order-own s side out refl) p.answers) g;
  count =
      λ s answer g.
      in_form (λ x. x.refusal) (λ x. x.row) (λ a p. told_row s (refusal-own s refl) (ap (λ c. c.refusal) p.answers)) g;
  squared_entanglement =
      λ s answer g.
      in_form (λ x. x.refusal) (λ x. x.row)
      (λ a p. squared_form (parts s) a (told_row s (refusal-own s refl) (ap squared_refusal p.answers ∙ squared-told s))) g;
  thousandths =
      λ s answer g.
      in_form (λ x. x.refusal) (λ x. x.row)
      (λ a p. thousandths_form (parts s) a (told_row s (refusal-own s refl) (thousandths-told s a p.answers))) g;
  free =
      λ s side answer s' g.
      in_form (λ x. x.refusal) (λ x. x.row) (λ a p. told_row s (free_own s side refl) (ap (λ c. c.refusal) p.answers)) g;
  run =
      λ s allowance answer s' g.
      in_form (λ x. x.refusal) (λ x. x.row) (λ a p. told_row s (run-own s allowance refl) (ap (λ c. c.refusal) p.answers)) g;
  hands = λ s hands answer s' g. alone (λ a p. told_row s (hands-own s hands refl) p.answers) g;
  better =
      λ s side first second answer g.
      in_form (λ x. x.refusal) (λ x. x.row)
      (λ a p. told_row s (compare-own s side first second refl) (ap (λ c. c.refusal) p.answers)) g;
  better_check = λ s side first second answer g. alone (λ a p. told_row s (compare-own s side first second refl) p.answers) g;
  take_in =
      λ s side xs out answer out' g.
      in_form (λ x. x.refusal) (λ x. x.row)
      (λ a p. told_row s (take_in_own s side xs out refl) (ap (λ c. c.refusal) p.answers)) g;
  hold = λ s letter answer s' g. alone (λ a p. told_row s (set-hold-own s letter refl) p.answers) g;
  pin = λ s side row pin answer s' g. alone (λ a p. told_row s (pin-own s side row refl) p.answers) g;
  pack = λ P out answer out' g. alone (λ a p. tells-row_in P (pack-own P out) p.answers) g;
  unpack =
      λ s left right links left_layout right_layout o g.
      in_form (λ x. x.refusal) (λ x. x.row)
      (λ a p. told_row s (unpack-own s left right links left_layout right_layout refl) (ap (λ c. c.refusal) p.answers)) g;
  newick_read =
      λ text out answer out' g. ap (λ x. x.row) g.answers ∙ ap (λ c. c.refusal.row) g.called.answers;
  newick_write =
      λ s side out answer out' g.
      in_form (λ x. x.refusal) (λ x. x.row) (λ a p. told_row s (write-own s side out refl) (ap (λ c. c.refusal) p.answers)) g;
  merge_read = λ n table out answer out' g. ap (λ x. x.row) g.answers ∙ ap (λ a. a.row) g.called.answers;
  merge_write = λ s side out answer out' g. alone (λ a p. told_row s (merge-own s side out refl) p.answers) g;
}
