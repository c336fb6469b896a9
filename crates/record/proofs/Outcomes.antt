-- From what a call found to its statement: a refused call keeps what was lent as found, an accepted one writes it.
use Prim.Native.Nat.{ℕ}
use mathlib.Core.Path.{◌≡◌, refl, sym, ap, ◌∙◌}
use mathlib.Core.Logic.{◌≢◌}
use mathlib.Core.List.{List}
use mathlib.Core.Bool.{Bool, true, false}
use native.Mathlib.Omega.{arith}
use borrow.Author.Tests.{eq-eqb, ne_eqb, eqb-true}
use lib.Dec.{eqb}
use lib.ListN.{set}
use Rattle.record_fields.specs.declared.refusal.Refusal.{Refusal}
use Rattle.record_fields.specs.Fields.{hold_at, hold_of, size_of, parts}
use Rattle.record_fields.specs.Refusals.{is_hold, refusal, set_hold_refusal}
use Rattle.record_fields.specs.Refused.{NumberAndRow, refused, refused_row, number_of, row_of}
use Rattle.record_fields.specs.Told.{told_of}
use Rattle.record_fields.proofs.Refused.{refuses}
use Rattle.record_fields.proofs.Told.{told_none, told-alone}
use Rattle.record.specs.Calls.{Accepted, Refused, Checks, reading_of, reading_refusal, Reads, SetsHold}

-- ---- two outcomes of which a part equals one and the same thing

pub equal_to_one : {A : Type 0} {a b x : A} → a ≡ x → b ≡ x → a ≡ b
equal_to_one p q = p ∙ sym q

-- ---- reading

module _ (s : List ℕ) {k : ℕ} (e : k ≡ refusal s) where
  pub checked : {answer : NumberAndRow} → answer ≡ told_of s k → Checks s answer
  checked r = record { answers = r ∙ ap (told_of s) e }

  pub read_refused : {answer : NumberAndRow} → k ≢ 0 → answer ≡ told_of s k → Reads s (Refused answer)
  unfolding reading_of
  read_refused h r = record { answers = rw (← e, ne_eqb k 0 h) (ap Refused r) }

  pub read-accepted : {h n : ℕ} → k ≡ 0 → h ≡ hold_of s → n ≡ size_of s → Reads s (Accepted (record { hold = h; n = n }))
  unfolding reading_of
  read-accepted z p q = record { answers = rw (← e, eq-eqb k 0 z, p, q) refl }

-- what reading found where it refuses: the record's refusal, which is one
module _ (s : List ℕ) (r : Refusal) (found : Reads s (Refused (refused_row (number_of r) (row_of r)))) where
  pub read-told : refused_row (number_of r) (row_of r) ≡ told_of s (refusal s)
  unfolding reading_of
  read-told = go (eqb (refusal s) 0) refl
    where
      go : (b : Bool) → eqb (refusal s) 0 ≡ b → refused_row (number_of r) (row_of r) ≡ told_of s (refusal s)
      go true e = ap reading_refusal (rw e at found.answers) ∙ told_none (parts s) (eqb-true (refusal s) 0 e)
      go false e = ap reading_refusal (rw e at found.answers)

  pub read-refuses : refusal s ≢ 0
  read-refuses = refuses r read-told

-- ---- setting the hold

module _ (s : List ℕ) (letter : ℕ) {k : ℕ} (e : k ≡ set_hold_refusal s letter) where
  pub hold-refused : {answer : NumberAndRow} → k ≢ 0 → answer ≡ told_of s k → SetsHold s letter answer s
  hold-refused h r = record { answers = r ∙ ap (told_of s) e; afterwards = rw (← e, ne_eqb k 0 h) refl }

  pub hold-set : {answer : NumberAndRow} → k ≡ 0 → answer ≡ refused 0 → SetsHold s letter answer (set s hold_at letter)
  hold-set z r = record { answers = r ∙ told_none (parts s) (sym e ∙ z); afterwards = rw (← e, eq-eqb k 0 z) refl }

module _ (s : List ℕ) (letter : ℕ) where
  pub hold-letter : is_hold letter ≡ false → SetsHold s letter (refused 4) s
  unfolding set_hold_refusal
  hold-letter h = hold-refused s letter (rw h refl) (λ e. omega (arith, e)) (told-alone (parts s) (record { alone = refl }))

  module _ (good : is_hold letter ≡ true) where
    pub hold-record : (r : Refusal) → Reads s (Refused (refused_row (number_of r) (row_of r))) →
        SetsHold s letter (refused_row (number_of r) (row_of r)) s
    unfolding set_hold_refusal
    hold-record r found = hold-refused s letter {k = refusal s} (rw good refl) (read-refuses s r found) (read-told s r found)

    pub hold-written : {x : ℕ} → refusal s ≡ 0 → x ≡ letter → SetsHold s letter (refused 0) (set s hold_at x)
    unfolding set_hold_refusal
    hold-written a e = rw e (hold-set s letter {k = 0} (rw (good, a) refl) refl refl)
