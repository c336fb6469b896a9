-- Different results come to different answers in numbers, so the statements fix the results of the calls, as they fix the answers.
use Prim.Native.Nat.{ℕ}
use mathlib.Core.Path.{◌≡◌, refl, sym, ap, ◌∙◌}
use mathlib.Core.Bool.{Bool, true, false}
use borrow.Author.Tests.{ne_eqb}
use lib.Dec.{eqb}
use Rattle.std.specs.Prelude.{Option, Some, None, Result, Ok, Err, cond}
use Rattle.tanglegram.specs.Lists.{bit}
use Rattle.work_freeing.specs.declared.rows.Sums.{Sums}
use Rattle.work_turns.specs.declared.running.Taken.{Taken}
use Rattle.record_fields.specs.declared.hold.Hold.{Hold}
use Rattle.record_fields.specs.declared.hold.Hold.TheVariants as hold
use Rattle.record_fields.specs.declared.refusal.Refusal.{Refusal}
use Rattle.record_fields.specs.declared.refusal.Refusal.TheVariants as refusal
use Rattle.record_fields.specs.Fixes.{Fixes, FixesBoth}
use Rattle.record_fields.specs.Holds.{letter_of}
use Rattle.record_fields.specs.Refused.{NumberAndRow, number_of, row_of, told}
use Rattle.record_fields.proofs.Refused.{refused-some, refusal_at, refusal_back}
use Rattle.record.specs.declared.heading.Header.{Header}
use Rattle.record.specs.Calls.{Reading, Accepted, Refused, reading}
use Rattle.record.proofs.Outcomes.{equal_to_one}
use Rattle.record_unpacking.specs.Answers.{Unpacked, unpacked}
use Rattle.calls_show.specs.declared.answers.Measured.{Measured}
use Rattle.calls_show.specs.Answers.{Counted, SquaredEntanglement, counted, squared}
use Rattle.calls_show.specs.Answers as squared
use Rattle.calls_show.specs.InThousandths.{InThousandths, in_thousandths}
use Rattle.calls_show.specs.InThousandths as thousandths
use Rattle.calls_turns.specs.Answers.{Freed, Ran, freed, ran}
use Rattle.calls_better.specs.declared.answers.Better.{Better}
use Rattle.calls_better.specs.declared.answers.Which.{Which}
use Rattle.calls_better.specs.declared.answers.Which.TheVariants.{First, Second}
use Rattle.calls_better.specs.Answers.{Compared, number_for, compared}
use Rattle.calls_take_in.specs.declared.answers.Weight.{Weight}
use Rattle.calls_take_in.specs.Answers.{TakenIn, taken_in}
use Rattle.calls_newick.specs.Answers.{NewickRead, NewickWritten, read_as, written_as}
use Rattle.promises.specs.Results as Results
use Rattle.promises.specs.Results.{OneToOne, FixesResult, FixesResultBoth}
use Rattle.promises.proofs.Outcomes.{outcomes}

-- ---- a result by its number and its row

-- what a number and a row tell of a result, where none is refused with that value
abbrev result_at : {A : Type 0} → NumberAndRow → A → Result A Refusal
result_at a x = cond (eqb a.number 0) (Ok x) (Err (refusal_at a.number a.row))

at_error : {A : Type 0} (r : Refusal) (x : A) → result_at (record { number = number_of r; row = row_of r }) x ≡ Err r
at_error r x = rw (ne_eqb (number_of r) 0 (refused-some r)) (ap Err (refusal_back r))

-- ---- letters, bits and which of two

abbrev hold_from : ℕ → Hold
hold_from x = cond (eqb x 78) hold.Neither (cond (eqb x 76) hold.Left (cond (eqb x 82) hold.Right hold.Both))

hold_back : (h : Hold) → hold_from (letter_of h) ≡ h
hold_back hold.Neither = refl
hold_back hold.Left = refl
hold_back hold.Right = refl
hold_back hold.Both = refl

bit_back : (b : Bool) → eqb (bit b) 1 ≡ b
bit_back true = refl
bit_back false = refl

abbrev which_from : ℕ → Which
which_from x = cond (eqb x 1) First Second

which_back : (w : Which) → which_from (number_for w) ≡ w
which_back First = refl
which_back Second = refl

-- ---- the maps: each can be gone back

one_by : {A B : Type 0} (f : A → B) (g : B → A) → ((a : A) → g (f a) ≡ a) → OneToOne f
one_by f g h a b e = sym (h a) ∙ ap g e ∙ h b

told_one : OneToOne (told {A = Unit {0}})
told_one (Ok x) (Ok y) e = refl
told_one (Ok x) (Err r) e = absurd (refused-some r (sym (ap (λ (a : NumberAndRow). a.number) e)))
told_one (Err r) (Ok x) e = absurd (refused-some r (ap (λ (a : NumberAndRow). a.number) e))
told_one (Err r) (Err r') e =
    sym (ap Err (refusal_back r)) ∙ ap (λ (a : NumberAndRow). Err (refusal_at a.number a.row)) e ∙ ap Err (refusal_back r')

abbrev header_from : ℕ → ℕ → Header
header_from letter n = record { hold = hold_from letter; n = n }

header_back : (h : Header) → header_from (letter_of h.hold) h.n ≡ h
header_back h = rw (hold_back h.hold) refl

abbrev reading_from : Reading → Result Header Refusal
reading_from (Accepted h) = Ok (header_from h.hold h.n)
reading_from (Refused a) = Err (refusal_at a.number a.row)

reading_back : (r : Result Header Refusal) → reading_from (reading r) ≡ r
reading_back (Ok h) = ap Ok (header_back h)
reading_back (Err r) = ap Err (refusal_back r)

abbrev unpacked_from : Unpacked → Result Header Refusal
unpacked_from a = result_at a.refusal (header_from a.hold a.n)

unpacked_back : (r : Result Header Refusal) → unpacked_from (unpacked r) ≡ r
unpacked_back (Ok h) = ap Ok (header_back h)
unpacked_back (Err r) = at_error r _

abbrev counted_from : Counted → Result ℕ Refusal
counted_from a = result_at a.refusal a.count

counted_back : (r : Result ℕ Refusal) → counted_from (counted r) ≡ r
counted_back (Ok x) = refl
counted_back (Err r) = at_error r _

abbrev squared_from : SquaredEntanglement → Result (Option Measured) Refusal
squared_from (squared.Ratio d w x) = Ok (Some (record { displacement = d; worst = w; ratio = x }))
squared_from squared.NoRatio = Ok None
squared_from (squared.Refused a) = Err (refusal_at a.number a.row)

squared_back : (r : Result (Option Measured) Refusal) → squared_from (squared r) ≡ r
squared_back (Ok (Some m)) = refl
squared_back (Ok None) = refl
squared_back (Err r) = ap Err (refusal_back r)

abbrev thousandths_from : InThousandths → Result (Option ℕ) Refusal
thousandths_from (thousandths.Ratio k) = Ok (Some k)
thousandths_from thousandths.NoRatio = Ok None
thousandths_from (thousandths.Refused a) = Err (refusal_at a.number a.row)

thousandths_back : (r : Result (Option ℕ) Refusal) → thousandths_from (in_thousandths r) ≡ r
thousandths_back (Ok (Some k)) = refl
thousandths_back (Ok None) = refl
thousandths_back (Err r) = ap Err (refusal_back r)

abbrev freed_from : Freed → Result Sums Refusal
freed_from a = result_at a.refusal (record { before = a.before; after = a.after })

freed_back : (r : Result Sums Refusal) → freed_from (freed r) ≡ r
freed_back (Ok x) = refl
freed_back (Err r) = at_error r _

abbrev ran_from : Ran → Result Taken Refusal
ran_from a = result_at a.refusal (record { first = a.first; last = a.last; turns = a.turns; settled = eqb a.settled 1 })

ran_back : (r : Result Taken Refusal) → ran_from (ran r) ≡ r
ran_back (Ok x) = rw (bit_back x.settled) refl
ran_back (Err r) = at_error r _

abbrev compared_from : Compared → Result Better Refusal
compared_from a = result_at a.refusal (record { which = which_from a.which; length = a.length })

compared_back : (r : Result Better Refusal) → compared_from (compared r) ≡ r
compared_back (Ok x) = rw (which_back x.which) refl
compared_back (Err r) = at_error r _

abbrev taken_in_from : TakenIn → Result Weight Refusal
taken_in_from a = result_at a.refusal (record { count = a.count; least = eqb a.least 1 })

taken_in_back : (r : Result Weight Refusal) → taken_in_from (taken_in r) ≡ r
taken_in_back (Ok x) = rw (bit_back x.least) refl
taken_in_back (Err r) = at_error r _

abbrev read_as_from : NewickRead → Result ℕ Refusal
read_as_from a = result_at a.refusal a.n

read_as_back : (r : Result ℕ Refusal) → read_as_from (read_as r) ≡ r
read_as_back (Ok x) = refl
read_as_back (Err r) = at_error r _

abbrev written_as_from : NewickWritten → Result ℕ Refusal
written_as_from a = result_at a.refusal a.length

written_as_back : (r : Result ℕ Refusal) → written_as_from (written_as r) ≡ r
written_as_back (Ok x) = refl
written_as_back (Err r) = at_error r _

pub answers : Results.Answers
answers = record {
  told = told_one;
  reading = one_by reading reading_from reading_back;
  unpacked = one_by unpacked unpacked_from unpacked_back;
  counted = one_by counted counted_from counted_back;
  squared = one_by squared squared_from squared_back;
  in_thousandths = one_by in_thousandths thousandths_from thousandths_back;
  freed = one_by freed freed_from freed_back;
  ran = one_by ran ran_from ran_back;
  compared = one_by compared compared_from compared_back;
  taken_in = one_by taken_in taken_in_from taken_in_back;
  read_as = one_by read_as read_as_from read_as_back;
  written_as = one_by written_as written_as_from written_as_back;
}

-- ---- the calls' results

fixes : {A B : Type 0} (f : A → B) {P : B → Type 0} → OneToOne f → Fixes P → FixesResult f P
fixes f one h a b p q = one a b (h (f a) (f b) p q)

fixes_both : {A B C : Type 0} (f : A → B) {P : B → C → Type 0} → OneToOne f → FixesBoth P → FixesResultBoth f P
fixes_both f one h a b x y p q = let e = h (f a) (f b) x y p q in (one a b e.0, e.1)

pub results : Results.Results
results = record {
  answers = answers;
  check = λ s. fixes told told_one (outcomes.check s);
  read = λ s. fixes reading answers.reading (outcomes.read s);
  set_hold = λ s letter. fixes_both told told_one (outcomes.set_hold s letter);
  unpack = λ s left right links left_layout right_layout a b l l' r r' k k' x x' y y' p q.
      answers.unpacked a b (equal_to_one p.answers q.answers);
  pack = λ P out. fixes_both told told_one (outcomes.pack P out);
  order = λ s side out. fixes_both told told_one (outcomes.order s side out);
  count = λ s. fixes counted answers.counted (outcomes.count s);
  squared_entanglement = λ s. fixes squared answers.squared (outcomes.squared_entanglement s);
  thousandths = λ s. fixes in_thousandths answers.in_thousandths (outcomes.thousandths s);
  free = λ s side. fixes_both freed answers.freed (outcomes.free s side);
  run = λ s allowance. fixes_both ran answers.ran (outcomes.run s allowance);
  hands = λ s hands. fixes_both told told_one (outcomes.hands s hands);
  pin = λ s side row pinned. fixes_both told told_one (outcomes.pin s side row pinned);
  compare = λ s side first second. fixes compared answers.compared (outcomes.compare s side first second);
  better_check = λ s side first second. fixes told told_one (outcomes.better_check s side first second);
  take_in = λ s side xs out. fixes_both taken_in answers.taken_in (outcomes.take_in s side xs out);
  newick_read = λ text out. fixes_both read_as answers.read_as (outcomes.newick_read text out);
  newick_write = λ s side out. fixes_both written_as answers.written_as (outcomes.newick_write s side out);
  merge_read = λ n table out. fixes_both told told_one (outcomes.merge_read n table out);
  merge_write = λ s side out. fixes_both told told_one (outcomes.merge_write s side out);
}
