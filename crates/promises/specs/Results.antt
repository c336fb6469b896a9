-- The customer: "For every input, refusals too, a public call's statement determines its answer and the final content of what was lent
-- to it. Prove that any two outcomes satisfying it are equal." A call answers a result, and its statement speaks of the answer in numbers
-- that the result comes to. Here of the result itself, for every call that answers one: two results that meet a call's statement are equal,
-- and so is what is left of what was lent. (`better` answers a part, of which `Outcomes` speaks.)
use Rattle.std.specs.Prelude.{ℕ, ◌≡◌, Bool, List, ℤ, Result}
use Rattle.record_fields.specs.declared.refusal.Refusal.{Refusal}
use Rattle.record_fields.specs.Fields.{Parts}
use Rattle.record_fields.specs.Fixes.{Fixes, FixesBoth}
use Rattle.record_fields.specs.Refused.{told}
use Rattle.record.specs.declared.heading.Header.{Header}
use Rattle.record.specs.Calls.{Checks, Reads, SetsHold, reading}
use Rattle.record_unpacking.specs.Answers.{unpacked}
use Rattle.record_unpacking.specs.Calls.{Unpacks}
use Rattle.record_packing.specs.Calls.{Packs}
use Rattle.calls_show.specs.Answers.{counted, squared}
use Rattle.calls_show.specs.InThousandths.{in_thousandths}
use Rattle.calls_show.specs.Calls.{Orders, Counts, SquaredEntangles, TellsThousandths}
use Rattle.calls_turns.specs.Answers.{freed, ran}
use Rattle.calls_turns.specs.Calls.{Frees, Runs}
use Rattle.calls_hands.specs.Refusals.{Hand}
use Rattle.calls_hands.specs.Calls.{Hands}
use Rattle.calls_pins.specs.Calls.{Pins}
use Rattle.calls_better.specs.Answers.{compared}
use Rattle.calls_better.specs.Calls.{Compares, BetterChecks}
use Rattle.calls_take_in.specs.Answers.{taken_in}
use Rattle.calls_take_in.specs.Calls.{TakesIn}
use Rattle.calls_newick.specs.Answers.{read_as, written_as}
use Rattle.calls_newick.specs.Calls.{NewickReads, NewickWrites}
use Rattle.calls_merge.specs.Calls.{MergeReads, MergeWrites}

-- Different results come to different answers.
abbrev pub OneToOne : {A B : Type 0} → (A → B) → Type 0
OneToOne {A} f = (a b : A) → f a ≡ f b → a ≡ b

-- What the calls answer, in numbers, of each result.
pub record Answers : Type 0 where
  -- Of check, set_hold, pack, order, hands, pin, better_check, merge_read and merge_write.
  pub told : OneToOne (told {A = Unit {0}})
  pub reading : OneToOne reading
  pub unpacked : OneToOne unpacked
  pub counted : OneToOne counted
  pub squared : OneToOne squared
  pub in_thousandths : OneToOne in_thousandths
  pub freed : OneToOne freed
  pub ran : OneToOne ran
  pub compared : OneToOne compared
  pub taken_in : OneToOne taken_in
  pub read_as : OneToOne read_as
  pub written_as : OneToOne written_as

-- Two results that meet a statement which speaks of what they come to, and what was lent.
abbrev pub FixesResult : {A B : Type 0} → (A → B) → (B → Type 0) → Type 0
FixesResult f P = Fixes (λ r. P (f r))

abbrev pub FixesResultBoth : {A B C : Type 0} → (A → B) → (B → C → Type 0) → Type 0
FixesResultBoth f P = FixesBoth (λ r x. P (f r) x)

pub record Results : Type 0 where
  pub answers : Answers
  pub check : (s : List ℕ) → FixesResult (told {A = Unit {0}}) (Checks s)
  pub read : (s : List ℕ) → FixesResult reading (Reads s)
  pub set_hold : (s : List ℕ) (letter : ℕ) → FixesResultBoth (told {A = Unit {0}}) (SetsHold s letter)
  -- Of what is in the five buffers afterwards, `Outcomes` speaks.
  pub unpack : (s left right links left_layout right_layout : List ℕ) (a b : Result Header Refusal)
      (l l' r r' k k' x x' y y' : List ℕ) →
      Unpacks s left right links left_layout right_layout (unpacked a) l r k x y →
      Unpacks s left right links left_layout right_layout (unpacked b) l' r' k' x' y' → a ≡ b
  pub pack : (P : Parts) (out : List ℕ) → FixesResultBoth (told {A = Unit {0}}) (Packs P out)
  pub order : (s : List ℕ) (side : ℕ) (out : List ℕ) → FixesResultBoth (told {A = Unit {0}}) (Orders s side out)
  -- Of count and of pairs, and of one against the other.
  pub count : (s : List ℕ) → FixesResult counted (Counts s)
  pub squared_entanglement : (s : List ℕ) → FixesResult squared (SquaredEntangles s)
  pub thousandths : (s : List ℕ) → FixesResult in_thousandths (TellsThousandths s)
  pub free : (s : List ℕ) (side : ℕ) → FixesResultBoth freed (Frees s side)
  pub run : (s : List ℕ) (allowance : ℕ) → FixesResultBoth ran (Runs s allowance)
  -- Of both forms, and of one against the other.
  pub hands : (s : List ℕ) (hands : List Hand) → FixesResultBoth (told {A = Unit {0}}) (Hands s hands)
  pub pin : (s : List ℕ) (side row : ℕ) (pinned : Bool) → FixesResultBoth (told {A = Unit {0}}) (Pins s side row pinned)
  pub compare : (s : List ℕ) (side : ℕ) (first second : List ℕ) → FixesResult compared (Compares s side first second)
  pub better_check : (s : List ℕ) (side : ℕ) (first second : List ℕ) →
      FixesResult (told {A = Unit {0}}) (BetterChecks s side first second)
  pub take_in : (s : List ℕ) (side : ℕ) (xs out : List ℕ) → FixesResultBoth taken_in (TakesIn s side xs out)
  pub newick_read : (text out : List ℕ) → FixesResultBoth read_as (NewickReads text out)
  pub newick_write : (s : List ℕ) (side : ℕ) (out : List ℕ) → FixesResultBoth written_as (NewickWrites s side out)
  pub merge_read : (n : ℕ) (table : List ℤ) (out : List ℕ) → FixesResultBoth (told {A = Unit {0}}) (MergeReads n table out)
  pub merge_write : (s : List ℕ) (side : ℕ) (out : List ℤ) → FixesResultBoth (told {A = Unit {0}}) (MergeWrites s side out)
