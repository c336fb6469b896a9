-- Wrong outcomes of taking in an order that the promise excludes: each was tried.
use Rattle.std.specs.Prelude.{ℕ, List, [], ◌∷◌}
use Rattle.tanglegram.specs.declared.side.Side.TheVariants.{Left as left}
use Rattle.tanglegram.specs.Examples.{case2, root_pinned}
use Rattle.record_fields.specs.Refused.{refused}
use Rattle.calls_take_in.specs.Answers.{TakenIn}
use Rattle.promises.specs.TakeIn.{NumberTold, Numbered, Answered}
use Rattle.promises.specs.Cases.{record_of}

-- Case 2, and with its left root pinned as given.
abbrev pub free2 : List ℕ
free2 = record_of case2

abbrev pub pinned2 : List ℕ
pinned2 = record_of root_pinned

-- Orders of its left: as it stands; as freeing leaves it; with leaf 4 on top, as freeing leaves it where the root is pinned; and none.
abbrev pub standing : List ℕ
standing = 4 ∷ 3 ∷ 1 ∷ 2 ∷ []

abbrev pub sorted : List ℕ
sorted = 1 ∷ 2 ∷ 3 ∷ 4 ∷ []

abbrev pub four_on_top : List ℕ
four_on_top = 4 ∷ 1 ∷ 2 ∷ 3 ∷ []

abbrev pub no_order : List ℕ
no_order = 1 ∷ 3 ∷ 2 ∷ 4 ∷ []

abbrev pub three : ℕ → ℕ → ℕ → List ℕ
three x y z = x ∷ y ∷ z ∷ []

-- Accepted, with that count, and least or not.
abbrev pub told : ℕ → ℕ → TakenIn
told count least = record { refusal = refused 0; count = count; least = least }

pub record TakeInTried : Type 0 where
  -- The bytes: a pin lost; a row pinned that was not; those of the present order; nothing written.
  pub pin_lost : Answered pinned2 left four_on_top (three 9 9 9) (told 3 1) (three 0 1 0) → ⊥
  pub row_pinned : Answered free2 left sorted (three 9 9 9) (told 0 1) (three 0 1 3) → ⊥
  pub bytes_of_the_present : Answered free2 left sorted (three 9 9 9) (told 0 1) (three 0 0 0) → ⊥
  pub nothing_written : Answered free2 left sorted (three 9 9 9) (told 0 1) (three 9 9 9) → ⊥
  -- The count of the present order.
  pub count_of_the_present : Answered free2 left sorted (three 9 9 9) (told 5 1) (three 0 1 1) → ⊥
  -- Always least; never least; not least, for a choice that crosses less and goes against a pin.
  pub always_least : Answered free2 left standing (three 9 9 9) (told 5 1) (three 0 0 0) → ⊥
  pub never_least : Answered free2 left sorted (three 9 9 9) (told 0 0) (three 0 1 1) → ⊥
  pub against_unpermitted : Answered pinned2 left four_on_top (three 9 9 9) (told 3 0) (three 0 1 2) → ⊥
  -- An order that goes against a pin accepted, or told 16; one that is none told 23; a good one refused; 11 told, of any record.
  pub accepted_against_a_pin : NumberTold pinned2 left sorted (three 9 9 9) 0 → ⊥
  pub sixteen_for_twenty_three : NumberTold pinned2 left sorted (three 9 9 9) 16 → ⊥
  pub twenty_three_for_sixteen : NumberTold free2 left no_order (three 9 9 9) 23 → ⊥
  pub refused_good_order : NumberTold free2 left sorted (three 9 9 9) 16 → ⊥
  pub refused_held : (s : List ℕ) (side : ℕ) (xs out : List ℕ) → Numbered s side xs out 11 → ⊥
