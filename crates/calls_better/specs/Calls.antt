-- What better of two, as a part and in numbers, and its check call answer, for every input.
use Rattle.std.specs.Prelude.{ℕ, ◌≡◌, Bool, cond, List, [], leb, eqb, take}
use Rattle.tanglegram.specs.Crossings.{count}
use Rattle.tanglegram.specs.declared.side.Side.{Side}
use Rattle.tanglegram.specs.declared.side.Side.TheVariants.{Left as left, Right as right}
use Rattle.record_fields.specs.Fields.{size_of, parts}
use Rattle.record_fields.specs.Refused.{NumberAndRow, accepted, or_zero}
use Rattle.record_fields.specs.Told.{told_of}
use Rattle.record_arrays.specs.Sides.{side_of}
use Rattle.calls_better.specs.Answers.{Compared}
use Rattle.calls_better.specs.Refusals.{better_refusal}
use Rattle.record_arrays.specs.Shown.{shown_order}

-- ---- better of two

-- The count with the first n entries of xs for a side's order, against the other side's present order.
abbrev pub count_with : List ℕ → Side → List ℕ → ℕ
count_with s left xs = count (size_of s) (parts s).links (take (size_of s) xs) (shown_order s right)
count_with s right xs = count (size_of s) (parts s).links (shown_order s left) (take (size_of s) xs)

-- The first order crosses at most as much as the second.
abbrev pub first_better : List ℕ → ℕ → List ℕ → List ℕ → Bool
first_better s side first second = leb (count_with s (side_of side) first) (count_with s (side_of side) second)

-- The first n entries of the order that crosses less, of the first on a tie; none where anything is refused.
unfoldable pub better_part : List ℕ → ℕ → List ℕ → List ℕ → List ℕ
unfolding better_refusal
better_part s side first second =
    cond (accepted (better_refusal s side first second))
    (take (size_of s) (cond (first_better s side first second) first second))
    []

-- The same in numbers: 1 for the first order, 2 for the second; 0 where anything is refused.
unfoldable pub better_which : List ℕ → ℕ → List ℕ → List ℕ → ℕ
unfolding better_refusal
better_which s side first second = or_zero (better_refusal s side first second) (cond (first_better s side first second) 1 2)

-- A part of a lent order has a value and an address, the block that it lies in and its first place there. It begins where the order does
-- that it is of: the second, if that crosses less; the first, if not, and where anything is refused.
abbrev pub Address : Type 0
Address = ℕ × ℕ

pub record Betters (s : List ℕ) (side : ℕ) (first second : List ℕ) (first-at second_at : Address) (part : List ℕ) (part_at : Address) :
    Type 0 where
  pub answers : part ≡ better_part s side first second
  pub begins : part_at ≡ cond (eqb (better_which s side first second) 2) second_at first-at

pub record Compares (s : List ℕ) (side : ℕ) (first second : List ℕ) (answer : Compared) : Type 0 where
  pub answers : answer ≡ record {
    refusal = told_of s (better_refusal s side first second);
    which = better_which s side first second;
    length = or_zero (better_refusal s side first second) (size_of s);
  }

pub record BetterChecks (s : List ℕ) (side : ℕ) (first second : List ℕ) (answer : NumberAndRow) : Type 0 where
  pub answers : answer ≡ told_of s (better_refusal s side first second)
