-- The hold and its letter: which sides each letter holds, and what reading a letter finds.
use Rattle.std.specs.Prelude.{ℕ, ◌≡◌, Bool, true, false, ◌||◌, eqb, Result, Ok, Err}
use Rattle.tanglegram.specs.declared.side.Side.{Side}
use Rattle.tanglegram.specs.declared.side.Side.TheVariants.{Left as left, Right as right}
use Rattle.record_fields.specs.declared.hold.Hold.{Hold}
use Rattle.record_fields.specs.declared.hold.Hold.TheVariants as hold
use Rattle.record_fields.specs.declared.refusal.Refusal.{Refusal}
use Rattle.record_fields.specs.declared.refusal.Refusal.TheVariants as refusal
use Rattle.record_fields.specs.Letters.{letter_n, letter_l, letter_r, letter_b}
use Rattle.record_fields.specs.Refusals.{is_hold}

-- `L` holds the left, `R` the right, `B` both.
unfoldable pub holds : ℕ → Side → Bool
holds hold left = eqb hold 76 || eqb hold 66
holds hold right = eqb hold 82 || eqb hold 66

abbrev pub letter_of : Hold → ℕ
letter_of hold.Neither = letter_n
letter_of hold.Left = letter_l
letter_of hold.Right = letter_r
letter_of hold.Both = letter_b

-- The hold of one of the four letters, or that it is none of them.
abbrev pub HoldRead : ℕ → Result Hold Refusal → Type 0
HoldRead letter (Ok h) = (is_hold letter ≡ true) × (letter_of h ≡ letter)
HoldRead letter (Err r) = (is_hold letter ≡ false) × (r ≡ refusal.Hold)
