-- What each letter holds, side by side.
use mathlib.Core.Path.{◌≡◌, refl}
use mathlib.Core.Bool.{true, false}
use Rattle.tanglegram.specs.declared.side.Side.{Side}
use Rattle.tanglegram.specs.declared.side.Side.TheVariants.{Left as left, Right as right}
use Rattle.record_fields.specs.Letters.{letter_n, letter_b}
use Rattle.record_fields.specs.Holds.{holds}

pub none-held : (side : Side) → false ≡ holds letter_n side
unfolding holds
none-held left = refl
none-held right = refl

pub both-held : (side : Side) → true ≡ holds letter_b side
unfolding holds
both-held left = refl
both-held right = refl
