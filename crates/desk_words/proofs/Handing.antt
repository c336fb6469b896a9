-- Laws of the hand that a word says, by what the colon parts and the two numbers.
use Prim.Native.Nat.{ℕ, ◌+◌, ◌*◌, ◌<◌}
use native.Mathlib.Omega.{arith}
use mathlib.Core.Path.{◌≡◌, refl}
use mathlib.Core.Bool.{Bool, true, false, cond}
use mathlib.Core.List.{List}
use Rattle.std.specs.Prelude.{Option, None, Some}
use borrow.Author.Tests.{lt-ltb, le-ltb}
use denote.Ref.{Bor}
use lib.Dec.{ltb}
use lib.ListN.{length}
use Rattle.desk_words.specs.Words.{Cut, up_to_stop, behind}
use Rattle.desk_words.specs.Numbers.{number_in}
use Rattle.desk_words.specs.Lists.{hand_number, hand_said}

no_row : (o : Option ℕ) → None ≡ hand_number o None
no_row None = refl
no_row (Some x) = refl

none_either : (b : Bool) → None ≡ cond {A = Option ℕ} b None None
none_either true = refl
none_either false = refl

module _ (word part : List ℕ) (rest : Option (Bor (List ℕ))) (c : Cut 58 word part rest) where
  pub bad_side : None ≡ number_in 65535 part → None ≡ hand_said word
  unfolding hand_said
  bad_side e =
      let side : None ≡ number_in 65535 part = e in
      rw (← c.before, ← side) (none_either (ltb (up_to_stop 58 word) (length word)))

  pub no_colon : rest ≡ None → None ≡ hand_said word
  unfolding hand_said
  no_colon e =
      let all : up_to_stop 58 word ≡ length word = rw e at c.after in
      rw (le-ltb (up_to_stop 58 word) (length word) (omega arith))

  module _ (r : Bor (List ℕ)) (e : rest ≡ Some r) where
    by_parts : hand_said word ≡ hand_number (number_in 65535 part) (number_in 65535 r.now)
    unfolding hand_said
    by_parts =
        let after : (up_to_stop 58 word < length word) × (r.now ≡ behind 58 word) = rw e at c.after in
        rw (lt-ltb (up_to_stop 58 word) (length word) after.0, ← c.before, ← after.1)

    pub bad_row : None ≡ number_in 65535 r.now → None ≡ hand_said word
    bad_row q = rw (by_parts, ← q) (no_row (number_in 65535 part))

    pub both-said : (side row : ℕ) → Some side ≡ number_in 65535 part → Some row ≡ number_in 65535 r.now
        → Some (65536 * side + row) ≡ hand_said word
    both-said side row s q = rw (by_parts, ← s, ← q)
