-- Laws of the signed number that a word says, by the dash in front: it fits 32 bits.
use Prim.Native.Nat.{ℕ, ◌≤◌}
use native.Mathlib.Omega.{arith}
use mathlib.Core.Path.{◌≡◌, refl}
use mathlib.Core.Bool.{Bool, true, false, ◌&&◌}
use mathlib.Core.List.{List, [], ◌∷◌}
use Rattle.std.specs.Prelude.{None, Some, option_map}
use Rattle.std.specs.Cmp.Lexicographic.{pointwise}
use lib.Dec.{eqb}
use lib.IntN.{ℤ, pos, ◌-ℤ◌}
use lib.ListN.{take, drop}
use mir.Syntax.{w32, w64}
use mir.Val.{to_z, of_z}
use Rattle.std.proofs.lemmas.Int.{ints}
use Rattle.desk_words.specs.Numbers.{number_in}
use Rattle.desk_words.specs.Tables.{minus, largest, lowest, signed_in}

alone : (b t : Bool) → (b && true) ≡ t → b ≡ t
alone true t e = e
alone false t e = e

-- A word that begins with a dash.
pub dashed : (word rest : List ℕ) → pointwise eqb (take 1 word) (45 ∷ []) ≡ true → rest ≡ drop 1 word
    → signed_in word ≡ option_map minus (number_in lowest rest)
unfolding signed_in
dashed [] rest t e = absurd (let y : ◌≡◌ {A = ℕ} 0 1 = cc in omega arith)
dashed (x ∷ s) rest t e = rw (e, alone (eqb x 45) true t)

-- One that does not.
pub bare : (word : List ℕ) → pointwise eqb (take 1 word) (45 ∷ []) ≡ false → signed_in word ≡ option_map pos (number_in largest word)
unfolding signed_in number_in
bare [] t = refl
bare (x ∷ s) t = rw (alone (eqb x 45) false t)

-- What the two say.
pub dash_told : (word rest : List ℕ) (x : ℕ) → pointwise eqb (take 1 word) (45 ∷ []) ≡ true → rest ≡ drop 1 word
    → Some x ≡ number_in lowest rest → Some (minus x) ≡ signed_in word
dash_told word rest x t e n = rw (dashed word rest t e, ← n)

pub dash_none : (word rest : List ℕ) → pointwise eqb (take 1 word) (45 ∷ []) ≡ true → rest ≡ drop 1 word
    → None ≡ number_in lowest rest → None ≡ signed_in word
dash_none word rest t e n = rw (dashed word rest t e, ← n)

pub bare_told : (word : List ℕ) (x : ℕ) → pointwise eqb (take 1 word) (45 ∷ []) ≡ false → Some x ≡ number_in largest word
    → Some (pos x) ≡ signed_in word
bare_told word x t n = rw (bare word t, ← n)

pub bare_none : (word : List ℕ) → pointwise eqb (take 1 word) (45 ∷ []) ≡ false → None ≡ number_in largest word
    → None ≡ signed_in word
bare_none word t n = rw (bare word t, ← n)

-- ---- in 32 bits
pub narrowed : (n : ℕ) (z : ℤ) → z ≡ pos n → n ≤ lowest
    → to_z w32 (of_z w32 (to_z w64 (of_z w64 (pos 0 -ℤ to_z w64 (of_z w64 z))))) ≡ minus n
narrowed n z e h = rw e (omega (arith, ints))

pub widened : (n : ℕ) → n ≤ largest → to_z w32 n ≡ pos n
widened n h = omega (arith, ints)
