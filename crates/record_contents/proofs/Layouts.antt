-- The library's test that all bytes pass is that of layouts.
use Prim.Native.Nat.{ℕ}
use mathlib.Core.Path.{◌≡◌, refl, ap}
use mathlib.Core.Bool.{Bool, ◌&&◌}
use mathlib.Core.List.{List, [], ◌∷◌}
use Rattle.std.specs.Prelude.{leb}
use Rattle.std.specs.List.{list_all}
use Rattle.record_fields.specs.Refusals.{all, is_layout}

all-same : (p : ℕ → Bool) (xs : List ℕ) → list_all p xs ≡ all p xs
unfolding all
all-same p [] = refl
all-same p (x ∷ xs) = ap (λ b. p x && b) (all-same p xs)

pub layout-all : (bytes : List ℕ) → list_all (λ x. leb x 3) bytes ≡ is_layout bytes
unfolding is_layout
layout-all bytes = all-same (λ x. leb x 3) bytes
