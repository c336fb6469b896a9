-- The row that a refusal's line shows, if there is one.
use Prim.Native.Nat.{ℕ, zero, suc}
use mathlib.Core.Path.{◌≡◌, refl}
use mathlib.Core.Logic.{◌≢◌}
use mathlib.Core.List.{[], ◌∷◌}
use Rattle.calls_sheet.specs.Lines.{row_told}

pub no_row : (i : ℕ) → i ≡ 0 → row_told i ≡ []
no_row i e = rw e refl

pub some-row : (i : ℕ) → i ≢ 0 → row_told i ≡ i ∷ []
some-row zero h = absurd (h refl)
some-row (suc i) h = refl
