-- A statement fixes an answer if any two answers that meet it are equal; of an answer and what was lent, both.
use Rattle.std.specs.Prelude.{◌≡◌}

abbrev pub Fixes : {A : Type 0} → (A → Type 0) → Type 0
Fixes {A} P = (a b : A) → P a → P b → a ≡ b

abbrev pub FixesBoth : {A B : Type 0} → (A → B → Type 0) → Type 0
FixesBoth {A} {B} P = (a b : A) (x y : B) → P a x → P b y → (a ≡ b) × (x ≡ y)
