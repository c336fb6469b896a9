-- Two trees that say the same of their leaves: each row of either has a row of the other with the same leaves under it.
use Rattle.std.specs.Prelude.{ℕ, ◌⊎◌}
use mathlib.Core.List.{◌++◌, Permᴰ}
use Rattle.tanglegram.specs.Tree.{Tree, leaf, fork, leaves, EachRow}

-- P is true of some row with its two children.
abbrev pub SomeRow : (ℕ → Tree → Tree → Type 0) → Tree → Type 0
SomeRow P (leaf a) = ⊥
SomeRow P (fork i u l) = P i u l ⊎ (SomeRow P u ⊎ SomeRow P l)

-- Each row of t has a row of u with the same leaves under it.
abbrev pub SetsIn : Tree → Tree → Type 0
SetsIn t u = EachRow (λ i a b. SomeRow (λ j c d. Permᴰ (leaves a ++ leaves b) (leaves c ++ leaves d)) u) t

pub record SameSets (t u : Tree) : Type 0 where
  pub there : SetsIn t u
  pub back : SetsIn u t
