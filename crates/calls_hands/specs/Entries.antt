-- What an entry of a hand list is read as.
use Rattle.std.specs.Prelude.{ℕ, cond, ltb}

-- A number in 16 bits; 0 for one that is too large for them.
abbrev pub narrow : ℕ → ℕ
narrow x = cond (ltb 65535 x) 0 x
