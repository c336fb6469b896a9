-- The letters that stand in a record's bytes.
use Rattle.std.specs.Prelude.{ℕ}

-- The mark's.
abbrev pub letter_t : ℕ
letter_t = 84

abbrev pub letter_g : ℕ
letter_g = 71

abbrev pub letter_p : ℕ
letter_p = 80

-- The hold's: neither side, the left, the right, both.
abbrev pub letter_n : ℕ
letter_n = 78

abbrev pub letter_l : ℕ
letter_l = 76

abbrev pub letter_r : ℕ
letter_r = 82

abbrev pub letter_b : ℕ
letter_b = 66
