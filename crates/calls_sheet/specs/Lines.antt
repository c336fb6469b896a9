-- The lines of a sheet, each as its bytes, the line feed at its end among them.
use Prim.Native.Char.{code}
use Rattle.record_fields.specs.Refused.{NumberAndRow}
use Rattle.std.specs.Prelude.{ℕ, zero, suc, Bool, cond, List, [], ◌∷◌, ◌++◌}
use Rattle.work_text.specs.Lines.{ascii, space, next, line}

-- `TGP`, the version, which is 1, the hold's letter, n.
abbrev pub heading_line : ℕ → ℕ → List ℕ
heading_line hold n = line (ascii "TGP 1 " ++ (hold ∷ [])) (n ∷ [])

-- `L` or `R`, and the leaves of that side in their order.
abbrev pub order_line : ℕ → List ℕ → List ℕ
order_line letter order = line (letter ∷ []) order

-- `X`, the count of crossings.
abbrev pub count_line : ℕ → List ℕ
count_line count = line (ascii "X") (count ∷ [])

-- `E`, D, W, the entanglement in thousandths.
abbrev pub entangled_line : ℕ → ℕ → ℕ → List ℕ
entangled_line d w k = line (ascii "E") (d ∷ w ∷ k ∷ [])

-- `S` if the run settled, `U` if not.
abbrev pub ending : Bool → ℕ
ending settled = cond settled (code "S") (code "U")

-- `T`, the turns taken, `S` or `U`, the last count.
abbrev pub turns_line : ℕ → Bool → ℕ → List ℕ
turns_line turns settled last = (ascii "T" ++ next turns) ++ line (space ∷ ending settled ∷ []) (last ∷ [])

-- The row that a refusal has, if it has one.
abbrev pub row_told : ℕ → List ℕ
row_told zero = []
row_told (suc i) = suc i ∷ []

-- `REFUSED`, the number, and the row if there is one.
abbrev pub refused_line : NumberAndRow → List ℕ
refused_line r = line (ascii "REFUSED") (r.number ∷ row_told r.row)
