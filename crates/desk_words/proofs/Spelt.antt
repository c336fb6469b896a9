-- Laws of the digits that bytes are written in: one byte more is two digits more.
use Prim.Native.Nat.{ℕ, suc, ◌+◌, ◌*◌, ◌/◌, ◌%◌, ◌<◌}
use native.Mathlib.Omega.{arith}
use native.Mathlib.Numerals.{add-one}
use mathlib.Core.Path.{◌≡◌, refl, sym, ◌∙◌}
use mathlib.Core.List.{List, [], ◌∷◌, ◌++◌, append_assoc}
use lib.ListN.{length, get_or, take, set, length-set}
use lib.Seq.{take-suc, take-suc-set}
use Rattle.desk_words.specs.Bytes.{hex_digit, spelling}

snoc : (s : List ℕ) (x : ℕ) → spelling (s ++ (x ∷ [])) ≡ spelling s ++ (hex_digit (x / 16) ∷ hex_digit (x % 16) ∷ [])
unfolding spelling
snoc [] x = refl
snoc (y ∷ s) x = rw (snoc s x)

pub spelt_none : (s : List ℕ) → [] ≡ spelling []
unfolding spelling
spelt_none s = refl

pub spelt_more : (s text : List ℕ) (k a b : ℕ) → k < length s → 2 * k + 1 < length text
    → a ≡ hex_digit (get_or s k 0 / 16) → b ≡ hex_digit (get_or s k 0 % 16) → take (2 * k) text ≡ spelling (take k s)
    → take (2 * (k + 1)) (set (set text (2 * k) a) (2 * k + 1) b) ≡ spelling (take (k + 1) s)
spelt_more s text k a b h l p q e =
    let twice : 2 * (k + 1) ≡ suc (2 * k + 1) = omega arith in
    let second = take-suc-set (set text (2 * k) a) (2 * k + 1) b (rw length-set (omega arith)) in
    let first : take (2 * k + 1) (set text (2 * k) a) ≡ take (2 * k) text ++ (a ∷ []) =
    rw (add-one (2 * k)) (take-suc-set text (2 * k) a (omega arith)) in
    let left : take (2 * (k + 1)) (set (set text (2 * k) a) (2 * k + 1) b) ≡ (take (2 * k) text ++ (a ∷ [])) ++ (b ∷ []) =
    rw twice (second ∙ rw first) in
    let right : spelling (take (k + 1) s) ≡ spelling (take k s) ++ (hex_digit (get_or s k 0 / 16) ∷ hex_digit (get_or s k 0 % 16) ∷ []) =
    rw (add-one k, take-suc s k 0 h) (snoc (take k s) (get_or s k 0)) in
    left ∙ append_assoc (take (2 * k) text) (a ∷ []) (b ∷ []) ∙ rw (e, p, q) (sym right)
