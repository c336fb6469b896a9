-- Numbers behind spaces, one after the other, and the length of a line.
use Prim.Native.Nat.{ℕ, ◌+◌, ◌≤◌, ◌<◌}
use mathlib.Core.Path.{◌≡◌, refl, sym, ap, ◌∙◌}
use mathlib.Core.List.{List, [], ◌∷◌, ◌++◌, append_assoc, append-nil}
use native.Mathlib.Omega.{arith}
use lib.ListN.{length, get_or, take, drop, length-append, take-append-drop}
use lib.Seq.{take_all}
use Rattle.work_trees.proofs.Stores.{take_more}
use Rattle.work_text.specs.Lines.{next, spaced, line, line_feed}
use Rattle.work_text.specs.Puts.{Puts}
use Rattle.work_text.proofs.Joined.{put-joined, put-long, put-room}

pub spaced-append : (xs ys : List ℕ) → spaced (xs ++ ys) ≡ spaced xs ++ spaced ys
unfolding spaced
spaced-append [] ys = refl
spaced-append (x ∷ xs) ys = ap (λ t. next x ++ t) (spaced-append xs ys) ∙ sym (append_assoc (next x) (spaced xs) (spaced ys))

-- one number more
spaced-more : (xs : List ℕ) (i : ℕ) → i < length xs → spaced (take (i + 1) xs) ≡ spaced (take i xs) ++ next (get_or xs i 0)
unfolding spaced
spaced-more xs i h =
    ap spaced (take_more xs i 0 h) ∙ spaced-append (take i xs) (get_or xs i 0 ∷ [])
    ∙ ap (λ t. spaced (take i xs) ++ t) (append-nil (next (get_or xs i 0)))

-- the first numbers take no more room than all
spaced-within : (xs : List ℕ) (i : ℕ) → length (spaced (take i xs)) ≤ length (spaced xs)
spaced-within xs i =
    let whole = ap length (sym (ap spaced (take-append-drop i xs)) ∙ spaced-append (take i xs) (drop i xs)) in
    omega (arith, whole, length-append (spaced (take i xs)) (spaced (drop i xs)))

-- What a loop has put after i of the numbers.
pub record SpacedSoFar (xs out₀ : List ℕ) (at i end : ℕ) (out : List ℕ) : Type 0 where
  pub within : i ≤ length xs
  pub so_far : Puts (spaced (take i xs)) out₀ at end out

module _ {xs out₀ : List ℕ} {at : ℕ} where
  pub spaced_start : at + length (spaced xs) ≤ length out₀ → SpacedSoFar xs out₀ at 0 at out₀
  unfolding spaced
  spaced_start room = record { within = omega arith; so_far = record { ends = omega arith; within = omega arith; writes = refl } }

  module _ {i end : ℕ} {out : List ℕ} (p : SpacedSoFar xs out₀ at i end out) where
    pub spaced-long : length out ≡ length out₀
    spaced-long = put-long p.so_far

    pub spaced-room : i < length xs → at + length (spaced xs) ≤ length out₀ → end + length (next (get_or xs i 0)) ≤ length out
    spaced-room h room =
        let one = ap length (spaced-more xs i h) in
        let both = length-append (spaced (take i xs)) (next (get_or xs i 0)) in
        omega (arith, p.so_far.ends, spaced-long, spaced-within xs (i + 1))

    pub spaced-next : {end' : ℕ} {out' : List ℕ} → i < length xs → Puts (next (get_or xs i 0)) out end end' out' →
        SpacedSoFar xs out₀ at (i + 1) end' out'
    spaced-next h q = record { within = omega arith; so_far = rw (spaced-more xs i h) (put-joined p.so_far q) }

    pub spaced-end : length xs ≤ i → Puts (spaced xs) out₀ at end out
    spaced-end h = rw (take_all i xs h) at p.so_far

-- ---- a line

pub line-length : (first xs : List ℕ) → length (line first xs) ≡ length first + (length (spaced xs) + 1)
unfolding line
line-length first xs = simp length-append (omega arith)

-- put in three steps: the first bytes, the numbers, the line feed
pub line-put : {first out out₁ out₂ out₃ : List ℕ} {at begun listed end : ℕ} (xs : List ℕ) → Puts first out at begun out₁ →
    Puts (spaced xs) out₁ begun listed out₂ → Puts (line_feed ∷ []) out₂ listed end out₃ → Puts (line first xs) out at end out₃
unfolding line
line-put xs p q r = put-joined p (put-joined q r)

-- and the room for each
module _ (first xs out : List ℕ) (at : ℕ) (room : at + length (line first xs) ≤ length out) where
  pub room-first : at + length first ≤ length out
  room-first = omega (arith, line-length first xs)

  module _ {begun : ℕ} {out₁ : List ℕ} (p : Puts first out at begun out₁) where
    room_after : begun + (length (spaced xs) + 1) ≤ length out₁
    room_after = put-room p (length (spaced xs) + 1) (omega (arith, line-length first xs))

    pub room-numbers : begun + length (spaced xs) ≤ length out₁
    room-numbers = omega (arith, room_after)

    pub room_feed : {listed : ℕ} {out₂ : List ℕ} → Puts (spaced xs) out₁ begun listed out₂ → listed + 1 ≤ length out₂
    room_feed q = put-room q 1 room_after
