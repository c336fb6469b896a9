-- Laws of the place of a name among words.
use Rattle.std.proofs.Common.{ℕ, ◌<◌, ◌≤◌, ◌≡◌, Bool, true, false, cond, ltb, List, length, refl, sym, arith, None, Some}
use borrow.Author.Tests.{ltb-true, ltb-false}
use Rattle.std.proofs.lemmas.Option.{cond_some}
use Rattle.desk_words.specs.Words.{place_of, placed}

pub placed_at : (name : List ℕ) (ws : List (List ℕ)) (k : ℕ) → Some k ≡ placed name ws
    → (place_of name ws < length ws) × (place_of name ws ≡ k)
unfolding placed
placed_at name ws k e =
    let h = cond_some (ltb (place_of name ws) (length ws)) (place_of name ws) k (sym e) in
    (ltb-true (place_of name ws) (length ws) h.0, h.1)

past : (x n : ℕ) (b : Bool) → ltb x n ≡ b → None ≡ cond b (Some x) None → n ≤ x
past x n true e h = absurd (let z : ◌≡◌ {A = ℕ} 0 1 = cc in omega arith)
past x n false e h = ltb-false x n e

pub not_placed : (name : List ℕ) (ws : List (List ℕ)) → None ≡ placed name ws → length ws ≤ place_of name ws
unfolding placed
not_placed name ws e = past (place_of name ws) (length ws) (ltb (place_of name ws) (length ws)) refl e
