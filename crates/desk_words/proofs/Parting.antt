-- Laws of the parts of a text, in std's words: `position_or_len` and `slice_split`.
use Rattle.std.proofs.Common.{ℕ, suc, ◌+◌, ◌-◌, ◌<◌, ◌≤◌, Bool, true, false, not, cond, eqb, ltb}
use Rattle.std.proofs.Common.{List, [], ◌∷◌, length, get_or, take, drop, None, Some, slice_get, unwrap_or}
use Rattle.std.proofs.Common.{◌≡◌, refl, sym, ap, ◌∙◌, arith}
use borrow.Author.Tests.{ltb-true, ltb-false}
use denote.Ref.{Bor}
use lib.ListN.{length-drop}
use lib.Seq.{take_all, take-length}
use Rattle.std.specs.List.{position_or_len, slice_split, onto_first}
use Rattle.std.proofs.lemmas.Option.{cond_some, unwrap_or-slice_get}
use Rattle.std.proofs.lemmas.List.Splits.{length-slice_split}
use Rattle.std.specs.Cmp.Lexicographic.{pointwise}
use Rattle.desk_words.specs.Words.{Cut, behind, stop_in, up_to_stop, grown, pieces, same_text, place_of}

-- ---- where the first `stop` is
found_by : (n m : ℕ) (b : Bool) → n ≡ m → cond b 0 (suc n) ≡ cond (not b) (1 + m) 0
found_by n m true e = refl
found_by n m false e = omega arith

pub stop_found : (stop : ℕ) (s : List ℕ) → up_to_stop stop s ≡ position_or_len (λ b. eqb b stop) s
unfolding up_to_stop
stop_found stop [] = refl
stop_found stop (x ∷ s) = found_by _ _ (eqb x stop) (stop_found stop s)

within_more : (x : ℕ) (n k : ℕ) (b : Bool) → n ≤ k → cond b 0 (suc n) ≤ suc k
within_more x n k true h = omega arith
within_more x n k false h = omega arith

pub before_within : (stop : ℕ) (s : List ℕ) → up_to_stop stop s ≤ length s
unfolding up_to_stop
before_within stop [] = omega arith
before_within stop (x ∷ s) = within_more x (up_to_stop stop s) (length s) (eqb x stop) (before_within stop s)

pub found_at : (stop : ℕ) (s : List ℕ) (to : ℕ) → Some to ≡ stop_in stop s → (up_to_stop stop s < length s) × (up_to_stop stop s ≡ to)
unfolding stop_in
found_at stop s to e =
    let h = cond_some (ltb (up_to_stop stop s) (length s)) (up_to_stop stop s) to (sym e) in
    (ltb-true (up_to_stop stop s) (length s) h.0, h.1)

not_below : (x n : ℕ) (b : Bool) → ltb x n ≡ b → None ≡ cond b (Some x) None → n ≤ x
not_below x n true e h = absurd (let z : ◌≡◌ {A = ℕ} 0 1 = cc in omega arith)
not_below x n false e h = ltb-false x n e

pub not_found : (stop : ℕ) (s : List ℕ) → None ≡ stop_in stop s → up_to_stop stop s ≡ length s
unfolding stop_in
not_found stop s e =
    let h = not_below (up_to_stop stop s) (length s) (ltb (up_to_stop stop s) (length s)) refl e in
    let l = before_within stop s in
    omega arith

pub cut_none : (stop : ℕ) (s : List ℕ) → None ≡ stop_in stop s → Cut stop s s None
cut_none stop s e = record { before = rw (not_found stop s e) (sym (take-length s)); after = not_found stop s e }

pub cut_at : (stop : ℕ) (s : List ℕ) (to : ℕ) (r : Bor (List ℕ)) → Some to ≡ stop_in stop s
    → r.now ≡ take (length s - (to + 1)) (drop (to + 1) s) → Cut stop s (take to s) (Some r)
unfolding behind
cut_at stop s to r e q =
    let h = found_at stop s to e in
    let all : take (length s - (to + 1)) (drop (to + 1) s) ≡ drop (to + 1) s =
    take_all (length s - (to + 1)) (drop (to + 1) s) (rw length-drop (omega arith)) in
    let next : to + 1 ≡ suc to = omega arith in
    record { before = rw h.1; after = (h.0, rw h.1 (q ∙ all ∙ rw next)) }

-- ---- the parts
grown_onto : (x : ℕ) (ps : List (List ℕ)) → 0 < length ps → grown x ps ≡ onto_first x ps
grown_onto x [] h = absurd (omega arith)
grown_onto x (p ∷ ps) h = refl

pub parts_split : (stop : ℕ) (s : List ℕ) → pieces stop s ≡ slice_split (λ b. eqb b stop) s
unfolding pieces
parts_split stop [] = refl
parts_split stop (x ∷ s) =
    let same = parts_split stop s in
    let parts = length-slice_split (λ (b : ℕ). eqb b stop) s in
    let grew = grown_onto x (slice_split (λ (b : ℕ). eqb b stop) s) (omega arith) in
    rw (same, grew)

module _ (stop : ℕ) where
  last_more : (x : ℕ) (s : List ℕ) (b : Bool) → (up_to_stop stop s ≡ length s → pieces stop s ≡ s ∷ [])
      → cond b 0 (suc (up_to_stop stop s)) ≡ suc (length s) → cond b ([] ∷ pieces stop s) (grown x (pieces stop s)) ≡ (x ∷ s) ∷ []
  last_more x s true go e = absurd (omega arith)
  last_more x s false go e = rw (go (omega (arith, e)))

  pub parts_last : (s : List ℕ) → up_to_stop stop s ≡ length s → pieces stop s ≡ s ∷ []
  unfolding up_to_stop pieces
  parts_last [] e = refl
  parts_last (x ∷ s) e = last_more x s (eqb x stop) (parts_last s) e

  behind_more : (x : ℕ) (s : List ℕ) (b : Bool)
      → (up_to_stop stop s < length s → pieces stop s ≡ take (up_to_stop stop s) s ∷ pieces stop (drop (suc (up_to_stop stop s)) s))
      → cond b 0 (suc (up_to_stop stop s)) < suc (length s)
      → cond b ([] ∷ pieces stop s) (grown x (pieces stop s))
      ≡ take (cond b 0 (suc (up_to_stop stop s))) (x ∷ s) ∷ pieces stop (drop (suc (cond b 0 (suc (up_to_stop stop s)))) (x ∷ s))
  behind_more x s true go h = refl
  behind_more x s false go h = ap (grown x) (go (omega (arith, h)))

  pub parts_more : (s : List ℕ) → up_to_stop stop s < length s → pieces stop s ≡ take (up_to_stop stop s) s ∷ pieces stop (behind stop s)
  unfolding up_to_stop pieces behind
  parts_more [] h = absurd (omega (arith, h))
  parts_more (x ∷ s) h = behind_more x s (eqb x stop) (parts_more s) h

  grown-length : (x : ℕ) (ps : List (List ℕ)) (b : Bool) → 0 < length ps → 0 < length (cond b ([] ∷ ps) (grown x ps))
  grown-length x ps true h = omega arith
  grown-length x (p ∷ ps) false h = omega arith
  grown-length x [] false h = absurd (omega arith)

  pub parts_some : (s : List ℕ) → 0 < length (pieces stop s)
  unfolding pieces
  parts_some [] = omega arith
  parts_some (x ∷ s) = grown-length x (pieces stop s) (eqb x stop) (parts_some s)

-- What is read past the end of a list.
pub past_the_end : {A : Type 0} (xs : List A) (k : ℕ) (d : A) → None ≡ slice_get xs k → d ≡ get_or xs k d
past_the_end xs k d e = ap (λ o. unwrap_or o d) e ∙ unwrap_or-slice_get xs k d

-- ---- a name among words
pub same_alike : (s t : List ℕ) → same_text s t ≡ pointwise eqb s t
unfolding same_text
same_alike [] [] = refl
same_alike [] (y ∷ t) = refl
same_alike (x ∷ s) [] = refl
same_alike (x ∷ s) (y ∷ t) = rw (same_alike s t)

pub name_found : (name : List ℕ) (ws : List (List ℕ)) → place_of name ws ≡ position_or_len (λ w. pointwise eqb w name) ws
unfolding place_of
name_found name [] = refl
name_found name (w ∷ ws) = rw (same_alike w name) (found_by _ _ (pointwise eqb w name) (name_found name ws))
