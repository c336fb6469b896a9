-- Laws of what a word says part by part: the loop takes one part at a time.
use Prim.Native.Nat.{ℕ, ◌+◌, ◌≤◌, ◌<◌}
use native.Mathlib.Omega.{arith}
use native.Mathlib.Numerals.{add-one}
use mathlib.Core.Path.{◌≡◌, sym, ap, ◌∙◌}
use mathlib.Core.Bool.{true, false}
use mathlib.Core.List.{List, [], ◌∷◌}
use Rattle.std.specs.Prelude.{Option, None, Some, MatchOption}
use denote.Ref.{Bor}
use lib.ListN.{length, take, set, length-drop}
use lib.Seq.{take-length}
use Rattle.desk_words.specs.Words.{Cut, pieces, dash, up_to_stop, behind}
use Rattle.desk_words.specs.Bytes.{joined}
use Rattle.desk_words.specs.Lists.{each_in, entries_in}
use Rattle.desk_words.specs.Puts.{Puts}
use Rattle.desk_words.proofs.Parting.{parts_last, parts_more, parts_some}
use Rattle.desk_words.proofs.Filling.{Filling, fill_none, fill_more, fill_bad, fill_end, fill_full}

-- The parts that are left, where any text is.
abbrev pub left_of : Option (Bor (List ℕ)) → List (List ℕ)
left_of None = []
left_of (Some text) = pieces 44 text.now

-- How much text is left.
abbrev pub length_of : Option (Bor (List ℕ)) → ℕ
length_of None = 0
length_of (Some text) = length text.now + 1

module _ (text part : List ℕ) (after : Option (Bor (List ℕ))) (c : Cut 44 text part after) where
  -- what is behind the part, if anything is
  abbrev Behind : Option (Bor (List ℕ)) → Type 0
  Behind o = MatchOption o (up_to_stop 44 text ≡ length text) (λ r. (up_to_stop 44 text < length text) × (r.now ≡ behind 44 text))

  by_rest : (o : Option (Bor (List ℕ))) → Behind o → pieces 44 text ≡ part ∷ left_of o
  by_rest None h =
      let all : take (up_to_stop 44 text) text ≡ text = rw h (take-length text) in
      parts_last 44 text h ∙ ap (λ (p : List ℕ). p ∷ []) (sym (c.before ∙ all))
  by_rest (Some r) h = parts_more 44 text h.0 ∙ rw (← c.before, ← h.1)

  pub next_part : pieces 44 text ≡ part ∷ left_of after
  next_part = by_rest after c.after

  shorter_by : (o : Option (Bor (List ℕ))) → Behind o → length_of o < length text + 1
  unfolding behind
  shorter_by None h = omega arith
  shorter_by (Some r) h = rw h.1 (rw length-drop (omega (arith, h.0)))

  pub shorter : length_of after < length text + 1
  shorter = shorter_by after c.after

module _ {A : Type 0} (f : List ℕ → Option A) (word : List ℕ) where
  -- The entries of the parts that are not left stand in the first n places.
  pub record Listed (rest : Option (Bor (List ℕ))) (found : List A) (n : ℕ) (out : List A) : Type 0 where
    pub filling : Filling (entries_in f word) (each_in f (left_of rest)) found n out

  pub listed_none : (text : Bor (List ℕ)) (found : List A) → text.now ≡ word → dash word ≡ false → Listed (Some text) found 0 found
  unfolding entries_in
  listed_none text found e d = record { filling = fill_none (each_in f (pieces 44 text.now)) found (rw (d, e)) }

  pub dash-said : dash word ≡ true → entries_in f word ≡ Some []
  unfolding entries_in
  dash-said d = rw d

  module _ (text : Bor (List ℕ)) (part : List ℕ) (after : Option (Bor (List ℕ))) (c : Cut 44 text.now part after)
      (found : List A) (n : ℕ) (out : List A) (l : Listed (Some text) found n out) where
    here : (o : Option A) → o ≡ f part → each_in f (pieces 44 text.now) ≡ joined o (each_in f (left_of after))
    unfolding each_in
    here o e = rw (next_part text.now part after c) (rw e)

    pub listed_more : (x : A) → Some x ≡ f part → n < length out → Listed after found (n + 1) (set out n x)
    listed_more x e room =
        rw (add-one n) (record { filling = fill_more (each_in f (left_of after)) found n x out room (rw (here (Some x) e) at l.filling) })

    pub listed_bad : None ≡ f part → Puts (entries_in f word) found None out
    listed_bad e = fill_bad (each_in f (left_of after)) found n out (rw (here None e) at l.filling)

  full_parts : (ps : List (List ℕ)) (found : List A) (n : ℕ) (out : List A) → 0 < length ps → length out ≤ n
      → Filling (entries_in f word) (each_in f ps) found n out → Puts (entries_in f word) found None out
  unfolding each_in
  full_parts [] found n out h e l = absurd (omega arith)
  full_parts (p ∷ ps) found n out h e l = fill_full (f p) (each_in f ps) found n out (omega (arith, l.long)) l

  pub listed_full : (text : Bor (List ℕ)) (found : List A) (n : ℕ) (out : List A) → length out ≤ n → Listed (Some text) found n out
      → Puts (entries_in f word) found None out
  listed_full text found n out e l =
      full_parts (pieces 44 text.now) found n out (parts_some 44 text.now) e l.filling

  pub listed_all : (rest : Option (Bor (List ℕ))) (found : List A) (n : ℕ) (out : List A) → rest ≡ None → n ≤ length out
      → Listed rest found n out → Puts (entries_in f word) found (Some n) out
  unfolding each_in
  listed_all rest found n out e h l = fill_end found n out (omega (arith, l.filling.long)) (rw e at l.filling)
