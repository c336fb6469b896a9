-- Reading is the grammar: a text is read as a sentence exactly if it spells that sentence, and is broken exactly if it spells none. So a
-- text spells at most one sentence. Each reader is sound (what it answers is spelled by what it read) and complete (what is spelled is
-- read, before anything that can't go on with it).
use Prim.Native.Nat.{ℕ, zero, suc, ◌+◌, ◌≤◌}
use mathlib.Core.Path.{◌≡◌, refl, sym, ap, subst, ◌∙◌}
use mathlib.Core.Logic.{◌≢◌, ◌⊎◌, ◌↔◌, inl, inr}
use mathlib.Core.Bool.{Bool, true, false, cond, ◌||◌, false≢true}
use mathlib.Core.List.{List, [], ◌∷◌, ◌++◌, append_assoc}
use native.Mathlib.Omega.{arith}
use borrow.Author.Tests.{eqb-true, eqb-false, leb-true, le-leb, ne_eqb}
use lib.Dec.{eqb, leb}
use lib.ListN.{length, get_or}
use Rattle.tanglegram.specs.Lists.{Each}
use Rattle.tanglegram.proofs.Bools.{and_both, or_neither}
use Rattle.newick.specs.Sentence.{Length, none, whole, pointed, Sentence, number, group, spell_length, spell, opens}
use Rattle.newick.specs.Sentence.{opening, closing, comma, point, colon, semicolon, line_feed}
use Rattle.newick.specs.Grammar.{most_open, Digit, GoodLength, Good, Spells}
use Rattle.newick.specs.Reading.{head, behind, is_digit, digits, past_digits}
use Rattle.newick.specs.Reading.{LengthRead, no_length, length_read, length_behind, length_in}
use Rattle.newick.specs.Reading.{Read, broken, read, and_then, expect, with_length, leaf_in, group_by, subtree_in, is_end, text_read}

-- ---- digits

digit-true : (x : ℕ) → is_digit x ≡ true → Digit x
unfolding is_digit
digit-true x e = let r = and_both (leb 48 x) (leb x 57) e in (leb-true 48 x r.0, leb-true x 57 r.1)

true-digit : (x : ℕ) → Digit x → is_digit x ≡ true
unfolding is_digit
true-digit x h = rw (le-leb 48 x h.0, le-leb x 57 h.1) refl

digits-past : (xs : List ℕ) → xs ≡ digits xs ++ past_digits xs
unfolding digits past_digits
digits-past [] = refl
digits-past (x ∷ xs) = go (is_digit x) (digits-past xs)
  where
    go : (b : Bool) → xs ≡ digits xs ++ past_digits xs → x ∷ xs ≡ cond b (x ∷ digits xs) [] ++ cond b (past_digits xs) (x ∷ xs)
    go true r = ap (λ ys. x ∷ ys) r
    go false r = refl

digits-each : (xs : List ℕ) → Each Digit (digits xs)
unfolding digits
digits-each [] = tt
digits-each (x ∷ xs) = go (is_digit x) refl (digits-each xs)
  where
    go : (b : Bool) → is_digit x ≡ b → Each Digit (digits xs) → Each Digit (cond b (x ∷ digits xs) [])
    go true e r = (digit-true x e, r)
    go false e r = tt

-- digits before what is no digit are read off
digits_before : (ds rest : List ℕ) → Each Digit ds → is_digit (head rest) ≡ false →
    (digits (ds ++ rest) ≡ ds) × (past_digits (ds ++ rest) ≡ rest)
unfolding digits past_digits
digits_before [] [] p e = (refl, refl)
digits_before [] (x ∷ rest) p e = (rw e refl, rw e refl)
digits_before (d ∷ ds) rest p e =
    let r = digits_before ds rest p.1 e in
    let here = true-digit d p.0 in
    (rw here (ap (λ l. d ∷ l) r.0), rw here r.1)

-- a byte that stands first
first-is : (b : ℕ) (xs : List ℕ) → b ≤ 255 → eqb (head xs) b ≡ true → xs ≡ b ∷ behind xs
first-is b [] h e = absurd (omega (arith, eqb-true 256 b e))
first-is b (x ∷ xs) h e = ap (λ y. y ∷ xs) (eqb-true x b e)

head-append : (ds rest : List ℕ) → 1 ≤ length ds → head (ds ++ rest) ≡ get_or ds 0 0
head-append [] rest h = absurd (omega arith)
head-append (d ∷ ds) rest h = refl

-- ---- a length

-- where a length was read, the text is its spelling and what is left, and the length is good
abbrev LengthSpelled : List ℕ → LengthRead → Type 0
LengthSpelled xs no_length = Unit {0}
LengthSpelled xs (length_read l rest) = (xs ≡ spell_length l ++ rest) × GoodLength l

behind-spelled : (xs : List ℕ) → LengthSpelled (colon ∷ xs) (length_behind xs)
unfolding length_behind spell_length
behind-spelled xs = go (eqb (head past) point) refl
  where
    ds : List ℕ
    ds = digits xs

    past : List ℕ
    past = past_digits xs

    es : List ℕ
    es = digits (behind past)

    with_point : (c : Bool) → eqb (length ds + length es) 0 ≡ c → eqb (head past) point ≡ true →
        LengthSpelled (colon ∷ xs) (cond c no_length (length_read (pointed ds es) (past_digits (behind past))))
    with_point true t p = tt
    with_point false t p =
        let here = ap (λ ys. ds ++ ys) (first-is point past (omega arith) p ∙ ap (λ ys. point ∷ ys) (digits-past (behind past))) in (
          ap (λ ys. colon ∷ ys) (digits-past xs ∙ here ∙ sym (append_assoc ds (point ∷ es) (past_digits (behind past)))),
          (digits-each xs, digits-each (behind past), omega (arith, eqb-false (length ds + length es) 0 t)),
        )

    without : (c : Bool) → eqb (length ds) 0 ≡ c → LengthSpelled (colon ∷ xs) (cond c no_length (length_read (whole ds) past))
    without true t = tt
    without false t = (ap (λ ys. colon ∷ ys) (digits-past xs), (digits-each xs, omega (arith, eqb-false (length ds) 0 t)))

    go : (b : Bool) → eqb (head past) point ≡ b →
        LengthSpelled (colon ∷ xs)
        (cond b (cond (eqb (length ds + length es) 0) no_length (length_read (pointed ds es) (past_digits (behind past))))
        (cond (eqb (length ds) 0) no_length (length_read (whole ds) past)))
    go true p = with_point (eqb (length ds + length es) 0) refl p
    go false p = without (eqb (length ds) 0) refl

length-spelled : (xs : List ℕ) → LengthSpelled xs (length_in xs)
unfolding length_in spell_length
length-spelled xs = go (eqb (head xs) colon) refl
  where
    go : (b : Bool) → eqb (head xs) colon ≡ b → LengthSpelled xs (cond b (length_behind (behind xs)) (length_read none xs))
    go true e = rw (first-is colon xs (omega arith) e) (behind-spelled (behind xs))
    go false e = (refl, tt)

-- nothing that could go on with a subtree: its first byte is no digit, no point and no colon
pub record Ends (rest : List ℕ) : Type 0 where
  pub no_digit : is_digit (head rest) ≡ false
  pub no_point : eqb (head rest) point ≡ false
  pub no_colon : eqb (head rest) colon ≡ false

length-read-back : (l : Length) (rest : List ℕ) → GoodLength l → Ends rest → length_in (spell_length l ++ rest) ≡ length_read l rest
unfolding length_in length_behind spell_length is_digit
length-read-back none rest g end = rw end.no_colon refl
length-read-back (whole ds) rest g end =
    let r = digits_before ds rest g.0 end.no_digit in
    rw (r.0, r.1, end.no_point, ne_eqb (length ds) 0 (λ e. omega arith)) refl
length-read-back (pointed ds es) rest g end =
    let r = digits_before ds (point ∷ (es ++ rest)) g.0 refl in
    let q = digits_before es rest g.1 end.no_digit in
    rw (append_assoc ds (point ∷ es) rest, r.0, r.1, q.0, q.1, ne_eqb (length ds + length es) 0 (λ e. omega arith)) refl

-- ---- a sentence

-- where a sentence was read, the text is its spelling and what is left; it is good, with at most d groups open at once
abbrev Spelled : ℕ → List ℕ → Read → Type 0
Spelled d xs broken = Unit {0}
Spelled d xs (read s rest) = (xs ≡ spell s ++ rest) × Good s × (opens s ≤ d)

-- what is true of what was read before and of what follows it
and_then-true : (P Q : Read → Type 0) (r : Read) (f : Sentence → List ℕ → Read) → P r → Q broken →
    ((s : Sentence) (rest : List ℕ) → P (read s rest) → Q (f s rest)) → Q (and_then r f)
and_then-true P Q broken f p q g = q
and_then-true P Q (read s rest) f p q g = g s rest p

expect-true : (Q : Read → Type 0) (b : ℕ) (xs : List ℕ) (f : List ℕ → Read) → b ≤ 255 → Q broken →
    (xs ≡ b ∷ behind xs → Q (f (behind xs))) → Q (expect b xs f)
expect-true Q b xs f h q g = go (eqb (head xs) b) refl
  where
    go : (c : Bool) → eqb (head xs) b ≡ c → Q (cond c (f (behind xs)) broken)
    go true e = g (first-is b xs h e)
    go false e = q

leaf-spelled : (d : ℕ) (xs : List ℕ) → Spelled d xs (leaf_in xs)
unfolding leaf_in spell opens
leaf-spelled d xs = go (eqb (length (digits xs)) 0 || eqb (head xs) 48) refl
  where
    ds : List ℕ
    ds = digits xs

    more : (r : LengthRead) → LengthSpelled (past_digits xs) r → 1 ≤ length ds → get_or ds 0 0 ≢ 48 → Spelled d xs (with_length (number ds) r)
    more no_length p some first = tt
    more (length_read l rest) p some first =
        let past = digits-past xs ∙ ap (λ ys. ds ++ ys) p.0 in
        (past ∙ sym (append_assoc ds (spell_length l) rest), (digits-each xs, some, first, p.1), omega arith)

    go : (b : Bool) → (eqb (length ds) 0 || eqb (head xs) 48) ≡ b →
        Spelled d xs (cond b broken (with_length (number ds) (length_in (past_digits xs))))
    go true e = tt
    go false e =
        let r = or_neither (eqb (length ds) 0) (eqb (head xs) 48) e in
        let some : 1 ≤ length ds = omega (arith, eqb-false (length ds) 0 r.0) in
        let same = ap head (digits-past xs) ∙ head-append ds (past_digits xs) some in
        more (length_in (past_digits xs)) (length-spelled (past_digits xs)) some (λ e. eqb-false (head xs) 48 r.1 (same ∙ e))

-- a group's spelling, byte by byte
spell-group : (a b : Sentence) (l : Length) (rest : List ℕ) →
    spell (group a b l) ++ rest ≡ opening ∷ (spell a ++ (comma ∷ (spell b ++ (closing ∷ (spell_length l ++ rest)))))
unfolding spell
spell-group a b l rest = simp append_assoc

group-spelled : (sub : List ℕ → Read) (d : ℕ) → ((xs : List ℕ) → Spelled d xs (sub xs)) →
    (xs : List ℕ) → Spelled (suc d) (opening ∷ xs) (group_by sub xs)
unfolding group_by opens
group-spelled sub d h xs =
    and_then-true (Spelled d xs) Q (sub xs) (λ a rest. expect comma rest (second a)) (h xs) tt (λ a rest p.
    expect-true Q comma rest (second a) (omega arith) tt (λ e.
    and_then-true (Spelled d (behind rest)) Q (sub (behind rest)) (λ b rest'. expect closing rest' (last a b)) (h (behind rest)) tt
    (λ b rest' q. expect-true Q closing rest' (last a b) (omega arith) tt (λ e'.
    closed a b rest rest' p e q e' (length_in (behind rest')) (length-spelled (behind rest'))))))
  where
    Q : Read → Type 0
    Q r = Spelled (suc d) (opening ∷ xs) r

    last : Sentence → Sentence → List ℕ → Read
    last a b rest = with_length (group a b) (length_in rest)

    second : Sentence → List ℕ → Read
    second a rest = and_then (sub rest) (λ b rest'. expect closing rest' (last a b))

    closed : (a b : Sentence) (rest rest' : List ℕ) → Spelled d xs (read a rest) → rest ≡ comma ∷ behind rest →
        Spelled d (behind rest) (read b rest') → rest' ≡ closing ∷ behind rest' →
        (r : LengthRead) → LengthSpelled (behind rest') r → Q (with_length (group a b) r)
    closed a b rest rest' p e q e' no_length g = tt
    closed a b rest rest' p e q e' (length_read l left) g =
        let here = e ∙ ap (λ ys. comma ∷ ys) (q.0 ∙ ap (λ ys. spell b ++ ys) (e' ∙ ap (λ ys. closing ∷ ys) g.0)) in (
          ap (λ ys. opening ∷ ys) (p.0 ∙ ap (λ ys. spell a ++ ys) here) ∙ sym (spell-group a b l left),
          (p.1, q.1, g.1),
          omega (arith, p.2, q.2),
        )

subtree_spelled : (d : ℕ) (xs : List ℕ) → Spelled d xs (subtree_in d xs)
unfolding subtree_in
subtree_spelled zero xs = go (eqb (head xs) opening)
  where
    go : (b : Bool) → Spelled zero xs (cond b broken (leaf_in xs))
    go true = tt
    go false = leaf-spelled zero xs
subtree_spelled (suc d) xs = go (eqb (head xs) opening) refl (group-spelled (subtree_in d) d (subtree_spelled d) (behind xs))
  where
    go : (b : Bool) → eqb (head xs) opening ≡ b → Spelled (suc d) (opening ∷ behind xs) (group_by (subtree_in d) (behind xs)) →
        Spelled (suc d) xs (cond b (group_by (subtree_in d) (behind xs)) (leaf_in xs))
    go true e p = rw (first-is opening xs (omega arith) e) p
    go false e p = leaf-spelled (suc d) xs

-- what is read is spelled
pub subtree_sound : (d : ℕ) (xs : List ℕ) (s : Sentence) (rest : List ℕ) → subtree_in d xs ≡ read s rest →
    (xs ≡ spell s ++ rest) × Good s × (opens s ≤ d)
subtree_sound d xs s rest e = subst (Spelled d xs) e (subtree_spelled d xs)

-- ---- what is spelled is read

length-begins : (l : Length) (rest : List ℕ) → Ends rest → is_digit (head (spell_length l ++ rest)) ≡ false
unfolding spell_length is_digit
length-begins none rest end = end.no_digit
length-begins (whole ds) rest end = refl
length-begins (pointed ds es) rest end = refl

leaf-read-back : (ds : List ℕ) (l : Length) (rest : List ℕ) → Good (number ds l) → Ends rest →
    leaf_in (spell (number ds l) ++ rest) ≡ read (number ds l) rest
unfolding leaf_in spell
leaf-read-back ds l rest g end =
    let after = spell_length l ++ rest in
    let r = digits_before ds after g.0 (length-begins l rest end) in
    rw (
      append_assoc ds (spell_length l) rest,
      r.0,
      r.1,
      ne_eqb (length ds) 0 (λ e. omega (arith, g.1)),
      head-append ds after g.1,
      ne_eqb (get_or ds 0 0) 48 g.2,
      length-read-back l rest g.3 end,
    ) refl

-- a leaf begins with a digit, and so with no parenthesis
leaf-begins : (ds : List ℕ) (l : Length) (rest : List ℕ) → Good (number ds l) → eqb (head (spell (number ds l) ++ rest)) opening ≡ false
unfolding spell
leaf-begins [] l rest g = absurd (omega (arith, g.1))
leaf-begins (d ∷ ds) l rest g = ne_eqb d opening (λ e. omega (arith, g.0.0))

group-read-back : (sub : List ℕ → Read) (a b : Sentence) (l : Length) (rest : List ℕ) → GoodLength l → Ends rest →
    ((after : List ℕ) → Ends after → sub (spell a ++ after) ≡ read a after) →
    ((after : List ℕ) → Ends after → sub (spell b ++ after) ≡ read b after) →
    group_by sub (spell a ++ (comma ∷ (spell b ++ (closing ∷ (spell_length l ++ rest))))) ≡ read (group a b l) rest
unfolding group_by is_digit
group-read-back sub a b l rest g end p q =
    let after = closing ∷ (spell_length l ++ rest) in
    let mid = comma ∷ (spell b ++ after) in
    rw (
      p mid (record { no_digit = refl; no_point = refl; no_colon = refl }),
      q after (record { no_digit = refl; no_point = refl; no_colon = refl }),
      length-read-back l rest g end,
    ) refl

pub subtree_complete : (d : ℕ) (s : Sentence) (rest : List ℕ) → Good s → opens s ≤ d → Ends rest →
    subtree_in d (spell s ++ rest) ≡ read s rest
unfolding subtree_in opens
subtree_complete zero (number ds l) rest g h end = rw (leaf-begins ds l rest g) (leaf-read-back ds l rest g end)
subtree_complete (suc d) (number ds l) rest g h end = rw (leaf-begins ds l rest g) (leaf-read-back ds l rest g end)
subtree_complete zero (group a b l) rest g h end = absurd (omega arith)
subtree_complete (suc d) (group a b l) rest g h end =
    rw (spell-group a b l rest) (group-read-back (subtree_in d) a b l rest g.2 end
    (λ after e. subtree_complete d a after g.0 (omega arith) e)
    (λ after e. subtree_complete d b after g.1 (omega arith) e))

-- ---- the whole text

end_is : (xs : List ℕ) → is_end xs ≡ true → (xs ≡ []) ⊎ (xs ≡ line_feed ∷ [])
unfolding is_end
end_is [] e = inl refl
end_is (x ∷ []) e = inr (ap (λ y. y ∷ []) (eqb-true x line_feed e))
end_is (x ∷ y ∷ xs) e = absurd (false≢true e)

-- where a whole text was read
abbrev TextSpelled : ℕ → List ℕ → Read → Type 0
TextSpelled d text broken = Unit {0}
TextSpelled d text (read s rest) =
    (rest ≡ []) × Good s × (opens s ≤ d) × ((text ≡ spell s ++ (semicolon ∷ [])) ⊎ (text ≡ spell s ++ (semicolon ∷ line_feed ∷ [])))

-- what follows the subtree
abbrev ending : Sentence → List ℕ → Read
unfolding is_end
ending s rest = expect semicolon rest (λ rest. cond (is_end rest) (read s []) broken)

text-spelled : (d : ℕ) (text : List ℕ) → TextSpelled d text (and_then (subtree_in d text) ending)
unfolding is_end
text-spelled d text =
    and_then-true (Spelled d text) (TextSpelled d text) (subtree_in d text) ending (subtree_spelled d text) tt (λ s rest p.
    expect-true (TextSpelled d text) semicolon rest (λ rest. cond (is_end rest) (read s []) broken) (omega arith) tt (λ e.
    go s rest p e (is_end (behind rest)) refl))
  where
    go : (s : Sentence) (rest : List ℕ) → Spelled d text (read s rest) → rest ≡ semicolon ∷ behind rest → (b : Bool) →
        is_end (behind rest) ≡ b → TextSpelled d text (cond b (read s []) broken)
    go s rest p e false t = tt
    go s rest p e true t = (refl, p.1, p.2, last (end_is (behind rest) t))
      where
        all : (xs : List ℕ) → behind rest ≡ xs → text ≡ spell s ++ (semicolon ∷ xs)
        all xs q = p.0 ∙ ap (λ ys. spell s ++ ys) (e ∙ ap (λ ys. semicolon ∷ ys) q)

        last : (behind rest ≡ []) ⊎ (behind rest ≡ line_feed ∷ []) →
            (text ≡ spell s ++ (semicolon ∷ [])) ⊎ (text ≡ spell s ++ (semicolon ∷ line_feed ∷ []))
        last (inl q) = inl (all [] q)
        last (inr q) = inr (all (line_feed ∷ []) q)

pub read_spells : (text : List ℕ) (s : Sentence) (rest : List ℕ) → text_read text ≡ read s rest → (rest ≡ []) × Spells text s
unfolding text_read
read_spells text s rest e =
    let r = subst (TextSpelled most_open text) e (text-spelled most_open text) in
    (r.0, record { good = r.1; few_open = r.2; spelled = r.3 })

text-read-back : (d : ℕ) (s : Sentence) (xs : List ℕ) → Good s → opens s ≤ d → is_end xs ≡ true →
    and_then (subtree_in d (spell s ++ (semicolon ∷ xs))) ending ≡ read s []
unfolding is_digit ending
text-read-back d s xs g h e =
    rw (subtree_complete d s (semicolon ∷ xs) g h (record { no_digit = refl; no_point = refl; no_colon = refl }), e) refl

pub spells_read : (text : List ℕ) (s : Sentence) → Spells text s → text_read text ≡ read s []
unfolding text_read
spells_read text s p = go p.spelled
  where
    go : (text ≡ spell s ++ (semicolon ∷ [])) ⊎ (text ≡ spell s ++ (semicolon ∷ line_feed ∷ [])) → text_read text ≡ read s []
    go (inl e) = ap text_read e ∙ text-read-back most_open s [] p.good p.few_open refl
    go (inr e) = ap text_read e ∙ text-read-back most_open s (line_feed ∷ []) p.good p.few_open refl

-- a text spells at most one sentence
pub spells_one : (text : List ℕ) (s s' : Sentence) → Spells text s → Spells text s' → s ≡ s'
spells_one text s s' p q =
    let e = spells_read text s p in
    let f = spells_read text s' q in
    cc

pub broken-exactly : (text : List ℕ) → (text_read text ≡ broken) ↔ ((s : Sentence) → Spells text s → ⊥)
broken-exactly text = (λ e s p. clash e (spells_read text s p), λ never. go never (text_read text) refl)
  where
    clash : {s : Sentence} → text_read text ≡ broken → text_read text ≡ read s [] → ⊥
    clash e f = let z : ◌≡◌ {A = ℕ} 0 1 = cc in omega arith

    go : ((s : Sentence) → Spells text s → ⊥) → (r : Read) → text_read text ≡ r → text_read text ≡ broken
    go never broken e = e
    go never (read s rest) e = absurd (never s (read_spells text s rest e).1)
