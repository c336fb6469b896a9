-- What reading and writing Newick text promise: the laws of the grammar, of a sentence's rows and of written texts (the crate `newick`),
-- over the calls.
use Prim.Native.Nat.{ℕ, pred, ◌-◌, ◌*◌, ◌≤◌, ◌<◌}
use mathlib.Core.Path.{◌≡◌, refl, sym, ap, ap₂, ◌∙◌, subst}
use mathlib.Core.Logic.{◌↔◌, ◌⊎◌, inl, inr}
use mathlib.Core.Bool.{Bool, true, false, ◌&&◌}
use mathlib.Core.List.{List, ◌++◌, Permᴰ}
use mathlib.Core.List.Permᴰ
use native.Mathlib.Decide.{dec_lt}
use native.Mathlib.Omega.{arith}
use borrow.Author.Tests.{le-leb, leb-true}
use lib.Dec.{leb}
use lib.ListN.{length, take, drop}
use lib.Seq.{take_at, drop_at}
use Rattle.tanglegram.specs.Lists.{range}
use Rattle.tanglegram.specs.Tree.{Tree, leaves}
use Rattle.tanglegram.specs.Order.{byte}
use Rattle.tanglegram.specs.declared.side.Side.{Side}
use Rattle.tanglegram.specs.declared.side.Side.TheVariants.{Left as left, Right as right}
use Rattle.tanglegram.specs.Table.{layout}
use Rattle.tanglegram.proofs.Lists.{each_get_d, each-perm, range-each, length-perm, length-range}
use Rattle.newick.specs.Sentence.{Sentence, leaf_numbers, leaf_count}
use Rattle.newick.specs.Grammar.{Spells}
use Rattle.newick.specs.Reading.{Read, broken, read, text_read}
use Rattle.newick.specs.Rows.{rows_of, tree_from}
use Rattle.newick.specs.Writing.{sentence_of, text_of}
use Rattle.newick.proofs.Grammar.{read_spells, spells_read, spells_one}
use Rattle.newick.proofs.Rows.{rows-rule, rows-tree, rows-order}
use Rattle.newick.proofs.Written.{Writable, written-leaves, written_spells, written-again, written-sets}
use Rattle.record_fields.specs.Fields.{size_of, parts, parts_of}
use Rattle.record_fields.specs.Meaning.{tree_in, rows_on, table_of, layouts_of}
use Rattle.record_fields.specs.Refusals.{one_to_one}
use Rattle.record_fields.proofs.Refused.{lent-accepted, zero-accepted}
use Rattle.record_fields.proofs.Tests.{one_to_one_perm}
use Rattle.record_arrays.specs.Sides.{side_of, RecordOver}
use Rattle.record_arrays.specs.Shown.{shown_order}
use Rattle.record_arrays.proofs.AsItStands.{over_its_leaves, side-leaves, side-perm}
use Rattle.calls_newick.specs.Answers.{NewickRead}
use Rattle.calls_newick.specs.Answers.{NewickWritten}
use Rattle.calls_newick.specs.Refusals.{is_read, said_in, keeps_grammar, said, is_numbered, newick_read_refusal, written_text, newick_write_refusal}
use Rattle.calls_newick.specs.Calls.{NewickReads, NewickWrites}
use Rattle.calls_newick.proofs.Outcomes.{reading_18, reading_19, reading_14, reading_0, writing-good}
use Rattle.calls_newick.proofs.SideWritten.{text-long, text_fits}
use Rattle.calls_newick.proofs.TextRead.{length-rows-of}
use Rattle.promises.specs.Newick.{Numbered, AsGiven, ReadAs, Reading, Writing, ReadBack}
use Rattle.promises.specs.Newick as Newick

-- ---- the tests say what their words mean

false-true : {A : Type 0} → false ≡ true → A
false-true e = absurd (let z : ◌≡◌ {A = ℕ} 0 1 = cc in omega arith)

spelled-said : (text : List ℕ) (s : Sentence) → Spells text s → (keeps_grammar text ≡ true) × (said text ≡ s)
unfolding keeps_grammar said
spelled-said text s sp = let e = spells_read text s sp in (ap is_read e, ap said_in e)

kept-spelled : (text : List ℕ) → keeps_grammar text ≡ true → Spells text (said text)
unfolding keeps_grammar said
kept-spelled text k = go (text_read text) refl k
  where
    go : (R : Read) → text_read text ≡ R → is_read R ≡ true → Spells text (said_in R)
    go broken e k = false-true k
    go (read s rest) e k = (read_spells text s rest e).1

numbered_is : (s : Sentence) → is_numbered s ≡ true → Numbered s
unfolding is_numbered
numbered_is s h = go (leb (leaf_count s) 512) refl h
  where
    go : (b : Bool) → leb (leaf_count s) 512 ≡ b → (b && one_to_one (leaf_count s) (leaf_numbers s)) ≡ true → Numbered s
    go true e h = record { once_each = (one_to_one_perm (leaf_count s) (leaf_numbers s) refl).0 h; most = leb-true (leaf_count s) 512 e }
    go false e h = false-true h

is-numbered : (s : Sentence) → Numbered s → is_numbered s ≡ true
unfolding is_numbered
is-numbered s n = rw (le-leb (leaf_count s) 512 n.most) ((one_to_one_perm (leaf_count s) (leaf_numbers s) refl).1 n.once_each)

-- ---- the cases of reading

data Case (text out : List ℕ) (k : ℕ) : Type 0 where
  is_18 : k ≡ 18 → ((s : Sentence) → Spells text s → ⊥) → Case text out k
  is_19 : k ≡ 19 → (s : Sentence) → Spells text s → (Numbered s → ⊥) → Case text out k
  is_14 : k ≡ 14 → (s : Sentence) → Spells text s → Numbered s → length out < 2 * (leaf_count s - 1) → Case text out k
  is_0 : k ≡ 0 → (s : Sentence) → Spells text s → Numbered s → 2 * (leaf_count s - 1) ≤ length out → Case text out k

case_of : (text out : List ℕ) → Case text out (newick_read_refusal text out)
case_of text out = go (keeps_grammar text) refl (is_numbered (said text)) refl
  where
    room : keeps_grammar text ≡ true → is_numbered (said text) ≡ true → Dec (length out < length (rows_of (said text))) →
        Case text out (newick_read_refusal text out)
    room k n (yes h) =
        is_14 (reading_14 text out k n h) (said text) (kept-spelled text k) (numbered_is (said text) n)
        (omega (arith, length-rows-of (said text)))
    room k n (no h) =
        is_0 (reading_0 text out k n (omega arith)) (said text) (kept-spelled text k) (numbered_is (said text) n)
        (omega (arith, length-rows-of (said text)))

    go : (a : Bool) → keeps_grammar text ≡ a → (b : Bool) → is_numbered (said text) ≡ b → Case text out (newick_read_refusal text out)
    go false k b n = is_18 (reading_18 text out k) (λ x sp. false-true (sym k ∙ (spelled-said text x sp).0))
    go true k false n =
        is_19 (reading_19 text out k n) (said text) (kept-spelled text k) (λ m. false-true (sym n ∙ is-numbered (said text) m))
    go true k true n = room k n (dec_lt (length out) (length (rows_of (said text))))

module _ (text out : List ℕ) (k : ℕ) where
  same : {s s' : Sentence} → Spells text s → Spells text s' → (P : Sentence → Type 0) → P s → P s'
  same {s} {s'} a b P p = subst P (spells_one text s s' a b) p

  only_18 : Case text out k → (k ≡ 18) ↔ ((s : Sentence) → Spells text s → ⊥)
  only_18 (is_18 e f) = (λ h. f, λ h. e)
  only_18 (is_19 e s sp n) = (λ h. absurd (omega arith), λ f. absurd (f s sp))
  only_18 (is_14 e s sp n l) = (λ h. absurd (omega arith), λ f. absurd (f s sp))
  only_18 (is_0 e s sp n l) = (λ h. absurd (omega arith), λ f. absurd (f s sp))

  only_19 : Case text out k → (k ≡ 19) ↔ ((s : Sentence) × Spells text s × (Numbered s → ⊥))
  only_19 (is_18 e f) = (λ h. absurd (omega arith), λ p. absurd (f p.0 p.1))
  only_19 (is_19 e s sp n) = (λ h. (s, sp, n), λ p. e)
  only_19 (is_14 e s sp n l) = (λ h. absurd (omega arith), λ p. absurd (p.2 (same sp p.1 Numbered n)))
  only_19 (is_0 e s sp n l) = (λ h. absurd (omega arith), λ p. absurd (p.2 (same sp p.1 Numbered n)))

  only_14 : Case text out k → (k ≡ 14) ↔ ((s : Sentence) × Spells text s × Numbered s × (length out < 2 * (leaf_count s - 1)))
  only_14 (is_18 e f) = (λ h. absurd (omega arith), λ p. absurd (f p.0 p.1))
  only_14 (is_19 e s sp n) = (λ h. absurd (omega arith), λ p. absurd (n (same p.1 sp Numbered p.2)))
  only_14 (is_14 e s sp n l) = (λ h. (s, sp, n, l), λ p. e)
  only_14 (is_0 e s sp n l) =
      (λ h. absurd (omega arith), λ p. absurd (let m = same sp p.1 (λ x. 2 * (leaf_count x - 1) ≤ length out) l in omega (arith, p.3)))

  only_0 : Case text out k → (k ≡ 0) ↔ ((s : Sentence) × Spells text s × Numbered s × (2 * (leaf_count s - 1) ≤ length out))
  only_0 (is_18 e f) = (λ h. absurd (omega arith), λ p. absurd (f p.0 p.1))
  only_0 (is_19 e s sp n) = (λ h. absurd (omega arith), λ p. absurd (n (same p.1 sp Numbered p.2)))
  only_0 (is_14 e s sp n l) =
      (λ h. absurd (omega arith), λ p. absurd (let m = same sp p.1 (λ x. length out < 2 * (leaf_count x - 1)) l in omega (arith, p.3)))
  only_0 (is_0 e s sp n l) = (λ h. (s, sp, n, l), λ p. e)

  one_of : Case text out k → (k ≡ 0) ⊎ ((k ≡ 14) ⊎ ((k ≡ 18) ⊎ (k ≡ 19)))
  one_of (is_18 e f) = inr (inr (inl e))
  one_of (is_19 e s sp n) = inr (inr (inr e))
  one_of (is_14 e s sp n l) = inr (inl e)
  one_of (is_0 e s sp n l) = inl e

-- ---- reading

-- a layout of bytes that are all 0 has 0 for every row
given-byte : (lay : List ℕ) → AsGiven lay → (i : ℕ) → byte lay i ≡ 0
given-byte lay h i = each_get_d (λ x. x ≡ 0) lay refl h (pred i)

-- what a sentence with good leaves says
sentence_read : (s : Sentence) → Numbered s → ReadAs s (leaf_count s) (rows_of s)
sentence_read s n = record {
  counted = refl;
  closing_order = refl;
  keep_the_rule = rows-rule s n.once_each;
  text_order = λ lay h. rows-order s n.once_each lay (given-byte lay h);
}

module _ (text out : List ℕ) (answer : NewickRead) (out' : List ℕ) (o : NewickReads text out answer out') where
  number_is : answer.refusal.number ≡ newick_read_refusal text out
  number_is = ap (λ a. a.refusal.number) o.answers

  module _ (h : answer.refusal.number ≡ 0) (s : Sentence) (sp : Spells text s) where
    none : newick_read_refusal text out ≡ 0
    none = sym number_is ∙ h

    its_numbered : Numbered s
    its_numbered =
        let p = (only_0 text out (newick_read_refusal text out) (case_of text out)).0 none in
        same text out 0 p.1 sp Numbered p.2

    pub n_is : answer.n ≡ leaf_count s
    n_is =
        ap (λ a. a.n) o.answers ∙ sym (zero-accepted (newick_read_refusal text out) (leaf_count (said text)) none)
        ∙ ap (λ x. leaf_count x) (spelled-said text s sp).1

    buffer-is : out' ≡ rows_of s ++ drop (length (rows_of s)) out
    buffer-is =
        o.afterwards ∙ sym (lent-accepted (newick_read_refusal text out) (rows_of (said text)) out none)
        ∙ ap (λ x. rows_of x ++ drop (length (rows_of x)) out) (spelled-said text s sp).1

    rows_long : length (rows_of s) ≡ 2 * (answer.n - 1)
    rows_long = let e = n_is in omega (arith, length-rows-of s)

    pub rows_are : take (2 * (answer.n - 1)) out' ≡ rows_of s
    rows_are = ap (take (2 * (answer.n - 1))) buffer-is ∙ take_at (rows_of s) (drop (length (rows_of s)) out) (2 * (answer.n - 1)) rows_long

    rest_is : drop (2 * (answer.n - 1)) out' ≡ drop (2 * (answer.n - 1)) out
    rest_is =
        ap (drop (2 * (answer.n - 1))) buffer-is ∙ drop_at (rows_of s) (drop (length (rows_of s)) out) (2 * (answer.n - 1)) rows_long
        ∙ ap (λ m. drop m out) rows_long

    read_as : ReadAs s answer.n (take (2 * (answer.n - 1)) out')
    read_as = rw (rows_are, n_is) (sentence_read s its_numbered)

  pub reading : Reading text out answer out'
  reading =
      let c = subst (Case text out) (sym number_is) (case_of text out) in
      let k = answer.refusal.number in
      record {
        breaks_grammar = only_18 text out k c;
        not_numbered = only_19 text out k c;
        no_room = only_14 text out k c;
        accepted = only_0 text out k c;
        read_as = read_as;
        beyond = λ h. let p = (only_0 text out k c).0 h in rest_is h p.0 p.1;
        no_other = one_of text out k c;
        no_row = ap (λ a. a.refusal.row) o.answers;
      }

-- ---- writing

-- the tree of a side is that of its rows
side-tree : (s : List ℕ) (side : Side) → (table_of s).tree side ≡ tree_in (size_of s) (rows_on (parts s) side)
unfolding parts_of
side-tree s left = refl
side-tree s right = refl

module _ (s : List ℕ) (side : ℕ) (out : List ℕ) (answer : NewickWritten) (out' : List ℕ) (o : NewickWrites s side out answer out')
    (h : answer.refusal.number ≡ 0) where
  accepted : newick_write_refusal s side out ≡ 0
  accepted = sym (ap (λ a. a.refusal.number) o.answers) ∙ h

  over : RecordOver s (size_of s)
  over = over_its_leaves s (writing-good s side out accepted).1

  length-is : answer.length ≡ length (written_text s side)
  length-is = ap (λ a. a.length) o.answers ∙ sym (zero-accepted (newick_write_refusal s side out) (length (written_text s side)) accepted)

  written_is : out' ≡ written_text s side ++ drop (length (written_text s side)) out
  written_is = o.afterwards ∙ sym (lent-accepted (newick_write_refusal s side out) (written_text s side) out accepted)

  text-is : take answer.length out' ≡ written_text s side
  text-is =
      ap (take answer.length) written_is
      ∙ take_at (written_text s side) (drop (length (written_text s side)) out) answer.length (sym length-is)

  pub writing : Writing s side out answer out'
  unfolding written_text
  writing = record {
    present_layout = text-is;
    long = length-is ∙ text-long s side (size_of s) over;
    most = rw length-is (text_fits s side (size_of s) over);
    beyond =
        ap (drop answer.length) written_is
        ∙ drop_at (written_text s side) (drop (length (written_text s side)) out) answer.length (sym length-is)
        ∙ ap (λ m. drop m out) (sym length-is);
  }

-- ---- there and back

module _ (r : List ℕ) (side : ℕ) (g : RecordOver r (size_of r)) where
  -- the side's tree and layout, and the sentence that is written of it
  abbrev t : Tree
  t = (table_of r).tree (side_of side)

  abbrev lay : List ℕ
  lay = layout (layouts_of r) (side_of side)

  abbrev S : Sentence
  S = sentence_of lay t

  its_leaves : Permᴰ (leaves t) (range 1 (size_of r))
  its_leaves = side-leaves r (size_of r) g (side_of side)

  writable : Writable t
  writable =
      let m = g.sized.most in
      each-perm (λ a. (1 ≤ a) × (a < 1000)) (Permᴰ.symm its_leaves)
      (range-each (λ a. (1 ≤ a) × (a < 1000)) 1 (size_of r) (λ i p q. (p, omega arith)))

  spells : Spells (written_text r side) S
  unfolding written_text
  spells =
      let m = g.sized.most in
      let e = length-perm its_leaves ∙ length-range 1 (size_of r) in
      written_spells lay t writable (omega arith)

  its_numbers : leaf_numbers S ≡ shown_order r (side_of side)
  its_numbers = written-leaves lay t writable

  numbers-perm : Permᴰ (leaf_numbers S) (range 1 (size_of r))
  numbers-perm = rw its_numbers (side-perm r (size_of r) g (side_of side))

  its_count : leaf_count S ≡ size_of r
  its_count = length-perm numbers-perm ∙ length-range 1 (size_of r)

  pub numbered : Numbered S
  numbered = record { once_each = rw its_count numbers-perm; most = rw its_count g.sized.most }

  -- the tree of its rows
  tree-read : tree_in (leaf_count S) (rows_of S) ≡ tree_from 0 S
  tree-read = rows-tree S numbered.once_each

  again : (r' : List ℕ) (side' : ℕ) → size_of r' ≡ leaf_count S → rows_on (parts r') (side_of side') ≡ rows_of S →
      AsGiven (layout (layouts_of r') (side_of side')) → written_text r' side' ≡ written_text r side
  unfolding written_text
  again r' side' e rows given =
      let lay' = layout (layouts_of r') (side_of side') in
      ap (λ u. text_of (sentence_of lay' u)) (side-tree r' (side_of side') ∙ ap₂ tree_in e rows ∙ tree-read)
      ∙ ap text_of (written-again lay lay' 0 t writable (given-byte lay' given))

  pub read_back : ReadBack r side (written_text r side) (leaf_count S) (rows_of S)
  read_back = record {
    same_n = its_count;
    keep_the_rule = rows-rule S numbered.once_each;
    same_order = λ lay' h. rows-order S numbered.once_each lay' (given-byte lay' h) ∙ its_numbers;
    same_sets = rw tree-read (written-sets lay 0 t writable);
    same_text = λ r' side' out answer out' o h e rows given. text-is r' side' out answer out' o h ∙ again r' side' e rows given;
  }

module _ (s : List ℕ) (side : ℕ) (out : List ℕ) (written : NewickWritten) (out' : List ℕ) (o : NewickWrites s side out written out')
    (h : written.refusal.number ≡ 0) (buffer : List ℕ) (room : 2 * (size_of s - 1) ≤ length buffer) (answer : NewickRead) (after : List ℕ)
    (q : NewickReads (take written.length out') buffer answer after) where
  good : RecordOver s (size_of s)
  good = over s side out written out' o h

  q' : NewickReads (written_text s side) buffer answer after
  q' = subst (λ x. NewickReads x buffer answer after) (text-is s side out written out' o h) q

  taken : answer.refusal.number ≡ 0
  taken =
      let c = its_count s side good in
      (reading (written_text s side) buffer answer after q').accepted.1
      (S s side good, spells s side good, numbered s side good, omega arith)

  pub there_and_back : (answer.refusal.number ≡ 0) ×
      ReadBack s side (take written.length out') answer.n (take (2 * (answer.n - 1)) after)
  there_and_back =
      let w = written_text s side in
      let sp = spells s side good in (
        taken,
        rw (
          text-is s side out written out' o h,
          rows_are w buffer answer after q' taken (S s side good) sp,
          n_is w buffer answer after q' taken (S s side good) sp,
        ) (read_back s side good),
      )

pub newick : Newick.Newick
newick = record {
  one_sentence = spells_one;
  reading = reading;
  writing = writing;
  there_and_back = there_and_back;
}
