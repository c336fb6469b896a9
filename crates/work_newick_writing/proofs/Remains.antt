-- The walk's loop: what remains to be written is the text of one object, from one place on. Once a row's marks and one child's text are
-- written, the other child's text remains.
use Prim.Native.Nat.{ℕ, ◌+◌, ◌-◌, ◌*◌, ◌≤◌, ◌<◌}
use mathlib.Core.Path.{◌≡◌, sym, ap, ◌∙◌}
use mathlib.Core.List.{List}
use native.Mathlib.Omega.{arith}
use lib.ListN.{length, length-set, get_or}
use lib.Seq.{sets, length-sets}
use Rattle.newick.specs.Writing.{decimal}
use Rattle.work_trees.specs.Rows.{size, object_of, GoodRows}
use Rattle.work_trees.proofs.Walked.{upper-falls, lower-falls}
use Rattle.work_newick_writing.specs.Counts.{written}
use Rattle.work_newick_writing.proofs.Written.{grouped, length_grouped, leaf-written, object-written}
use Rattle.work_newick_writing.proofs.Marks.{marked, first_then_second, second_then_first}

-- object obj's text written from place `at` on makes all, the text of object top written into out₀ from place `from` on
pub record Remains (T out₀ : List ℕ) (top from : ℕ) (out : List ℕ) (obj at : ℕ) : Type 0 where
  pub most : obj ≤ top
  pub fits : at + length (written (object_of T obj)) ≤ length out
  pub makes : sets out at (written (object_of T obj)) ≡ sets out₀ from (written (object_of T top))

module _ {T out₀ : List ℕ} {top from : ℕ} {out : List ℕ} {obj at : ℕ} (good : GoodRows T) (r : Remains T out₀ top from out obj at) where
  -- the memory stays as long
  pub remains_long : length out ≡ length out₀
  remains_long =
      sym (length-sets out at (written (object_of T obj))) ∙ ap length r.makes ∙ length-sets out₀ from (written (object_of T top))

  -- a leaf
  pub remains_leaf : obj ≤ size T → sets out at (decimal obj) ≡ sets out₀ from (written (object_of T top))
  remains_leaf h = rw (leaf-written good obj h) at r.makes

  -- a row's object, and its row's two entries by the place that the code reads
  module _ (above : size T < obj) (below : obj < 2 * size T) {k : ℕ} (place : k ≡ obj - size T - 1) where
    abbrev pub a : ℕ
    a = get_or T (2 * k) 0

    abbrev pub b : ℕ
    b = get_or T (2 * k + 1) 0

    abbrev pub A : List ℕ
    A = written (object_of T a)

    abbrev pub B : List ℕ
    B = written (object_of T b)

    is-grouped : written (object_of T obj) ≡ grouped A B
    is-grouped = rw place (object-written good obj above below)

    pub falls : (a < obj) × (b < obj)
    falls = rw place ((upper-falls T good obj above below).1, (lower-falls T good obj above below).1)

    pub room : at + (length A + length B + 3) ≤ length out
    room = omega (arith, r.fits, ap length is-grouped ∙ length_grouped A B)

    -- the whole text, in whichever order its parts are written
    whole : sets out at (grouped A B) ≡ sets out₀ from (written (object_of T top))
    whole = rw is-grouped at r.makes

    -- once the row's marks are written, with room for texts as long as its entries' are, and one entry's text
    module _ (first second : ℕ) (is-first : first ≡ length A) (is-second : second ≡ length B) (out' : List ℕ) where
      pub upper-done : out' ≡ sets (marked out at first second) (at + 1) A → Remains T out₀ top from out' b (at + 1 + first + 1)
      upper-done e =
          let long : length out' ≡ length out = ap length e ∙ simp (length-sets, length-set) in
          let less = falls in
          let most = r.most in
          record {
            most = omega arith;
            fits = omega (arith, room);
            makes = rw (e, is-first, is-second) (first_then_second A B out at ∙ whole);
          }

      pub lower-done : out' ≡ sets (marked out at first second) (at + 1 + first + 1) B → Remains T out₀ top from out' a (at + 1)
      lower-done e =
          let long : length out' ≡ length out = ap length e ∙ simp (length-sets, length-set) in
          let less = falls in
          let most = r.most in
          record {
            most = omega arith;
            fits = omega (arith, room);
            makes = rw (e, is-first, is-second) (second_then_first A B out at ∙ whole);
          }
