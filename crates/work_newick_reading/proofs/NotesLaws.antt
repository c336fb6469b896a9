-- What is noted of a leaf and of a group, from what was noted of its two sentences.
use Prim.Native.Nat.{ℕ, suc, ◌+◌, ◌-◌, ◌*◌, ◌≤◌, ◌<◌}
use mathlib.Core.Path.{◌≡◌, sym, ap, ap₂, ◌∙◌}
use mathlib.Core.List.{List, [], ◌∷◌, ◌++◌, append_assoc}
use native.Mathlib.Decide.{dec_lt, dec_le}
use native.Mathlib.Nat.{add-zero}
use native.Mathlib.Omega.{arith}
use borrow.Author.Tests.{lt-ltb, le-ltb}
use lib.ListN.{length, set, take, length-set}
use lib.Seq.{get_or-set_same, get_or-set_other, take-set-le, take-suc-set}
use Rattle.tanglegram.proofs.Lists.{append-nil}
use Rattle.newick.specs.Sentence.{Sentence, number, group, Length, groups}
use Rattle.newick.specs.Rows.{object_from, rows_from}
use Rattle.newick.specs.Noted.{noted}
use Rattle.work_newick_reading.specs.Notes.{closed_in, last_in, open_in, Notes, opened, entries_noted, row_noted, closed, NotedRows, Noted}

-- ---- a leaf

pub noted-leaf : (ds : List ℕ) (l : Length) (T : List ℕ) (leaf : ℕ) → Notes T → leaf ≡ noted ds → Noted (number ds l) T (set T 1023 leaf)
unfolding groups object_from rows_from
noted-leaf ds l T leaf g e =
    let long = g.long in
    let closed_same = get_or-set_other T 1023 1022 leaf 0 (omega arith) in
    let open-same = get_or-set_other T 1023 1024 leaf 0 (omega arith) in
    record {
      notes = record {
        long = simp length-set long;
        few_open = rw open-same g.few_open;
        few_closed = rw closed_same g.few_closed;
      };
      as_many_open = open-same;
      few = λ h. record {
        all_closed = closed_same ∙ sym (add-zero (closed_in T));
        its_object = get_or-set_same T 1023 leaf 0 (omega arith) ∙ e;
        its_rows =
            rw (add-zero (closed_in T))
            (take-set-le (2 * closed_in T) T 1023 leaf (omega arith) ∙ sym (append-nil (take (2 * closed_in T) T)));
      };
      many = λ h. closed_same ∙ (let m = g.few_closed in omega arith);
    }

-- ---- one group more is open

module _ (T : List ℕ) (g : Notes T) (h : open_in T < 511) where
  opened-closed : closed_in (opened T) ≡ closed_in T
  opened-closed = get_or-set_other T 1024 1022 (open_in T + 1) 0 (omega arith)

  pub opened_open : open_in (opened T) ≡ open_in T + 1
  opened_open = let long = g.long in get_or-set_same T 1024 (open_in T + 1) 0 (omega arith)

-- ---- a row noted

module _ (X : List ℕ) (long : length X ≡ 1025) (first : ℕ) (few : closed_in X < 511) where
  row_last : last_in (set X (2 * closed_in X) first) ≡ last_in X
  row_last = get_or-set_other X (2 * closed_in X) 1023 first 0 (omega arith)

  row-closed : closed_in (row_noted first X) ≡ closed_in X + 1
  row-closed =
      let E = entries_noted first X in
      get_or-set_other (set E 1022 (closed_in X + 1)) 1023 1022 (1024 + closed_in X) 0 (omega arith)
      ∙ get_or-set_same E 1022 (closed_in X + 1) 0 (simp length-set (omega arith))

  row-object : last_in (row_noted first X) ≡ 1024 + closed_in X
  row-object =
      get_or-set_same (set (entries_noted first X) 1022 (closed_in X + 1)) 1023 (1024 + closed_in X) 0 (simp length-set (omega arith))

  row_open : open_in (row_noted first X) ≡ open_in X
  row_open =
      let E = entries_noted first X in
      let one = set X (2 * closed_in X) first in
      get_or-set_other (set E 1022 (closed_in X + 1)) 1023 1024 (1024 + closed_in X) 0 (omega arith)
      ∙ get_or-set_other E 1022 1024 (closed_in X + 1) 0 (omega arith)
      ∙ get_or-set_other one (2 * closed_in X + 1) 1024 (last_in one) 0 (omega arith)
      ∙ get_or-set_other X (2 * closed_in X) 1024 first 0 (omega arith)

  row-long : length (row_noted first X) ≡ 1025
  row-long = simp length-set long

  -- the rows before it, and its two entries
  row-rows : take (2 * (closed_in X + 1)) (row_noted first X) ≡ take (2 * closed_in X) X ++ (first ∷ last_in X ∷ [])
  row-rows =
      let E = entries_noted first X in
      let one = set X (2 * closed_in X) first in
      let m = 2 * closed_in X in
      let twice : 2 * (closed_in X + 1) ≡ suc (m + 1) = omega arith in
      let once : m + 1 ≡ suc m = omega arith in
      let past = take-set-le (2 * (closed_in X + 1)) (set E 1022 (closed_in X + 1)) 1023 (1024 + closed_in X) (omega arith)
      ∙ take-set-le (2 * (closed_in X + 1)) E 1022 (closed_in X + 1) (omega arith) in
      let second : take (suc (m + 1)) E ≡ take (m + 1) one ++ (last_in one ∷ []) =
      take-suc-set one (m + 1) (last_in one) (simp length-set (omega arith)) in
      let fst : take (m + 1) one ≡ take m X ++ (first ∷ []) =
      ap (λ z. take z one) once ∙ take-suc-set X m first (omega arith) in
      past ∙ ap (λ z. take z E) twice ∙ second ∙ ap₂ (λ y z. y ++ (z ∷ [])) fst row_last
      ∙ append_assoc (take m X) (first ∷ []) (last_in X ∷ [])

-- ---- a group

module _ (a b : Sentence) (l : Length) (T : List ℕ) (g : Notes T) (h : open_in T < 511) (T₁ T₂ : List ℕ)
    (na : Noted a (opened T) T₁) (nb : Noted b T₁ T₂) where
  -- one group less is open than after its second sentence
  less : List ℕ
  less = set T₂ 1024 (open_in T₂ - 1)

  less_long : length less ≡ 1025
  unfolding less
  less_long = simp length-set nb.notes.long

  less_closed : closed_in less ≡ closed_in T₂
  unfolding less
  less_closed = get_or-set_other T₂ 1024 1022 (open_in T₂ - 1) 0 (omega arith)

  less_last : last_in less ≡ last_in T₂
  unfolding less
  less_last = get_or-set_other T₂ 1024 1023 (open_in T₂ - 1) 0 (omega arith)

  less_open : open_in less ≡ open_in T
  unfolding less
  less_open =
      let long = nb.notes.long in
      let e = nb.as_many_open ∙ na.as_many_open ∙ opened_open T g h in
      get_or-set_same T₂ 1024 (open_in T₂ - 1) 0 (omega arith) ∙ (let f : open_in T₂ - 1 ≡ open_in T = omega arith in f)

  less_rows : (m : ℕ) → m ≤ 1024 → take m less ≡ take m T₂
  unfolding less
  less_rows m p = take-set-le m T₂ 1024 (open_in T₂ - 1) p

  -- how many have closed before it does
  closed_before : closed_in T + (groups a + groups b) ≤ 511 → closed_in T₂ ≡ closed_in T + (groups a + groups b)
  closed_before p =
      let o = opened-closed T g h in
      let x = (na.few (omega arith)).all_closed in
      let y = (nb.few (omega arith)).all_closed in
      omega arith

  closed-many : 511 < closed_in T + (groups a + groups b) → closed_in T₂ ≡ 512
  closed-many p = go (dec_le (closed_in T + groups a) 511)
    where
      go : Dec (closed_in T + groups a ≤ 511) → closed_in T₂ ≡ 512
      go (yes q) =
          let o = opened-closed T g h in
          let x = (na.few (omega arith)).all_closed in
          nb.many (omega arith)
      go (no q) =
          let o = opened-closed T g h in
          let x = na.many (omega arith) in
          nb.many (omega arith)

  -- its rows, where they are among the first 511
  module _ (p : closed_in T + (groups a + groups b) ≤ 510) where
    first-is : last_in T₁ ≡ object_from noted 1023 (closed_in T) a
    first-is = let o = opened-closed T g h in (na.few (omega arith)).its_object ∙ ap (λ z. object_from noted 1023 z a) o

    closed-first : closed_in T₁ ≡ closed_in T + groups a
    closed-first = let o = opened-closed T g h in let x = (na.few (omega arith)).all_closed in omega arith

    second_is : last_in T₂ ≡ object_from noted 1023 (closed_in T + groups a) b
    second_is =
        let c = closed-first in
        (nb.few (omega arith)).its_object ∙ ap (λ z. object_from noted 1023 z b) c

    rows-first : take (2 * (closed_in T + groups a)) T₁ ≡ take (2 * closed_in T) T ++ rows_from noted 1023 (closed_in T) a
    rows-first =
        let o = opened-closed T g h in
        let c = g.few_closed in
        ap (λ z. take (2 * (z + groups a)) T₁) (sym o) ∙ (na.few (omega arith)).its_rows
        ∙ ap₂ (λ y z. take (2 * z) (opened T) ++ y) (ap (λ z. rows_from noted 1023 z a) o) o
        ∙ ap (λ y. y ++ rows_from noted 1023 (closed_in T) a) (take-set-le (2 * closed_in T) T 1024 (open_in T + 1) (omega arith))

    rows_second : take (2 * closed_in T₂) T₂
        ≡ take (2 * closed_in T) T ++ (rows_from noted 1023 (closed_in T) a ++ rows_from noted 1023 (closed_in T + groups a) b)
    rows_second =
        let c = closed-first in
        let y = nb.few (omega arith) in
        ap (λ z. take (2 * z) T₂) y.all_closed ∙ y.its_rows
        ∙ ap₂ (λ z w. take (2 * z) T₁ ++ w) c (ap (λ z. rows_from noted 1023 z b) c)
        ∙ ap (λ z. z ++ rows_from noted 1023 (closed_in T + groups a) b) rows-first
        ∙ append_assoc (take (2 * closed_in T) T) (rows_from noted 1023 (closed_in T) a) (rows_from noted 1023 (closed_in T + groups a) b)

    few-below : closed_in less < 511
    few-below = let e = less_closed in let f = closed_before (omega arith) in omega arith

    rows_before : take (2 * closed_in less) less
        ≡ take (2 * closed_in T) T ++ (rows_from noted 1023 (closed_in T) a ++ rows_from noted 1023 (closed_in T + groups a) b)
    rows_before =
        let q = few-below in
        less_rows (2 * closed_in less) (omega arith) ∙ ap (λ z. take (2 * z) T₂) less_closed ∙ rows_second

    group-rows : NotedRows (group a b l) T (row_noted (last_in T₁) less)
    unfolding groups object_from rows_from
    group-rows =
        let f = closed_before (omega arith) in
        let first = last_in T₁ in
        let A = rows_from noted 1023 (closed_in T) a in
        let B = rows_from noted 1023 (closed_in T + groups a) b in
        let entries = object_from noted 1023 (closed_in T) a ∷ object_from noted 1023 (closed_in T + groups a) b ∷ [] in
        let c : closed_in less + 1 ≡ closed_in T + suc (groups a + groups b) = (let e = less_closed in omega arith) in
        record {
          all_closed = row-closed less less_long first few-below ∙ c;
          its_object = row-object less less_long first few-below ∙ (let e = less_closed in omega arith);
          its_rows =
              ap (λ z. take (2 * z) (row_noted first less)) (sym c)
              ∙ row-rows less less_long first few-below
              ∙ ap₂ ◌++◌ rows_before (ap₂ (λ y z. y ∷ z ∷ []) first-is (less_last ∙ second_is))
              ∙ append_assoc (take (2 * closed_in T) T) (A ++ B) entries
              ∙ ap (λ z. take (2 * closed_in T) T ++ z) (append_assoc A B entries);
        }

  -- closed
  pub noted-group : Noted (group a b l) T (closed (last_in T₁) T₂)
  unfolding closed groups less
  noted-group = go (dec_lt (closed_in less) 511)
    where
      go : Dec (closed_in less < 511) → Noted (group a b l) T (closed (last_in T₁) T₂)
      go (yes q) =
          let f = last_in T₁ in
          let e = less_closed in
          let c = row-closed less less_long f q in
          rw (lt-ltb (closed_in less) 511 q) (record {
            notes = record {
              long = row-long less less_long f q;
              few_open = rw (row_open less less_long f q ∙ less_open) g.few_open;
              few_closed = rw c (omega arith);
            };
            as_many_open = row_open less less_long f q ∙ less_open;
            few = λ p. group-rows (omega arith);
            many = λ p. absurd (many-not p q);
          })
        where
          many-not : 511 < closed_in T + suc (groups a + groups b) → closed_in less < 511 → ⊥
          many-not p r = split (dec_le (closed_in T + (groups a + groups b)) 511)
            where
              split : Dec (closed_in T + (groups a + groups b) ≤ 511) → ⊥
              split (yes s) = let x = closed_before s in let y = less_closed in omega arith
              split (no s) = let x = closed-many (omega arith) in let y = less_closed in omega arith
      go (no q) =
          let e = less_closed in
          let long = less_long in
          let c = get_or-set_same less 1022 512 0 (omega arith) in
          let o = get_or-set_other less 1022 1024 512 0 (omega arith) ∙ less_open in
          rw (le-ltb (closed_in less) 511 (omega arith)) (record {
            notes = record {
              long = simp length-set nb.notes.long;
              few_open = rw o g.few_open;
              few_closed = rw c (omega arith);
            };
            as_many_open = o;
            few = λ p. absurd (let x = closed_before (omega arith) in omega arith);
            many = λ p. c;
          })
