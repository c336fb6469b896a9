-- There and back: parts that packing accepts are read from the bytes that they make, and those bytes are an accepted record; an
-- accepted record's parts make its bytes again.
use Prim.Native.Nat.{ℕ, zero, suc, ◌+◌, ◌-◌, ◌*◌, ◌/◌, ◌%◌, ◌≤◌, ◌<◌}
use mathlib.Core.Path.{◌≡◌, refl, sym, ap, ap₂, ◌∙◌}
use mathlib.Core.Bool.{true}
use mathlib.Core.List.{List, [], ◌∷◌, ◌++◌, append_assoc, map}
use native.Mathlib.Nat.{div-add-mod'}
use native.Mathlib.Numerals.{add-one}
use native.Mathlib.Omega.{arith}
use borrow.Author.Tests.{eqb-true}
use lib.ListN.{length, get_or, take, drop, length-append, length-drop, take-append-drop, get_or-append}
use lib.Seq.{take-suc, take_all, take_at, drop_at, drop-drop, get_or-drop, get_or-append-add, ext_get_or}
use Rattle.tanglegram.specs.Lists.{Each, range}
use Rattle.tanglegram.proofs.Lists.{each_get_d, append-nil}
use Rattle.record_fields.specs.Fields.{two, numbers, bytes, split, hold_of, size_of, right_at, links_at}
use Rattle.record_fields.specs.Fields.{left_layout_at, right_layout_at, length_of, Parts}
use Rattle.record_fields.specs.Fields.{given, opening, parts, parts_of, packed}
use Rattle.record_fields.specs.Refusals.{is_mark, is_hold, no_size, contents_refusal, heading_refusal, refusal}
use Rattle.tanglegram.proofs.Bools.{and_both}
use Rattle.work_trees.proofs.Stores.{take_more}
use Rattle.record_fields.proofs.Stores.{get_d_made, length-numbers, length-split, split-append, map-range-end, length-bytes}
use Rattle.record_fields.proofs.Heading.{heading_0, unsized}
use Rattle.record_fields.proofs.Acceptance.{accepted_heading, accepted_contents, refusal_contents}
use Rattle.record_packing.specs.Refusals.{pack_refusal}
use Rattle.record_packing.proofs.Packed.{ShapedParts, shape_good, shape_0, packing_good, packing_0, length-packed}

-- ---- reading what was put together

-- the two bytes of each number, one after the other
get_d_split : (xs : List ℕ) (i : ℕ) → (get_or (split xs) (2 * i) 0 ≡ get_or xs i 0 / 256) × (get_or (split xs) (2 * i + 1) 0 ≡ get_or xs i 0 % 256)
unfolding split
get_d_split [] i = (refl, refl)
get_d_split (x ∷ xs) zero = (refl, refl)
get_d_split (x ∷ xs) (suc i) =
    let r = get_d_split xs i in
    let e : 2 * suc i ≡ suc (suc (2 * i)) = omega arith in
    let f : 2 * suc i + 1 ≡ suc (suc (2 * i + 1)) = omega arith in
    (ap (λ k. get_or (split (x ∷ xs)) k 0) e ∙ r.0, ap (λ k. get_or (split (x ∷ xs)) k 0) f ∙ r.1)

-- an entry of the part in the middle
get_d_middle : (pre mid post : List ℕ) (k i : ℕ) → length pre ≡ k → i < length mid → get_or (pre ++ (mid ++ post)) (k + i) 0 ≡ get_or mid i 0
get_d_middle pre mid post k i e h =
    ap (λ k. get_or (pre ++ (mid ++ post)) (k + i) 0) (sym e)
    ∙ get_or-append-add pre (mid ++ post) i 0
    ∙ get_or-append mid post 0 i h

numbers_middle : (s pre xs post : List ℕ) {k m : ℕ} → s ≡ pre ++ (split xs ++ post) → length pre ≡ k → length xs ≡ m → numbers s k m ≡ xs
unfolding numbers
numbers_middle s pre xs post {k} {m} put e f =
    let n = length-numbers s k m in
    ext_get_or 0 (numbers s k m) xs (n ∙ sym f) (λ i h. entry i (omega arith))
  where
    entry : (i : ℕ) → i < m → get_or (numbers s k m) i 0 ≡ get_or xs i 0
    entry i h =
        let r = get_d_split xs i in
        let l = length-split xs in
        let at : (j : ℕ) → j < length (split xs) → get_or s (k + j) 0 ≡ get_or (split xs) j 0 =
        λ j h. ap (λ s. get_or s (k + j) 0) put ∙ get_d_middle pre (split xs) post k j e h in
        let p : k + 2 * i + 1 ≡ k + (2 * i + 1) = omega arith in
        let high = at (2 * i) (omega arith) ∙ r.0 in
        let low = ap (λ j. get_or s j 0) p ∙ at (2 * i + 1) (omega arith) ∙ r.1 in
        get_d_made (λ i. two s (k + 2 * i)) m i h ∙ ap₂ (λ a b. a * 256 + b) high low ∙ div-add-mod' (get_or xs i 0) 256

bytes_middle : (s pre xs post : List ℕ) {k m : ℕ} → s ≡ pre ++ (xs ++ post) → length pre ≡ k → length xs ≡ m → bytes s k m ≡ xs
bytes_middle s pre xs post {k} {m} put e f = rw put (ap (take m) (drop_at pre (xs ++ post) k e) ∙ take_at xs post m f)

-- ---- the parts of a packed record

pub size-packed : (P : Parts) → size_of (packed P) ≡ P.size
unfolding packed
size-packed P = div-add-mod' P.size 256

parts-of-packed : (P : Parts) → ShapedParts P → parts_of (packed P) P.size ≡ P
unfolding packed parts_of
parts-of-packed P g =
    let n = P.size in
    let s = packed P in
    let left = split P.left_rows in
    let right = split P.right_rows in
    let links = split P.links in
    let p₀ = opening P.hold n in
    let p₁ = p₀ ++ left in
    let p₂ = p₁ ++ right in
    let p₃ = p₂ ++ links in
    let p₄ = p₃ ++ P.left_layout in
    let l₁ : length p₁ ≡ right_at n = omega (arith, length-append p₀ left, length-split P.left_rows) in
    let l₂ : length p₂ ≡ links_at n = omega (arith, length-append p₁ right, length-split P.right_rows) in
    let l₃ : length p₃ ≡ left_layout_at n = omega (arith, length-append p₂ links, length-split P.links) in
    let l₄ : length p₄ ≡ right_layout_at n = omega (arith, length-append p₃ P.left_layout) in
    let layouts = P.left_layout ++ P.right_layout in
    let e₁ : s ≡ p₁ ++ (right ++ (links ++ layouts)) = sym (append_assoc p₀ left (right ++ (links ++ layouts))) in
    let e₂ : s ≡ p₂ ++ (links ++ layouts) = e₁ ∙ sym (append_assoc p₁ right (links ++ layouts)) in
    let e₃ : s ≡ p₃ ++ layouts = e₂ ∙ sym (append_assoc p₂ links layouts) in
    let e₄ : s ≡ p₄ ++ (P.right_layout ++ []) =
    e₃ ∙ sym (append_assoc p₃ P.left_layout P.right_layout) ∙ ap (λ r. p₄ ++ r) (sym (append-nil P.right_layout)) in
    made
    (numbers_middle s p₀ P.left_rows (right ++ (links ++ layouts)) refl refl g.left_long)
    (numbers_middle s p₁ P.right_rows (links ++ layouts) e₁ l₁ g.right_long)
    (numbers_middle s p₂ P.links layouts e₂ l₂ g.links_long)
    (bytes_middle s p₃ P.left_layout P.right_layout e₃ l₃ g.left_layout_long)
    (bytes_middle s p₄ P.right_layout [] e₄ l₄ g.right_layout_long)
  where
    made : {left right links left_layout right_layout : List ℕ} → left ≡ P.left_rows → right ≡ P.right_rows → links ≡ P.links →
        left_layout ≡ P.left_layout → right_layout ≡ P.right_layout →
        given P.hold P.size left right links left_layout right_layout ≡ P
    made a b c d e = rw (a, b, c, d, e) refl

pub parts-packed : (P : Parts) (out : List ℕ) → pack_refusal P out ≡ 0 → parts (packed P) ≡ P
parts-packed P out e =
    ap (parts_of (packed P)) (size-packed P) ∙ parts-of-packed P (shape_good P (packing_good P out e).0).1

pub packed-accepted : (P : Parts) (out : List ℕ) → pack_refusal P out ≡ 0 → refusal (packed P) ≡ 0
unfolding packed is_mark
packed-accepted P out e =
    let z = packing_good P out e in
    let g = shape_good P z.0 in
    let h = heading_packed g in
    refusal_contents (packed P) h ∙ ap contents_refusal (parts-packed P out e) ∙ z.1
  where
    heading_packed : (is_hold P.hold ≡ true) × ShapedParts P → heading_refusal (packed P) ≡ 0
    heading_packed g =
        let n = size-packed P in
        let l = length-packed P g.1 in
        sym (heading_0 (packed P) (omega arith) refl refl g.0 (ap no_size n ∙ unsized P.size g.1.some g.1.most)
        (l ∙ ap length_of (sym n)))

-- ---- the bytes that a record's parts make

take_made : (s : List ℕ) (m : ℕ) → m ≤ length s → take m s ≡ map (λ i. get_or s i 0) (range 0 m)
unfolding range
take_made s zero h = refl
take_made s (suc m) h =
    take-suc s m 0 h
    ∙ ap (λ r. r ++ (get_or s m 0 ∷ [])) (take_made s m (omega arith))
    ∙ sym (map-range-end (λ i. get_or s i 0) m)
    ∙ ap (λ k. map (λ i. get_or s i 0) (range 0 k)) (add-one m)

module _ (s : List ℕ) (small : Each (λ b. b < 256) s) where
  -- the bytes of the numbers from place k on
  split-numbers : (k m : ℕ) → k + 2 * m ≤ length s → split (numbers s k m) ≡ bytes s k (2 * m)
  unfolding numbers split range
  split-numbers k zero h = refl
  split-numbers k (suc m) h =
      let f : ℕ → ℕ = λ i. two s (k + 2 * i) in
      let q = k + 2 * m in
      let r = drop k s in
      let n = length-drop k s in
      let high = each_get_d (λ b. b < 256) s (omega arith) small q in
      let low = each_get_d (λ b. b < 256) s (omega arith) small (q + 1) in
      let a : f m / 256 ≡ get_or r (2 * m) 0 = omega (arith, get_or-drop k s (2 * m) 0) in
      let j : k + (2 * m + 1) ≡ q + 1 = omega arith in
      let b : f m % 256 ≡ get_or r (2 * m + 1) 0 = omega (arith, get_or-drop k s (2 * m + 1) 0 ∙ ap (λ k. get_or s k 0) j) in
      let i : 2 * m + 1 + 1 ≡ 2 * suc m = omega arith in
      ap (λ k. split (map f (range 0 k))) (sym (add-one m))
      ∙ ap split (map-range-end f m)
      ∙ split-append (map f (range 0 m)) (f m ∷ [])
      ∙ ap₂ (λ x y. split (numbers s k m) ++ (x ∷ y ∷ [])) a b
      ∙ ap (λ l. l ++ (get_or r (2 * m) 0 ∷ get_or r (2 * m + 1) 0 ∷ [])) (split-numbers k m (omega arith))
      ∙ sym (append_assoc (take (2 * m) r) (get_or r (2 * m) 0 ∷ []) (get_or r (2 * m + 1) 0 ∷ []))
      ∙ ap (λ l. l ++ (get_or r (2 * m + 1) 0 ∷ [])) (sym (take_more r (2 * m) 0 (omega arith)))
      ∙ sym (take_more r (2 * m + 1) 0 (omega arith))
      ∙ ap (λ k. take k r) i

  -- the next bytes and all after them
  bytes_on : (k m l : ℕ) (rest : List ℕ) → k + m ≡ l → rest ≡ drop l s → bytes s k m ++ rest ≡ drop k s
  bytes_on k m l rest e f = rw (f, ← e, ← drop-drop m k s) (take-append-drop m (drop k s))

  -- the first eight bytes of an accepted record
  opening_record : refusal s ≡ 0 → opening (hold_of s) (size_of s) ≡ take 8 s
  unfolding is_mark range
  opening_record e =
      let g = accepted_heading s e in
      let m = and_both _ _ g.mark in
      let m' = and_both _ _ m.1 in
      let byte : (i : ℕ) → get_or s i 0 < 256 = each_get_d (λ b. b < 256) s (omega arith) small in
      let b₀ : get_or s 0 0 ≡ 84 = eqb-true _ _ m.0 in
      let b₁ : get_or s 1 0 ≡ 71 = eqb-true _ _ m'.0 in
      let b₂ : get_or s 2 0 ≡ 80 = eqb-true _ _ m'.1 in
      let b₃ : 0 ≡ get_or s 3 0 = omega (arith, g.version, byte 4) in
      let b₄ : 1 ≡ get_or s 4 0 = omega (arith, g.version, byte 4) in
      let b₆ : size_of s / 256 ≡ get_or s 6 0 = omega (arith, byte 7) in
      let b₇ : size_of s % 256 ≡ get_or s 7 0 = omega (arith, byte 7) in
      rw (b₆, b₇, take_made s 8 g.long, b₀, b₁, b₂, ← b₃, ← b₄) refl

  pub packed-parts : refusal s ≡ 0 → packed (parts s) ≡ s
  unfolding packed parts_of
  packed-parts e =
      let g = accepted_heading s e in
      let n = size_of s in
      let last : bytes s (right_layout_at n) (n - 1) ≡ drop (right_layout_at n) s =
      take_all (n - 1) (drop (right_layout_at n) s) (omega (arith, length-drop (right_layout_at n) s)) in
      ap₂ (λ a r. a ++ r) (opening_record e)
      (ap₂ (λ a r. a ++ r) (split-numbers 8 (2 * (n - 1)) (omega arith))
      (ap₂ (λ a r. a ++ r) (split-numbers (right_at n) (2 * (n - 1)) (omega arith))
      (ap₂ (λ a r. a ++ r) (split-numbers (links_at n) n (omega arith))
      (bytes_on (left_layout_at n) (n - 1) (right_layout_at n) _ refl last)
      ∙ bytes_on (links_at n) (2 * n) (left_layout_at n) _ refl refl)
      ∙ bytes_on (right_at n) (2 * (2 * (n - 1))) (links_at n) _ (omega arith) refl)
      ∙ bytes_on 8 (2 * (2 * (n - 1))) (right_at n) _ (omega arith) refl)
      ∙ take-append-drop 8 s

-- and packing accepts them, into a buffer that has room
pub parts-accepted : (s out : List ℕ) → refusal s ≡ 0 → length s ≤ length out → pack_refusal (parts s) out ≡ 0
unfolding parts_of
parts-accepted s out e h =
    let g = accepted_heading s e in
    let n = size_of s in
    let shaped : ShapedParts (parts s) = record {
      some = g.some;
      most = g.most;
      left_long = length-numbers s 8 (2 * (n - 1));
      right_long = length-numbers s (right_at n) (2 * (n - 1));
      links_long = length-numbers s (links_at n) n;
      left_layout_long = length-bytes s (left_layout_at n) (n - 1) (omega arith);
      right_layout_long = length-bytes s (right_layout_at n) (n - 1) (omega arith);
    } in
    sym (packing_0 (parts s) out (shape_0 (parts s) g.hold shaped) (accepted_contents s e) (omega arith))
