-- The end of a text, and the whole of it: what was read up to the semicolon, and what stands behind it.
use Rattle.std.specs.Prelude.{Option, Some, None}
use Rattle.std.proofs.Common.{take_all}
use Prim.Native.Nat.{ℕ, ◌+◌, ◌-◌, ◌≤◌, ◌<◌}
use mathlib.Core.Path.{◌≡◌, refl, sym, ap, ◌∙◌, subst}
use mathlib.Core.Logic.{◌≢◌}
use mathlib.Core.Bool.{Bool, true, false, cond}
use mathlib.Core.List.{List, [], ◌∷◌}
use native.Mathlib.Omega.{arith}
use borrow.Author.Tests.{eq-eqb, ne_eqb}
use lib.Dec.{eqb}
use lib.ListN.{length, get_or, take, drop, length-drop, replicate, get_or-replicate}
use Rattle.newick.specs.Reading.{head, broken, read, subtree_in, is_end, text_read}
use Rattle.work_newick_reading.specs.Notes.{open_in}
use Rattle.work_newick_reading.specs.Reads.{Reads, ReadsWhole}
use Rattle.work_newick_reading.proofs.Text.{head_at, behind-at}
use Rattle.work_newick_reading.proofs.ReaderLaws.{answered_none, Got, answered}

-- ---- the end

pub rest-all : (text : List ℕ) (at : ℕ) → take (length text - at) (drop at text) ≡ drop at text
rest-all text at = take_all (length text - at) (drop at text) (omega (arith, length-drop at text))

pub end-nothing : (xs : List ℕ) → length xs < 1 → true ≡ is_end xs
unfolding is_end
end-nothing [] h = refl
end-nothing (x ∷ xs) h = absurd (omega arith)

pub end_one : (xs : List ℕ) → 1 ≤ length xs → length xs < 2 → eqb (get_or xs 0 0) 10 ≡ is_end xs
unfolding is_end
end_one [] p q = absurd (omega arith)
end_one (x ∷ []) p q = refl
end_one (x ∷ y ∷ xs) p q = absurd (omega arith)

pub end_more : (xs : List ℕ) → 2 ≤ length xs → false ≡ is_end xs
unfolding is_end
end_more [] h = absurd (omega arith)
end_more (x ∷ []) h = absurd (omega arith)
end_more (x ∷ y ∷ xs) h = refl

-- ---- the whole

module _ (text T T' : List ℕ) (fresh : T ≡ replicate 1025 0) where
  all_open : 511 - open_in T ≡ 511
  all_open = ap (λ k. 511 - k) (ap open_in fresh ∙ get_or-replicate {A = ℕ} 1025 1024 0 0 (omega arith))

  reads : (r : Option ℕ) → Reads (subtree_in (511 - open_in T) (drop 0 text)) text 0 T T' r → Reads (subtree_in 511 text) text 0 T T' r
  reads r whole = subst (λ d. Reads (subtree_in d text) text 0 T T' r) all_open whole

  pub text-broken : Reads (subtree_in (511 - open_in T) (drop 0 text)) text 0 T T' None → ReadsWhole (text_read text) T T' false
  unfolding text_read
  text-broken whole = rw (answered_none text 0 T T' (subtree_in 511 text) (reads None whole)) refl

  module _ (end : ℕ) (whole : Reads (subtree_in (511 - open_in T) (drop 0 text)) text 0 T T' (Some end)) where
    pub got : Got text 0 T T' (subtree_in 511 text) end
    got = answered text 0 T T' (subtree_in 511 text) end (reads (Some end) whole)

    pub no_semicolon : get_or text end 256 ≢ 59 → ReadsWhole (text_read text) T T' false
    unfolding text_read
    no_semicolon h = rw (got.is_read, ne_eqb (head (drop end text)) 59 (λ z. h (sym (head_at text end) ∙ z))) refl

    module _ (there : get_or text end 256 ≡ 59) where
      text-is : text_read text ≡ cond (is_end (drop (end + 1) text)) (read got.sentence []) broken
      unfolding text_read
      text-is = rw (got.is_read, eq-eqb (head (drop end text)) 59 (head_at text end ∙ there), behind-at text end) refl

      pub text-whole : (r : Bool) → r ≡ is_end (drop (end + 1) text) → ReadsWhole (text_read text) T T' r
      text-whole true e = rw (text-is, ← e) (refl, got.its_notes)
      text-whole false e = rw (text-is, ← e) refl
