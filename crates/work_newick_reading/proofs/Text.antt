-- Places of a text: the byte at a place, and the text from a place on.
use Rattle.std.specs.Prelude.{Some, None, slice_get, unwrap_or}
use Rattle.std.proofs.lemmas.Option.{unwrap_or-slice_get, get_or_from_slice_get}
use Prim.Native.Nat.{ℕ, suc, ◌+◌, ◌≤◌, ◌<◌}
use mathlib.Core.Path.{◌≡◌, refl, sym, ap, ◌∙◌}
use mathlib.Core.Logic.{◌≢◌}
use mathlib.Core.List.{List, [], ◌∷◌}
use native.Mathlib.Nat.{add-zero}
use native.Mathlib.Numerals.{add-one}
use native.Mathlib.Decide.{dec_lt}
use native.Mathlib.Omega.{arith}
use lib.ListN.{length, get_or, drop, drop_of_length-le, get_or-eq_default}
use lib.Seq.{get_or-drop, drop-drop, drop-cons}
use Rattle.newick.specs.Reading.{head, behind}
use Rattle.work_newick_reading.specs.Text.{Place}

-- within a list it does not matter what stands for nothing
pub within_same : (xs : List ℕ) (at d e : ℕ) → at < length xs → get_or xs at d ≡ get_or xs at e
within_same [] at d e h = absurd (omega arith)
within_same (x ∷ xs) ℕ.zero d e h = refl
within_same (x ∷ xs) (suc at) d e h = within_same xs at d e (omega arith)

module _ (text : List ℕ) where
  pub past_end : (at : ℕ) → length text ≤ at → 256 ≡ get_or text at 256
  past_end at h = sym (get_or-eq_default text 256 h)

  -- where a byte stands, the text has not ended
  pub byte-within : (at : ℕ) → get_or text at 256 ≢ 256 → at < length text
  byte-within at h = go (dec_lt at (length text))
    where
      go : Dec (at < length text) → at < length text
      go (yes p) = p
      go (no p) = absurd (h (sym (past_end at (omega arith))))

  pub head_at : (at : ℕ) → head (drop at text) ≡ get_or text at 256
  head_at at = get_or-drop at text 0 256 ∙ ap (λ k. get_or text k 256) (add-zero at)

  pub behind-at : (at : ℕ) → behind (drop at text) ≡ drop (at + 1) text
  behind-at at = drop-drop 1 at text

  -- the text from a place on: the byte there, and the text behind it
  pub text_at : (at : ℕ) → at < length text → drop at text ≡ get_or text at 0 ∷ drop (at + 1) text
  text_at at h = rw add-one (drop-cons text at 0 h)

  pub text-ended : (at : ℕ) → length text ≤ at → drop at text ≡ []
  text-ended at h = drop_of_length-le text h

  -- the place behind a byte
  pub place-behind : (at b : ℕ) → Place text at → get_or text at 256 ≡ b → b < 256 → Place text (at + 1)
  place-behind at b p e h =
      let there = byte-within at (λ z. absurd (omega arith)) in
      record { within = omega arith; in_memory = p.in_memory }

-- what the byte at a place tells
pub no_byte : (text : List ℕ) (at : ℕ) → None ≡ slice_get text at → get_or text at 256 ≡ 256
no_byte text at e = sym (unwrap_or-slice_get text at 256) ∙ ap (λ o. unwrap_or o 256) (sym e)

pub byte_is : (text : List ℕ) (at byte : ℕ) → Some byte ≡ slice_get text at → get_or text at 256 ≡ byte
byte_is text at byte e = get_or_from_slice_get text at byte 256 (sym e)
