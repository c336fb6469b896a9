-- A record with another hold: all other parts stay, and it is accepted again.
use Prim.Native.Nat.{ℕ, zero, suc, ◌+◌, ◌-◌, ◌*◌, ◌<◌}
use mathlib.Core.Path.{◌≡◌, refl, sym, ap, ◌∙◌}
use mathlib.Core.Bool.{true}
use mathlib.Core.List.{List, [], ◌∷◌}
use mathlib.Core.Logic.{◌≢◌}
use native.Mathlib.Omega.{arith}
use lib.ListN.{length, set, take, drop, length-set}
use lib.Seq.{get_or-set_same, get_or-set_other}
use Rattle.record_fields.specs.Fields.{two, numbers, bytes, hold_at, size_of, right_at, links_at, left_layout_at, right_layout_at}
use Rattle.record_fields.specs.Fields.{length_of, Parts, given, parts_of, parts}
use Rattle.record_fields.specs.Refusals.{is_mark, is_hold, no_size, heading_refusal, contents_refusal, refusal}
use Rattle.record_fields.proofs.Stores.{numbers_ext}
use Rattle.record_fields.proofs.Heading.{heading_0, unsized}
use Rattle.record_fields.proofs.Contents.{contents_0}
use Rattle.record_fields.proofs.Acceptance.{accepted_heading, accepted-parts, else_second}

drop-set : (s : List ℕ) (k i v : ℕ) → i < k → drop k (set s i v) ≡ drop k s
drop-set [] k i v h = refl
drop-set (x ∷ s) zero i v h = absurd (omega arith)
drop-set (x ∷ s) (suc k) zero v h = refl
drop-set (x ∷ s) (suc k) (suc i) v h = drop-set s k i v (omega arith)

-- Parts with another hold.
abbrev pub reheld_in : Parts → ℕ → Parts
reheld_in P v = given v P.size P.left_rows P.right_rows P.links P.left_layout P.right_layout

module _ (s : List ℕ) (v : ℕ) where
  two_rehold : (k : ℕ) → k ≢ hold_at → k + 1 ≢ hold_at → two (set s hold_at v) k ≡ two s k
  two_rehold k p q = rw (get_or-set_other s hold_at k v 0 p, get_or-set_other s hold_at (k + 1) v 0 q) refl

  numbers_rehold : (k m : ℕ) → hold_at < k → numbers (set s hold_at v) k m ≡ numbers s k m
  numbers_rehold k m h =
      numbers_ext s (set s hold_at v) k m (λ i q. two_rehold (k + 2 * i) (λ e. omega arith) (λ e. omega arith))

  bytes_same : (k m : ℕ) → hold_at < k → bytes (set s hold_at v) k m ≡ bytes s k m
  bytes_same k m h = ap (take m) (drop-set s k hold_at v h)

  pub size_rehold : size_of (set s hold_at v) ≡ size_of s
  size_rehold = two_rehold 6 (λ e. omega arith) (λ e. omega arith)

  pub parts_rehold : hold_at < length s → parts (set s hold_at v) ≡ reheld_in (parts s) v
  unfolding parts_of
  parts_rehold h =
      let n = size_of s in
      ap (parts_of (set s hold_at v)) size_rehold
      ∙ rw (
        get_or-set_same s hold_at v 0 h,
        numbers_rehold 8 (2 * (n - 1)) (omega arith),
        numbers_rehold (right_at n) (2 * (n - 1)) (omega arith),
        numbers_rehold (links_at n) n (omega arith),
        bytes_same (left_layout_at n) (n - 1) (omega arith),
        bytes_same (right_layout_at n) (n - 1) (omega arith),
      ) refl

  pub rehold_accepted : refusal s ≡ 0 → is_hold v ≡ true → refusal (set s hold_at v) ≡ 0
  unfolding refusal
  rehold_accepted a h =
      let g = accepted_heading s a in
      let c = accepted-parts s a in
      let long = length-set s hold_at v in
      let mark : is_mark (set s hold_at v) ≡ true =
      unfold is_mark in
      rw (
        get_or-set_other s hold_at 0 v 0 (λ e. omega arith),
        get_or-set_other s hold_at 1 v 0 (λ e. omega arith),
        get_or-set_other s hold_at 2 v 0 (λ e. omega arith),
      ) g.mark in
      let head = heading_0 (set s hold_at v) (omega (arith, long, g.long)) mark
      (two_rehold 3 (λ e. omega arith) (λ e. omega arith) ∙ g.version)
      (ap is_hold (get_or-set_same s hold_at v 0 (omega (arith, g.long))) ∙ h)
      (ap no_size size_rehold ∙ unsized (size_of s) g.some g.most) (long ∙ g.whole ∙ ap length_of (sym size_rehold)) in
      let body : 0 ≡ contents_refusal (parts (set s hold_at v)) =
      rw (parts_rehold (omega (arith, g.long)))
      (contents_0 (reheld_in (parts s) v) c.left c.right c.linked c.left_bytes c.right_bytes) in
      else_second (heading_refusal (set s hold_at v)) (contents_refusal (parts (set s hold_at v))) (sym head) ∙ sym body
